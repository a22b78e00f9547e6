use Rattle.std.proofs.Common.{sym, subst}
use Rattle.std.proofs.lemmas.Result.{err_from_is_err_and}
use Rattle.eco_base.specs.Texts.{AreRead}
use Rattle.sha2.specs.Hashers.{Holds256}
use Rattle.eco_base.specs.Digests.{framed}
use Rattle.eco_base.specs.declared.sources.Sources.{Sources}
use Rattle.eco_base.specs.Parts.{parts_of}
use Rattle.eco_base.specs.Opened.{IsOpened}
use Rattle.eco_base.proofs.FirstFaults.{parts_first, read_same, digest_known, open_is}
use Rattle.eco_base.proofs.opening.open_base.Goals as goal

pub returns-in_err-maker : goal.returns-in_err-maker
returns-in_err-maker c =
    let p = err_from_is_err_and c.from_residual-in_err-maker.result c.from_residual-in_err-maker.ensures.1 in
    rw (p.1, p.2) (parts_first c.args.lef.items c.args.def.items c.args.functions.items c.args.desk.items c.deref.result.now c.deref-2.result.now c.deref-3.result.now c.deref.ensures.value c.deref-2.ensures.value c.deref-3.ensures.value
    c.in_ok-texts.texts c.in_ok-texts.ensures.texts c.in_err-maker.field-0.0 c.in_err-maker.ensures.fault)

pub returns-in_err-stocked : goal.returns-in_err-stocked
returns-in_err-stocked c =
    let p = err_from_is_err_and c.from_residual-in_err-stocked.result c.from_residual-in_err-stocked.ensures.1 in
    rw (p.1, p.2) (parts_first c.args.lef.items c.args.def.items c.args.functions.items c.args.desk.items c.deref.result.now c.deref-2.result.now c.deref-3.result.now c.deref.ensures.value c.deref-2.ensures.value c.deref-3.ensures.value
    c.in_ok-texts.texts c.in_ok-texts.ensures.texts c.in_err-stocked.field-0.0 c.in_err-stocked.ensures.fault)

pub of-requires : goal.of-requires
of-requires c = open_is c.in_ok-texts.texts (subst AreRead c.texts.view_is c.texts.invariant) c.in_ok-maker.ensures.joined.faultless c.in_ok-stocked.stocked c.in_ok-stocked.ensures.stocked (record { lef = c.after.result; functions = c.args.functions; desk = c.args.desk })

pub returns : goal.returns
returns c =
    let lef = c.args.lef.items in
    let def = c.args.def.items in
    let functions = c.args.functions.items in
    let desk = c.args.desk.items in
    let t = c.in_ok-texts.texts in
    let s = c.in_ok-stocked.stocked in
    let from : Sources = record { lef = c.after.result; functions = c.args.functions; desk = c.args.desk } in
    let read = read_same lef def functions desk c.deref.result.now c.deref-2.result.now c.deref-3.result.now c.deref.ensures.value c.deref-2.ensures.value c.deref-3.ensures.value t c.in_ok-texts.ensures.texts in
    let held : Holds256 c.after.result (framed lef) = subst (λ text. Holds256 c.after.result (framed text)) c.deref-4.ensures.value c.after.ensures in
    let opened : IsOpened lef def functions desk (parts_of t s from) = record {
      read = read;
      digest = digest_known lef def functions desk t read c.after.result held;
      base = open_is t (subst AreRead c.texts.view_is c.texts.invariant) c.in_ok-maker.ensures.joined.faultless s c.in_ok-stocked.ensures.stocked from;
    } in
    subst (IsOpened lef def functions desk) (sym c.of.ensures) opened
