use Rattle.std.proofs.Common.{refl, sym, subst}
use Rattle.std.proofs.lemmas.Result.{err_from_is_err_and}
use Rattle.eco_def.specs.Sections.{IsReadingOf}
use Rattle.eco_base.specs.TextFaults.{BlamesDef}
use Rattle.eco_base.specs.Texts.{TextParts, IsReadFrom}
use Rattle.eco_base.proofs.LibraryWords.{library_words}
use Rattle.eco_base.proofs.ReadingFaults.{lef_first, def_first, functions_first, desk_first}
use Rattle.eco_base.proofs.reading.read_texts.Goals as goal

pub returns-in_err-library-clause-fault : goal.returns-in_err-library-clause-fault
returns-in_err-library-clause-fault c =
    let p = err_from_is_err_and c.from_residual.result c.from_residual.ensures.1 in
    rw (p.1, p.2) (lef_first c.args.lef.now c.args.def.items c.args.functions.now c.args.desk.now c.in_err-library.field-0.0 c.in_err-library.ensures.fault)

pub returns-in_err-design-clause-fault : goal.returns-in_err-design-clause-fault
returns-in_err-design-clause-fault c =
    let p = err_from_is_err_and c.from_residual-in_err-design.result c.from_residual-in_err-design.ensures.1 in
    let fault = subst (λ text. BlamesDef text c.in_err-design.field-0.0) c.deref.ensures.value c.in_err-design.ensures.fault in
    rw (p.1, p.2) (def_first c.args.lef.now c.args.def.items c.args.functions.now c.args.desk.now (c.in_ok-library.library, c.in_ok-library.ensures.library) c.in_err-design.field-0.0 fault)

pub returns-in_err-functions-clause-fault : goal.returns-in_err-functions-clause-fault
returns-in_err-functions-clause-fault c =
    let p = err_from_is_err_and c.from_residual-in_err-functions.result c.from_residual-in_err-functions.ensures.1 in
    let design = c.in_ok-design.design in
    let reading = subst (λ text. IsReadingOf text design) c.deref.ensures.value c.in_ok-design.ensures.design in
    rw (p.1, p.2) (functions_first c.args.lef.now c.args.def.items c.args.functions.now c.args.desk.now (c.in_ok-library.library, c.in_ok-library.ensures.library) (design, reading) c.in_err-functions.field-0.0 c.in_err-functions.ensures.fault)

pub returns-in_err-desk-clause-fault : goal.returns-in_err-desk-clause-fault
returns-in_err-desk-clause-fault c =
    let p = err_from_is_err_and c.from_residual-in_err-desk.result c.from_residual-in_err-desk.ensures.1 in
    let design = c.in_ok-design.design in
    let reading = subst (λ text. IsReadingOf text design) c.deref.ensures.value c.in_ok-design.ensures.design in
    rw (p.1, p.2) (desk_first c.args.lef.now c.args.def.items c.args.functions.now c.args.desk.now (c.in_ok-library.library, c.in_ok-library.ensures.library) (design, reading) (c.in_ok-functions.functions, c.in_ok-functions.ensures.functions) c.in_err-desk.field-0.0 c.in_err-desk.ensures.fault)

pub of-requires : goal.of-requires
of-requires c = record {
  reading = subst (λ text. IsReadingOf text c.in_ok-design.design) c.deref.ensures.value c.in_ok-design.ensures.design;
  own_names = c.in_ok-library.ensures.names;
  sizes = c.in_ok-library.ensures.sizes;
  words = library_words c.args.lef.now c.in_ok-library.library c.in_ok-library.ensures.library;
  masters = c.in_ok-functions.ensures.masters;
}

pub returns-clause-texts : goal.returns-clause-texts
returns-clause-texts c =
    let t : TextParts = record { text = c.args.def.items; design = c.in_ok-design.design; library = c.in_ok-library.library; functions = c.in_ok-functions.functions; desk = c.in_ok-desk.desk } in
    let read : IsReadFrom c.args.lef.now c.args.def.items c.args.functions.now c.args.desk.now t = record {
      text_is = refl;
      library_is = c.in_ok-library.ensures.library;
      design_is = subst (λ text. IsReadingOf text c.in_ok-design.design) c.deref.ensures.value c.in_ok-design.ensures.design;
      functions_are = c.in_ok-functions.ensures.functions;
      desk_is = c.in_ok-desk.ensures.desk;
    } in
    subst (IsReadFrom c.args.lef.now c.args.def.items c.args.functions.now c.args.desk.now) (sym c.of.ensures) read
