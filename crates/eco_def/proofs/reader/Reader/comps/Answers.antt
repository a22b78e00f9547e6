use Rattle.std.proofs.Common.{map, codes, ap, sym, ◌∙◌, nat_lt, length, Some}
use Rattle.std.proofs.lemmas.List.{length-map}
use Rattle.std.proofs.lemmas.Result.{err_from_is_err_and}
use Rattle.eco_common.specs.declared.limits.TheConstants.{MAX_COMPS}
use Rattle.eco_def.specs.Grammar.{comp_within, comp_new_within}
use Rattle.eco_text.specs.Tokens.{is_word}
use Rattle.eco_def.specs.View.{comp_in, comps_in}
use Rattle.eco_def.proofs.Loops.{one_pushed, stuck, map_push}
use Rattle.eco_def.proofs.Knowing.{known_more, read_known_in}
use Rattle.eco_def.proofs.reader.Reader.comps.Goals as goal

pub returns-in_err-comp : goal.returns-in_err-comp
returns-in_err-comp c =
    let i = c.comps.invariant in
    let front = map (comp_in c.args.self.now.words.text) c.comps.comps in
    let p = err_from_is_err_and c.from_residual-in_err-comp.result c.from_residual-in_err-comp.ensures.1 in
    rw (p.1, p.2)
    (stuck (is_word (codes "-")) (comp_within (Some MAX_COMPS)) comp_in comps_in c.args.self.now.words front c.comps.self.words c.comp.new.self.words c.in_err-comp.field-0.0 i.1 c.comps-test.ensures
    (read_known_in 1 comp_in comp_new_within c.comps.names (map (λ k. k.name.bytes) front) c.comps.self.words c.comp.new.self.words _ _ (nat_lt (length front) MAX_COMPS) (ap (λ k. nat_lt k MAX_COMPS) (c.len-room.ensures ∙ sym (length-map c.comps.comps (comp_in c.args.self.now.words.text)))) i.0 c.in_err-comp.ensures.reads))

pub comps-preserved : goal.comps-preserved
comps-preserved c =
    let i = c.comps.invariant in
    let text = c.args.self.now.words.text in
    let front = map (comp_in text) c.comps.comps in
    let k = c.in_ok-comp.comp in (
      known_more c.comps.names c.comp.new.names (map (λ k. k.name.bytes) front) _ (comp_in text k).name.bytes
          (ap (λ ks. map (λ k. k.name.bytes) (map (comp_in text) ks)) c.in_ok-push.ensures.ok ∙ ap (map (λ k. k.name.bytes)) (map_push (comp_in text) c.comps.comps k) ∙ map_push (λ k. k.name.bytes) front (comp_in text k))
          i.0 (rw i.1.text at c.in_ok-comp.ensures.names),
      one_pushed (is_word (codes "-")) (comp_within (Some MAX_COMPS)) comp_in c.args.self.now.words c.comps.comps c.push.new.self c.comps.self.words c.comp.new.self.words k c.in_ok-push.ensures.ok i.1 c.comps-test.ensures
          (read_known_in 1 comp_in comp_new_within c.comps.names (map (λ k. k.name.bytes) front) c.comps.self.words c.comp.new.self.words _ _ (nat_lt (length front) MAX_COMPS) (ap (λ k. nat_lt k MAX_COMPS) (c.len-room.ensures ∙ sym (length-map c.comps.comps (comp_in c.args.self.now.words.text)))) i.0 c.in_ok-comp.ensures.reads),
    )
