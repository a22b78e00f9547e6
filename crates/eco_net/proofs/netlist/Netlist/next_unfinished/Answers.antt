use Rattle.std.proofs.Common.{◌≡◌, ◌<◌, ◌∙◌, ap, sym, subst, Some, slice_get, arith, true≢false, length, ⊎_elim, is_some}
use Rattle.std.proofs.lemmas.Option.{slice_get-get_or, get_or_from_slice_get}
use Rattle.eco_net.specs.declared.search.Mark.TheVariants.{Unseen, Done}
use Rattle.eco_net.specs.Listing.{Listing}
use Rattle.eco_net.specs.Gates.{GatePin, computed_by}
use Rattle.eco_net.specs.Search.{IsMark}
use Rattle.eco_net.proofs.Basics.{same_Some, not_None}
use Rattle.eco_net.proofs.GateNames.{computed_known}
use Rattle.eco_net.proofs.KindPins.{some_of}
use Rattle.eco_net.proofs.InputPins.{reads_at, read_place}
use Rattle.eco_net.proofs.SearchPaths.{lt_cases}
use Rattle.eco_net.proofs.netlist.Netlist.next_unfinished.Goals as goal
use Rattle.eco_net.proofs.netlist.Netlist.next_unfinished.Goals.{in-Some-get+else-not-is_done, else-not-is_done-via-then-not-is_done+else-is_some, else-not-is_done-via-else-not-is_done, in_default}

pub returns-then-is_some : goal.returns-then-is_some
returns-then-is_some c =
    let L = c.args.self.now in
    let a = c.in-Some-get.input in
    let g : GatePin = (c.in-Some.comp, c.in-Some.field-0-1) in
    let to : computed_by L c.args.net ≡ Some g = sym c.gate_of.ensures ∙ c.in-Some.is in
    let at : slice_get L.comps c.in-Some.comp.0 ≡ Some c.comp-row.result.now = subst (λ (M : Listing). slice_get M.comps c.in-Some.comp.0 ≡ Some c.comp-row.result.now) c.self.view_is c.comp-row.ensures.at in
    let s = some_of c.gate_of-then-not-is_done.result (sym c.is_some.ensures ∙ c.if-is_some.true) in
    let from : computed_by L a ≡ Some s.0 = sym c.gate_of-then-not-is_done.ensures ∙ s.1 in (
      reads_at L a c.args.net g s.0 c.comp-row.result.now c.loop-pin.pin to at (omega (arith, c.loop-pin-test.true, c.input_count-pin-end.ensures.count)) (c.get.ensures ∙ ap Some c.in-Some-get.is) from,
      λ m. true≢false (sym (c.is_done.ensures.1 (get_or_from_slice_get c.args.marks.now a Done Unseen m)) ∙ c.if-not-is_done.true),
    )

pub loop-pin-preserved : goal.loop-pin-preserved
loop-pin-preserved c j a h e m = ⊎_elim
    (λ l. c.loop-pin.invariant j a l e m)
    (λ s.
    let here : c.get.result ≡ Some a = same_Some (sym c.get.ensures ∙ ap (slice_get c.comp-row.result.now.joined) (sym s) ∙ e) in
    let known : a < length c.args.marks.now = omega (arith, computed_known c.args.self.now a m.0 m.1, c.requires.sized) in
    elim c.match-get.branch [
      | in-Some-get+else-not-is_done w ↦
          let same : w.in-Some-get.input ≡ a = same_Some (sym w.in-Some-get.is ∙ here) in
          elim w.else-not-is_done.branch [
            | else-not-is_done-via-then-not-is_done+else-is_some v ↦
                absurd (true≢false (ap is_some (sym (ap (computed_by c.args.self.now) same ∙ m.1)) ∙ sym (ap is_some v.gate_of-then-not-is_done.ensures) ∙ sym v.is_some.ensures ∙ v.if-is_some.false))
            | else-not-is_done-via-else-not-is_done v ↦
                let d = w.is_done.ensures.0 v.if-not-is_done.false in
                subst (λ n. IsMark c.args.marks.now n Done) same (slice_get-get_or c.args.marks.now w.in-Some-get.input Unseen (omega (arith, known, same)) ∙ ap Some d)
          ]
      | in_default w ↦ absurd (not_None (sym here ∙ w.in_default.is))
    ])
    (lt_cases j c.loop-pin.pin h)

pub returns : goal.returns
returns c = λ a r.
    let L = c.args.self.now in
    let g : GatePin = (c.in-Some.comp, c.in-Some.field-0-1) in
    let to : computed_by L c.args.net ≡ Some g = sym c.gate_of.ensures ∙ c.in-Some.is in
    let at : slice_get L.comps c.in-Some.comp.0 ≡ Some c.comp-row.result.now = subst (λ (M : Listing). slice_get M.comps c.in-Some.comp.0 ≡ Some c.comp-row.result.now) c.self.view_is c.comp-row.ensures.at in
    let w = read_place L a c.args.net r g c.comp-row.result.now to at in
    c.loop-pin.invariant w.0 a (omega (arith, w.1, c.loop-pin-test.false, c.input_count-pin-end.ensures.count)) w.2 (r.source, r.from)
