use Rattle.std.proofs.Common.{◌≡◌, ◌+◌, ◌∙◌, sym, ap, subst, length, max, slice_get, Some, arith}
use Rattle.eco_net.specs.declared.rows.CompRow.{CompRow}
use Rattle.eco_net.specs.Listing.{Listing}
use Rattle.eco_net.specs.Gates.{inputs_at}
use Rattle.eco_net.proofs.Basics.{same_Some}
use Rattle.eco_net.proofs.DepthNumbers.{deepest_le}
use Rattle.eco_net.proofs.DepthNames.{GateRow, IsGreatestTo, greatest_gate, greatest_box, is_depth}
use Rattle.eco_net.proofs.netlist.Netlist.greatest_depth.Goals as goal
use Rattle.eco_net.proofs.netlist.Netlist.greatest_depth.Goals.{in-Gate, in_default}

pub gate_depth-requires-clause-fits : goal.gate_depth-requires-clause-fits
gate_depth-requires-clause-fits c =
    let L = c.args.self.now in
    omega (arith, deepest_le c.args.depths.now (length L.nets) (inputs_at L c.loop-comp.comp) c.requires.few, c.counts-comp-end.ensures.listing.few_nets)

pub loop-comp-preserved : goal.loop-comp-preserved
loop-comp-preserved c =
    let L = c.args.self.now in
    let ds = c.args.depths.now in
    let i = c.loop-comp.comp in
    let at : slice_get L.comps i ≡ Some c.comp.result.now = subst (λ (M : Listing). slice_get M.comps i ≡ Some c.comp.result.now) c.self.view_is c.comp.ensures.at in
    elim c.match-comp.branch [
      | in-Gate w ↦
          let y : GateRow L i = record { row = c.comp.result.now; at = at; master = w.in-Gate.field-0; kind = w.in-Gate.is } in
          subst (IsGreatestTo L ds (i + 1)) (sym (w.greatest-is ∙ w.max-greatest.ensures ∙ ap (λ n. max n c.loop-comp.greatest) w.gate_depth.ensures)) (greatest_gate L ds i c.loop-comp.greatest y c.loop-comp.invariant)
      | in_default w ↦
          subst (IsGreatestTo L ds (i + 1)) (sym w.greatest-is)
          (greatest_box L ds i c.loop-comp.greatest (λ y. w.in_default.not-Gate y.master (ap (λ (r : CompRow). r.kind) (same_Some (sym at ∙ y.at)) ∙ y.kind)) c.loop-comp.invariant)
    ]

pub returns : goal.returns
returns c =
    let L = c.args.self.now in
    let end : c.loop-comp.comp ≡ length L.comps = omega (arith, c.loop-comp-test.false, c.loop-comp.auto.comp-end, c.counts-comp-end.ensures.comps) in
    is_depth L c.counts-comp-end.ensures.listing c.args.depths.now c.requires c.loop-comp.greatest (subst (λ i. IsGreatestTo L c.args.depths.now i c.loop-comp.greatest) end c.loop-comp.invariant)
