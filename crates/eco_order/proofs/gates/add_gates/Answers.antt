use Rattle.std.proofs.Common.{drop, ap, ◌∙◌}
use Rattle.std.specs.FinMap.{get}
use Rattle.eco_net.specs.Listing.{netlist}
use Rattle.eco_net.proofs.Basics.{contains_from_has}
use Rattle.eco_order.proofs.Putting.{has_before}
use Rattle.eco_order.proofs.Gating.{gates_new, gate_nets_stay}
use Rattle.eco_patch_laws.specs.Insertion.{patch_name}
use Rattle.eco_order.proofs.gates.add_gates.Goals as goal

pub add_gate-requires-clause-new : goal.add_gate-requires-clause-new
add_gate-requires-clause-new c =
    let k = c.loop-place.place in
    let g = c.index-gates-place.result in
    ap (λ M. get M.comps (patch_name c.args.label.now g.name)) c.loop-place.invariant.0
    ∙ gates_new (netlist c.args.maker.now) c.args.label.now c.args.gates.now k g c.loop-place-test.true c.loop-place.auto.place c.index-gates-place.is c.requires.distinct c.requires.new

pub add_gate-requires-clause-nets : goal.add_gate-requires-clause-nets
add_gate-requires-clause-nets c =
    let k = c.loop-place.place in
    let g = c.index-gates-place.result in
    gate_nets_stay (netlist c.args.maker.now) c.args.label.now (drop k c.args.gates.now) (netlist c.loop-place.maker) g c.loop-place.invariant.0
    (c.requires.nets g (contains_from_has c.args.gates.now g (has_before c.args.gates.now k g c.loop-place-test.true c.loop-place.auto.place c.index-gates-place.is)))
