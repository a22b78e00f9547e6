use Rattle.std.proofs.Common.{◌+◌, Bool, not, List, drop, sym, ap, ◌∙◌}
use Rattle.std.specs.List.{find, flat_map}
use Rattle.eco_net.specs.Netlist.{Name}
use Rattle.eco_net.specs.Listing.{Listing, netlist}
use Rattle.eco_order.specs.Rules.{is_known, gate_nets}
use Rattle.eco_order.proofs.Found.{find_front, find_past}
use Rattle.eco_order_file.proofs.Again.{left_from}
use Rattle.eco_order.proofs.nets.unknown_of_gates.Goals as goal

abbrev unknown : Listing → List Name → Name → Bool
unknown L new n = not (is_known (netlist L) new n)

pub returns-in-Some : goal.returns-in-Some
returns-in-Some c =
    let p = unknown c.args.net.now c.args.new.now in
    let gates = c.args.gates.now in
    let i = c.loop-gate.gate-index in
    let g = c.gate-item.result in
    find_front p (gate_nets g) (flat_map gate_nets (drop (i + 1) gates)) c.in-Some.name.now c.in-Some.ensures
    ∙ sym (c.loop-gate.invariant ∙ ap (λ xs. find p (flat_map gate_nets xs)) (left_from gates i g c.loop-gate-test.true c.gate-item.is))

pub loop-gate-preserved : goal.loop-gate-preserved
loop-gate-preserved c =
    let p = unknown c.args.net.now c.args.new.now in
    let gates = c.args.gates.now in
    let i = c.loop-gate.gate-index in
    let g = c.gate-item.result in
    c.loop-gate.invariant ∙ ap (λ xs. find p (flat_map gate_nets xs)) (left_from gates i g c.loop-gate-test.true c.gate-item.is)
    ∙ find_past p (gate_nets g) (flat_map gate_nets (drop (i + 1) gates)) c.in_default.ensures
