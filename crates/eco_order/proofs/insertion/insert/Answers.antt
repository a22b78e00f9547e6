use Rattle.std.proofs.Common.{◌≡◌, ◌+◌, ◌≤◌, length, map, sym, ap, ap₂, subst, ◌∙◌, arith}
use Rattle.std.specs.List.{Contains, IsDistinct}
use Rattle.std.specs.Str.{bytes_eq}
use Rattle.std.specs.FinMap.{get}
use Rattle.eco_net.specs.Listing.{netlist}
use Rattle.eco_net.specs.Joints.{with_nets}
use Rattle.eco_order.specs.Inserting.{CanMoveAll, with_moved}
use Rattle.eco_order.proofs.Unbroken.{nets_distinct, gates_distinct, few_gates}
use Rattle.eco_order.proofs.Whole.{can_move_all, has_gate_nets, still_free, new_nets}
use Rattle.eco_order.proofs.insertion.insert.Goals as goal

pub add_nets-requires-clause-distinct : goal.add_nets-requires-clause-distinct
add_nets-requires-clause-distinct c =
    let nets = c.as_slice.ensures ∙ ap (λ o. o.nets) c.order.view_is in
    subst (IsDistinct bytes_eq) (sym nets) (nets_distinct (netlist c.args.net.now) c.args.order.now c.requires.unbroken)

pub add_nets-requires-clause-new : goal.add_nets-requires-clause-new
add_nets-requires-clause-new c =
    let nets = c.as_slice.ensures ∙ ap (λ o. o.nets) c.order.view_is in
    λ n i.
    ap (λ L. get (netlist L).nets n) c.in_ok-maker.ensures
    ∙ new_nets (netlist c.args.net.now) c.args.order.now c.requires.unbroken n (subst (λ ns. Contains ns n) nets i)

pub make_moves-requires : goal.make_moves-requires
make_moves-requires c =
    let nets = c.as_slice.ensures ∙ ap (λ o. o.nets) c.order.view_is in
    let moves = c.as_slice-2.ensures ∙ ap (λ o. o.moves) c.order.view_is in
    let M = netlist c.add_nets.new.maker in
    let with_new = c.in_ok-add_nets.ensures.named ∙ ap₂ (λ L ns. record (netlist L) { nets = with_nets (netlist L).nets ns }) c.in_ok-maker.ensures nets in
    subst (CanMoveAll M) (sym moves) (can_move_all (netlist c.args.net.now) c.args.order.now c.requires.unbroken M with_new)

pub add_gates-requires-clause-distinct : goal.add_gates-requires-clause-distinct
add_gates-requires-clause-distinct c =
    let gates = c.as_slice-3.ensures ∙ ap (λ o. o.gates) c.order.view_is in
    subst (λ gs. IsDistinct bytes_eq (map (λ g. g.name) gs)) (sym gates) (gates_distinct (netlist c.args.net.now) c.args.order.now c.requires.unbroken)

pub add_gates-requires-clause-new : goal.add_gates-requires-clause-new
add_gates-requires-clause-new c =
    let nets = c.as_slice.ensures ∙ ap (λ o. o.nets) c.order.view_is in
    let moves = c.as_slice-2.ensures ∙ ap (λ o. o.moves) c.order.view_is in
    let with_new = c.in_ok-add_nets.ensures.named ∙ ap₂ (λ L ns. record (netlist L) { nets = with_nets (netlist L).nets ns }) c.in_ok-maker.ensures nets in
    let moved = c.in_ok-make_moves.ensures.named ∙ ap₂ with_moved with_new moves in
    still_free (netlist c.args.net.now) c.args.order.now c.requires.unbroken (netlist c.make_moves.new.maker) c.args.label.now moved c.requires.free_label

pub add_gates-requires-clause-nets : goal.add_gates-requires-clause-nets
add_gates-requires-clause-nets c =
    let nets = c.as_slice.ensures ∙ ap (λ o. o.nets) c.order.view_is in
    let moves = c.as_slice-2.ensures ∙ ap (λ o. o.moves) c.order.view_is in
    let gates = c.as_slice-3.ensures ∙ ap (λ o. o.gates) c.order.view_is in
    let with_new = c.in_ok-add_nets.ensures.named ∙ ap₂ (λ L ns. record (netlist L) { nets = with_nets (netlist L).nets ns }) c.in_ok-maker.ensures nets in
    let moved = c.in_ok-make_moves.ensures.named ∙ ap₂ with_moved with_new moves in
    λ g i. has_gate_nets (netlist c.args.net.now) c.args.order.now c.requires.unbroken (netlist c.make_moves.new.maker) moved g (subst (λ gs. Contains gs g) gates i)

pub add_gates-requires-clause-few : goal.add_gates-requires-clause-few
add_gates-requires-clause-few c =
    let gates = c.as_slice-3.ensures ∙ ap (λ o. o.gates) c.order.view_is in
    let same : length c.make_moves.new.maker.comps ≡ length c.args.net.now.comps = c.in_ok-make_moves.ensures.comps ∙ ap length c.in_ok-add_nets.ensures.comps ∙ ap (λ L. length L.comps) c.in_ok-maker.ensures in
    let few : length c.as_slice-3.result.now ≤ 128 = subst (λ gs. length gs ≤ 128) (sym gates) (few_gates (netlist c.args.net.now) c.args.order.now c.requires.unbroken) in
    let room : length c.args.net.now.comps + 128 ≤ 1100000 = c.requires.few_comps in
    omega (arith, same, few, room)
