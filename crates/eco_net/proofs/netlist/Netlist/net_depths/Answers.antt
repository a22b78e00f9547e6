use Rattle.std.proofs.Common.{◌≡◌, ◌+◌, ◌<◌, ◌≤◌, ◌∙◌, sym, ap, subst, length, get_or, slice_get, slice_set, Some, arith}
use Rattle.std.proofs.lemmas.Option.{slice_get-get_or, slice_get_within}
use Rattle.eco_net.specs.Kept.{IsListing}
use Rattle.eco_net.specs.Gates.{GatePin, inputs_at}
use Rattle.eco_net.specs.DepthsOf.{gate_depth}
use Rattle.eco_net.proofs.Basics.{not_None}
use Rattle.eco_net.proofs.GateNames.{gate_is, has_at}
use Rattle.eco_net.proofs.InOrder.{IsSetTo, order_known, order_short, set_more, set_all}
use Rattle.eco_net.proofs.DepthNumbers.{depth_by, depth_by_inputs, deepest_le, NoneOver, set_over}
use Rattle.eco_net.proofs.netlist.Netlist.net_depths.Goals as goal
use Rattle.eco_net.proofs.netlist.Netlist.net_depths.Goals.{in-Some, in_default}

pub gate_of-requires : goal.gate_of-requires
gate_of-requires c =
    order_known c.args.self.now c.args.order.now c.requires c.loop-net.net-index _ (slice_get-get_or c.args.order.now c.loop-net.net-index 0 c.loop-net-test.true)

pub gate_depth-depth-requires-clause-known : goal.gate_depth-depth-requires-clause-known
gate_depth-depth-requires-clause-known c =
    let L = c.args.self.now in
    let g : GatePin = (c.in-Some.comp, c.in-Some.field-0-1) in
    let x = gate_is L (get_or c.args.order.now c.loop-net.net-index 0) g (sym c.gate_of.ensures ∙ c.in-Some.is) in
    slice_get_within L.comps c.in-Some.comp.0 x.comp x.at

pub gate_depth-depth-requires-clause-fits : goal.gate_depth-depth-requires-clause-fits
gate_depth-depth-requires-clause-fits c =
    let L = c.args.self.now in
    let listing : IsListing L = subst IsListing c.self.view_is c.self.invariant.listing in
    let few : NoneOver c.deref.result.now c.loop-net.net-index = subst (λ ds. NoneOver ds c.loop-net.net-index) (sym c.deref.ensures.value) c.loop-net.invariant.few in
    omega (arith, deepest_le c.deref.result.now c.loop-net.net-index (inputs_at L c.in-Some.comp.0) few, c.loop-net-test.true, order_short L c.args.order.now c.requires, listing.few_nets)

pub index_mut-requires : goal.index_mut-requires
index_mut-requires c =
    let L = c.args.self.now in
    let h : get_or c.args.order.now c.loop-net.net-index 0 < length L.nets = order_known L c.args.order.now c.requires c.loop-net.net-index _ (slice_get-get_or c.args.order.now c.loop-net.net-index 0 c.loop-net-test.true) in
    omega (arith, h, c.loop-net.invariant.set.sized, c.loop-net.depths.ok.0)

pub loop-net-preserved : goal.loop-net-preserved
loop-net-preserved c =
    let L = c.args.self.now in
    let order = c.args.order.now in
    let i = c.loop-net.net-index in
    let n = get_or order i 0 in
    let ds = c.loop-net.depths.items in
    let at : slice_get order i ≡ Some n = slice_get-get_or order i 0 c.loop-net-test.true in
    elim c.match-gate_of.branch [
      | in-Some w ↦
          let g : GatePin = (w.in-Some.comp, w.in-Some.field-0-1) in
          let value : w.gate_depth-depth.result ≡ depth_by L ds g = w.gate_depth-depth.ensures ∙ ap (λ xs. depth_by L xs g) w.deref.ensures.value in
          let is = ap (λ v. v.items) w.depths-is ∙ ap (slice_set ds n) value in
          let small : gate_depth L ds g.0.0 ≤ i + 1 = omega (arith, deepest_le ds i (inputs_at L g.0.0) c.loop-net.invariant.few) in
          record {
            set = subst (IsSetTo L (λ n. 0) (depth_by L) order (i + 1)) (sym is) (set_more L order c.requires (λ n. 0) (depth_by L) (depth_by_inputs L) i n g ds at (sym c.gate_of.ensures ∙ w.in-Some.is) c.loop-net.invariant.set);
            few = subst (λ xs. NoneOver xs (i + 1)) (sym is) (set_over ds n (depth_by L ds g) i c.loop-net.invariant.few small);
          }
      | in_default w ↦
          let m = c.requires.computed n (has_at order i n at) in
          absurd (not_None (sym m.1 ∙ sym c.gate_of.ensures ∙ w.in_default.is))
    ]

pub returns : goal.returns
returns c =
    let L = c.args.self.now in
    let order = c.args.order.now in
    let end : c.loop-net.net-index ≡ length order = omega (arith, c.loop-net-test.false, c.loop-net.auto.net-index-end) in
    let w = c.loop-net.invariant in
    record {
      sized = w.set.sized;
      others = w.set.starts;
      computed = set_all L order c.requires (λ n. 0) (depth_by L) (depth_by_inputs L) c.loop-net.depths.items (subst (λ i. IsSetTo L (λ n. 0) (depth_by L) order i c.loop-net.depths.items) end w.set);
      few = λ n d e. omega (arith, w.few n d e, end, order_short L order c.requires);
    }
