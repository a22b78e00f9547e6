use Rattle.std.proofs.Common.{◌≡◌, ◌+◌, ◌<◌, ◌∙◌, sym, ap, subst, length, get_or, slice_get, slice_set, map, Some, arith, false}
use Rattle.std.specs.List.{range_with_len}
use Rattle.std.proofs.lemmas.Option.{slice_get-get_or, slice_get_within}
use Rattle.std.proofs.lemmas.List.FromFn.{length-map-range_with_len, get_or-map-range_with_len}
use Rattle.std.specs.FinMap.{get}
use Rattle.eco_net.specs.Search.{IsEvaluationOrder}
use Rattle.eco_net.specs.Listing.{netlist}
use Rattle.eco_net.specs.Gates.{GatePin}
use Rattle.eco_net.specs.ValuesOf.{start, computes, cut_bits, valuation, IsValued}
use Rattle.eco_net.proofs.Basics.{not_None}
use Rattle.eco_net.proofs.Places.{at_place}
use Rattle.eco_net.proofs.PinNames.{net_name_is}
use Rattle.eco_net.proofs.GateNames.{gate_known, has_at}
use Rattle.eco_net.proofs.One.{one_of}
use Rattle.eco_net.proofs.Valued.{valued, value_at}
use Rattle.eco_net.proofs.KeyCounts.{is_choice}
use Rattle.eco_net.proofs.InOrder.{IsSetTo, order_known, set_none, set_more, set_all}
use Rattle.eco_net.proofs.GateTables.{bits_by_inputs}
use Rattle.eco_net.proofs.netlist.Netlist.value_all.Goals as goal
use Rattle.eco_net.proofs.netlist.Netlist.value_all.Goals.{in-Some, in_default}

pub returns-in_err-bits-clause-choice : goal.returns-in_err-bits-clause-choice
returns-in_err-bits-clause-choice c = is_choice c.args.self.now c.facts.ensures.listing c.args.cut.now c.requires.bits

pub loop-net-init : goal.loop-net-init
loop-net-init c =
    let L = c.args.self.now in
    let cut = c.args.cut.now in
    let order = c.deref-net-items.result.now in
    let ordered : IsEvaluationOrder L order = subst (IsEvaluationOrder L) (sym (c.deref-net-items.ensures.value ∙ ap (λ l. l.order) c.levels.view_is)) c.requires.levels.ordered in
    let f = start L cut in
    let is : c.in_ok-bits.bits.items ≡ map f (range_with_len 0 (length L.nets)) = c.in_ok-bits.ensures ∙ ap (λ xs. map (start L xs) (range_with_len 0 (length L.nets))) (c.deref.ensures.value ∙ c.cut.view_is) in
    let long : length c.in_ok-bits.bits.items ≡ length L.nets = ap length is ∙ length-map-range_with_len f 0 (length L.nets) in
    set_none L order ordered f (computes L) (bits_by_inputs L) c.in_ok-bits.bits.items long (λ n h.
    ap (λ xs. slice_get xs n) is
    ∙ slice_get-get_or (map f (range_with_len 0 (length L.nets))) n false (omega (arith, h, length-map-range_with_len f 0 (length L.nets)))
    ∙ ap Some (get_or-map-range_with_len f 0 (length L.nets) n n false h (omega arith)))

pub gate_of-requires : goal.gate_of-requires
gate_of-requires c =
    let L = c.args.self.now in
    let order = c.deref-net-items.result.now in
    let ordered : IsEvaluationOrder L order = subst (IsEvaluationOrder L) (sym (c.deref-net-items.ensures.value ∙ ap (λ l. l.order) c.levels.view_is)) c.requires.levels.ordered in
    order_known L order ordered c.loop-net.net-index _ (slice_get-get_or order c.loop-net.net-index 0 c.loop-net-test.true)

pub output_value-value-requires-clause-known : goal.output_value-value-requires-clause-known
output_value-value-requires-clause-known c =
    gate_known c.args.self.now c.facts.ensures.listing (get_or c.deref-net-items.result.now c.loop-net.net-index 0) (c.in-Some.comp, c.in-Some.pin) (sym c.gate_of.ensures ∙ c.in-Some.is)

pub output_value-value-requires-clause-sized : goal.output_value-value-requires-clause-sized
output_value-value-requires-clause-sized c = ap length c.deref-in-Some.ensures.value ∙ c.loop-net.invariant.sized

pub index_mut-requires : goal.index_mut-requires
index_mut-requires c =
    let L = c.args.self.now in
    let order = c.deref-net-items.result.now in
    let ordered : IsEvaluationOrder L order = subst (IsEvaluationOrder L) (sym (c.deref-net-items.ensures.value ∙ ap (λ l. l.order) c.levels.view_is)) c.requires.levels.ordered in
    let h : get_or order c.loop-net.net-index 0 < length L.nets = order_known L order ordered c.loop-net.net-index _ (slice_get-get_or order c.loop-net.net-index 0 c.loop-net-test.true) in
    omega (arith, h, c.loop-net.invariant.sized, c.loop-net.bits.ok.0)

pub loop-net-preserved : goal.loop-net-preserved
loop-net-preserved c =
    let L = c.args.self.now in
    let order = c.deref-net-items.result.now in
    let ordered : IsEvaluationOrder L order = subst (IsEvaluationOrder L) (sym (c.deref-net-items.ensures.value ∙ ap (λ l. l.order) c.levels.view_is)) c.requires.levels.ordered in
    let i = c.loop-net.net-index in
    let n = get_or order i 0 in
    let at : slice_get order i ≡ Some n = slice_get-get_or order i 0 c.loop-net-test.true in
    elim c.match-gate_of.branch [
      | in-Some w ↦
          let bits = c.loop-net.bits.items in
          let f = start L c.args.cut.now in
          let g : GatePin = (w.in-Some.comp, w.in-Some.pin) in
          let value : w.output_value-value.result ≡ computes L bits g = w.output_value-value.ensures ∙ ap (λ vs. computes L vs g) w.deref-in-Some.ensures.value in
          subst (IsSetTo L f (computes L) order (i + 1)) (sym (ap (λ v. v.items) w.bits-is ∙ ap (slice_set bits n) value))
          (set_more L order ordered f (computes L) (bits_by_inputs L) i n g bits at (sym c.gate_of.ensures ∙ w.in-Some.is) c.loop-net.invariant)
      | in_default w ↦
          let m = ordered.computed n (has_at order i n at) in
          absurd (not_None (sym m.1 ∙ sym c.gate_of.ensures ∙ w.in_default.is))
    ]

pub returns-clause-choice : goal.returns-clause-choice
returns-clause-choice c = is_choice c.args.self.now c.facts.ensures.listing c.args.cut.now c.requires.bits

valued_by : (c : goal.After-loop-net) → IsValued c.args.self.now c.args.cut.now c.loop-net.bits.items
valued_by c =
    let L = c.args.self.now in
    let cut = c.args.cut.now in
    let order = c.deref-net-items.result.now in
    let ordered : IsEvaluationOrder L order = subst (IsEvaluationOrder L) (sym (c.deref-net-items.ensures.value ∙ ap (λ l. l.order) c.levels.view_is)) c.requires.levels.ordered in
    let end : c.loop-net.net-index ≡ length order = omega (arith, c.loop-net-test.false, c.loop-net.auto.net-index-end) in
    let w = c.loop-net.invariant in
    record {
      sized = w.sized;
      starts = λ n r e none. w.starts n (slice_get_within L.nets n r e) none;
      computed = set_all L order ordered (start L cut) (computes L) (bits_by_inputs L) c.loop-net.bits.items (subst (λ i. IsSetTo L (start L cut) (computes L) order i c.loop-net.bits.items) end w);
    }

pub returns-clause-valuation : goal.returns-clause-valuation
returns-clause-valuation c = valued c.args.self.now c.facts.ensures.listing c.args.cut.now c.loop-net.bits.items c.requires.bits (valued_by c)

pub returns-clause-only : goal.returns-clause-only
returns-clause-only c = λ v is.
    let L = c.args.self.now in
    one_of (netlist L) (cut_bits L c.args.cut.now) (valuation L c.loop-net.bits.items) v c.requires.levels.loop_free (valued L c.facts.ensures.listing c.args.cut.now c.loop-net.bits.items c.requires.bits (valued_by c)) is

pub returns-clause-each_net : goal.returns-clause-each_net
returns-clause-each_net c = c.loop-net.invariant.sized

pub returns-clause-named : goal.returns-clause-named
returns-clause-named c = λ n b e.
    let L = c.args.self.now in
    let vs = c.loop-net.bits.items in
    let r = at_place L.nets n (omega (arith, slice_get_within vs n b e, c.loop-net.invariant.sized)) in
    ap (get (valuation L vs)) (net_name_is L c.facts.ensures.listing n r.0 r.1)
    ∙ value_at L c.facts.ensures.listing vs c.loop-net.invariant.sized n r.0 b r.1 e
