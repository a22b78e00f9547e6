use Rattle.std.proofs.Common.{◌≡◌, ◌+◌, ◌<◌, ◌∙◌, ◌++◌, ◌∷◌, [], sym, ap, subst, length, get_or, slice_get, Some, arith, map, false}
use Rattle.std.specs.List.{cons_option, range_with_len}
use Rattle.std.proofs.lemmas.List.FromFn.{map-range_with_len_more}
use Rattle.eco_net.specs.Listing.{Listing}
use Rattle.eco_net.specs.ValuesOf.{keys_before, start}
use Rattle.eco_net.proofs.KeyCounts.{keys_more, key_within, start_keyed, start_unkeyed}
use Rattle.eco_net.proofs.Places.{at_place}
use Rattle.eco_net.proofs.netlist.Netlist.start_values.Goals as goal
use Rattle.eco_net.proofs.netlist.Netlist.start_values.Goals.{in-Some+in_ok-push-in-Some, in-None+in_ok-push-in-None}

pub bounds-cut-keys : goal.bounds-cut-keys
bounds-cut-keys c =
    let L = c.args.self.now in
    let n = c.loop-net.net in
    let h : n < length L.nets = omega (arith, c.loop-net-test.true, c.net_count-nets.ensures.count, ap (λ (M : Listing). length M.nets) c.self.view_is) in
    omega (arith, c.loop-net.invariant.counted, c.requires, key_within L n c.in-Some.field-0 h (sym c.key_of.ensures ∙ c.in-Some.is))

pub overflow_add-keys : goal.overflow_add-keys
overflow_add-keys c =
    let L = c.args.self.now in
    let n = c.loop-net.net in
    let h : n < length L.nets = omega (arith, c.loop-net-test.true, c.net_count-nets.ensures.count, ap (λ (M : Listing). length M.nets) c.self.view_is) in
    let k : c.loop-net.keys < length c.args.cut.now = omega (arith, c.loop-net.invariant.counted, c.requires, key_within L n c.in-Some.field-0 h (sym c.key_of.ensures ∙ c.in-Some.is)) in
    omega (arith, k)

pub loop-net-preserved : goal.loop-net-preserved
loop-net-preserved c =
    let L = c.args.self.now in
    let bits = c.args.cut.now in
    let n = c.loop-net.net in
    let w = c.loop-net.invariant in
    let h : n < length L.nets = omega (arith, c.loop-net-test.true, c.net_count-nets.ensures.count, ap (λ (M : Listing). length M.nets) c.self.view_is) in
    let r = at_place L.nets n h in
    let more : map (start L bits) (range_with_len 0 n) ++ start L bits n ∷ [] ≡ map (start L bits) (range_with_len 0 (n + 1)) = sym (map-range_with_len_more (start L bits) 0 n n (omega arith)) in
    elim c.match-key_of.branch [
      | in-Some+in_ok-push-in-Some v ↦
          let key = sym c.key_of.ensures ∙ v.in-Some.is in
          record {
            counted = v.keys-is ∙ (λ i. w.counted i + 1) ∙ sym (keys_more L n ∙ ap (λ o. keys_before L n + length (cons_option o [])) key);
            started =
                ap (λ x. x.items) v.values-is
                ∙ v.in_ok-push-in-Some.ensures.items
                ∙ (λ i. w.started i ++ (ap (λ k. get_or bits k false) w.counted ∙ sym (start_keyed L bits n r.0 v.in-Some.field-0 r.1 key)) i ∷ [])
                ∙ more;
          }
      | in-None+in_ok-push-in-None v ↦
          let none = sym c.key_of.ensures ∙ v.in-None.is in
          let same : keys_before L n + 0 ≡ keys_before L n = omega arith in
          let at : slice_get L.nets n ≡ Some v.net.result.now = subst (λ (M : Listing). slice_get M.nets n ≡ Some v.net.result.now) c.self.view_is v.net.ensures in
          record {
            counted = v.keys-is ∙ w.counted ∙ sym (keys_more L n ∙ ap (λ o. keys_before L n + length (cons_option o [])) none ∙ same);
            started =
                ap (λ x. x.items) v.values-is
                ∙ v.in_ok-push-in-None.ensures.items
                ∙ (λ i. w.started i ++ (v.unwrap_or.ensures ∙ sym (start_unkeyed L bits n v.net.result.now at none)) i ∷ [])
                ∙ more;
          }
    ]
