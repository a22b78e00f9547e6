use Rattle.std.proofs.Common.{◌≡◌, ◌↔◌, ◌∙◌, ◌++◌, [], ap, ap₂, sym, subst, map, length, List, arith}
use Rattle.std.proofs.lemmas.List.{append-nil}
use Rattle.std.specs.List.{Contains, IsDistinct, filter_map, range_with_len, cons_option}
use Rattle.std.specs.Ordering.{eq_by_cmp}
use Rattle.eco_net.specs.declared.cut.CutKey.{CutKey}
use Rattle.eco_net.specs.Listing.{netlist, net_names}
use Rattle.eco_net.specs.KeysOf.{key_at, keys_of, key_named, KeysAlong}
use Rattle.eco_net.specs.CutKeys.{CutKey as NamedKey, IsCutKey, key_cmp}
use Rattle.eco_net.proofs.Ranges.{filter_map_range}
use Rattle.eco_net.proofs.KeyNames.{keys_along}
use Rattle.eco_net.proofs.KeySets.{each_key, keys_once}
use Rattle.eco_net.proofs.netlist.Netlist.cut_keys.Goals as goal
use Rattle.eco_net.proofs.netlist.Netlist.cut_keys.Goals.{in-Some+in_ok-push, in_default}

pub loop-net-preserved : goal.loop-net-preserved
loop-net-preserved c =
    let L = c.args.self.now in
    let n = c.loop-net.net in
    let before = filter_map (key_at L) (range_with_len 0 n) in
    elim c.match-key_of.branch [
      | in-Some+in_ok-push w ↦
          ap (λ v. v.items) w.keys-is
          ∙ w.in_ok-push.ensures.items
          ∙ ap₂ (λ (xs : List CutKey) o. xs ++ cons_option o []) c.loop-net.invariant (sym (sym c.key_of.ensures ∙ w.in-Some.is))
          ∙ sym (filter_map_range (key_at L) n)
      | in_default w ↦
          ap (λ v. v.items) w.keys-is
          ∙ c.loop-net.invariant
          ∙ sym (append-nil before)
          ∙ ap (λ o. before ++ cons_option o []) (sym (sym c.key_of.ensures ∙ w.in_default.is))
          ∙ sym (filter_map_range (key_at L) n)
    ]

its_keys : (c : goal.After-loop-net) → c.loop-net.keys.items ≡ keys_of c.args.self.now
its_keys c =
    let L = c.args.self.now in
    let e : c.loop-net.net ≡ length L.nets = omega (arith, c.loop-net-test.false, c.loop-net.auto.net-end, c.counts-nets.ensures.nets) in
    c.loop-net.invariant ∙ ap (λ k. filter_map (key_at L) (range_with_len 0 k)) e

pub returns-clause-each : goal.returns-clause-each
returns-clause-each c =
    let L = c.args.self.now in
    subst (λ ks. (key : NamedKey) → IsCutKey (netlist L) key ↔ Contains (map (key_named L) ks) key) (sym (its_keys c)) (each_key L c.counts-nets.ensures.listing)

pub returns-clause-once : goal.returns-clause-once
returns-clause-once c =
    let L = c.args.self.now in
    subst (λ ks. IsDistinct (eq_by_cmp key_cmp) (map (key_named L) ks)) (sym (its_keys c)) (keys_once L c.counts-nets.ensures.listing)

pub returns-clause-along : goal.returns-clause-along
returns-clause-along c =
    let L = c.args.self.now in
    subst (λ ks. KeysAlong (netlist L) (net_names L) (map (key_named L) ks)) (sym (its_keys c)) (keys_along L c.counts-nets.ensures.listing)
