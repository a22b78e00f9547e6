-- The text of a design issued for its own netlist is that text.
use Rattle.std.specs.List.{filter, flat_map}
use Rattle.std.specs.Prelude.{T}
use Rattle.std.specs.Ordering.{is_lt, eq_by_cmp}
use Rattle.std.specs.FinMap.{FinMap, get, entries, keys, find, get-entries, entries_sorted}
use Rattle.std.specs.FinMap.Entries.{below_all, is_sorted}
use Rattle.std.proofs.Common.{◌≡◌, ◌≢◌, Bool, true, false, not, cond, ◌&&◌, List, [], ◌∷◌, ◌++◌, map, Option, Some, None, is_none, refl, sym, ap, ◌∙◌, subst, inl, inr}
use Rattle.std.specs.Cmp.{tied_itself}
use Rattle.std.specs.Cmp.Lexicographic.{nat_list_cmp_total}
use Rattle.std.specs.declared.cmp.Ordering.{Ordering}
use Rattle.std.specs.declared.cmp.Ordering.TheVariants.{Equal}
use Rattle.eco_def.specs.Named.{names_of}
use Rattle.eco_common.specs.Joints.{NewJoint}
use Rattle.eco_issued_laws.specs.Issued.{issued_text}
use Rattle.eco_issued_laws.proofs.Withdrawing.{nothing_issued}
use Rattle.eco_net.specs.Netlist.{Name, name_cmp, Component, Netlist, CompPin}
use Rattle.eco_net.specs.Drivers.{net_of, joined_at}
use Rattle.eco_net.proofs.Basics.{Has, has_of_map, cmp_itself, cmp_apart}
use Rattle.eco_elaborate.specs.Netlists.{netlist_of}
use Rattle.eco_elaborate.specs.ReadingBack.{is_named_net, is_joined, pins_of_comp, moved_pins, new_nets, OwnText}
use Rattle.eco_elaborate.proofs.Members.{filter_none}
use Rattle.eco_elaborate.proofs.Names.{is_name}
use Rattle.eco_elaborate.proofs.Stating.{of_flat_map}

-- ---- what a map's entries say

below_has : {X : Type 0} (a k : Name) (es : List (Name × X)) (v : X) → T (below_all name_cmp a es) → Has es (k, v) → T (is_lt (name_cmp a k))
below_has a k (e ∷ es) v low (inl s) = subst (λ z. T (is_lt (name_cmp a z))) (ap (λ z. z.0) s) (first (is_lt (name_cmp a e.0)) (below_all name_cmp a es) low)
  where
    first : (a b : Bool) → T (a && b) → T a
    first true b p = tt
    first false b p = p
below_has a k (e ∷ es) v low (inr h) = below_has a k es v (second (is_lt (name_cmp a e.0)) (below_all name_cmp a es) low) h
  where
    second : (a b : Bool) → T (a && b) → T b
    second true b p = p
    second false b p = absurd p
below_has a k [] v low h = absurd h

-- a key isn't before itself
not_below : (a k : Name) → T (is_lt (name_cmp a k)) → k ≢ a
not_below a k low same = go (name_cmp k k) (tied_itself nat_list_cmp_total k) (subst (λ z. T (is_lt (name_cmp z k))) (sym same) low)
  where
    go : (r : Ordering) → r ≡ Equal → T (is_lt r) → ⊥
    go r tied low = subst (λ z. T (is_lt z)) tied low

entry_found : {X : Type 0} (es : List (Name × X)) (k : Name) (v : X) → T (is_sorted name_cmp es) → Has es (k, v) → find name_cmp k es ≡ Some v
entry_found [] k v sorted h = absurd h
entry_found (e ∷ es) k v sorted (inl s) =
    ap (λ b. cond b (Some e.1) (find name_cmp k es)) (ap (eq_by_cmp name_cmp k) (ap (λ z. z.0) s) ∙ cmp_itself k) ∙ ap (λ z. Some z.1) s
entry_found (e ∷ es) k v sorted (inr h) =
    ap (λ b. cond b (Some e.1) (find name_cmp k es)) (cmp_apart k e.0 (not_below e.0 k (below_has e.0 k es v (left (below_all name_cmp e.0 es) (is_sorted name_cmp es) sorted) h)))
    ∙ entry_found es k v (right (below_all name_cmp e.0 es) (is_sorted name_cmp es) sorted) h
  where
    left : (a b : Bool) → T (a && b) → T a
    left true b p = tt
    left false b p = p

    right : (a b : Bool) → T (a && b) → T b
    right true b p = p
    right false b p = absurd p

entry_get : {X : Type 0} (m : FinMap name_cmp X) (k : Name) (v : X) → Has (entries m) (k, v) → get m k ≡ Some v
entry_get m k v h = get-entries m k ∙ entry_found (entries m) k v (entries_sorted m) h

-- ---- a netlist beside itself

module _ (N : Netlist) where
  joined : (j : NewJoint) → Has (flat_map pins_of_comp (entries N.comps)) j → not (is_joined N j) ≡ false
  joined j h =
      let c = of_flat_map pins_of_comp (entries N.comps) j h in
      let e = has_of_map (λ e. let k : NewJoint = record { comp = c.0.0; pin = e.0; net = e.1 } in k) (entries c.0.1.joined) j c.2 in
      let comp : get N.comps c.0.0 ≡ Some c.0.1 = entry_get N.comps c.0.0 c.0.1 c.1 in
      let pin : get c.0.1.joined e.0.0 ≡ Some e.0.1 = entry_get c.0.1.joined e.0.0 e.0.1 e.1 in
      ap (λ k. not (is_joined N k)) (sym e.2)
      ∙ ap (λ o. not (is_named_net (joined_at o e.0.0) e.0.1)) comp
      ∙ ap (λ o. not (is_named_net o e.0.1)) pin
      ∙ ap not (is_name e.0.1 e.0.1 refl)

  none_moved : moved_pins N N ≡ []
  none_moved = filter_none (λ j. not (is_joined N j)) (flat_map pins_of_comp (entries N.comps)) joined

  known : (n : Name) → Has (keys N.nets) n → is_none (get N.nets n) ≡ false
  known n h =
      let e = has_of_map (λ e. e.0) (entries N.nets) n h in
      ap (λ k. is_none (get N.nets k)) (sym e.2) ∙ ap is_none (entry_get N.nets e.0.0 e.0.1 e.1)

  none_new : new_nets N N ≡ []
  none_new = filter_none (λ n. is_none (get N.nets n)) (keys N.nets) known

pub own_text : OwnText
own_text kinds ties text d is =
    let N = netlist_of kinds ties (names_of d) in
    ap (λ js. issued_text text d js (new_nets N N)) (none_moved N) ∙ ap (issued_text text d []) (none_new N) ∙ nothing_issued text d is
