-- A listing's netlist is whole
use Rattle.std.proofs.Common.{◌≡◌, ℕ, suc, ◌<◌, false, List, [], ◌∷◌, map, length, Some, sym, ap, ◌∙◌, arith, slice_get, subst, refl}
use Rattle.std.specs.Ordering.{eq_by_cmp}
use Rattle.std.specs.List.{IsDistinct, AllByRecursion}
use Rattle.std.specs.Cmp.Lexicographic.{nat_list_cmp_total}
use Rattle.std.specs.FinMap.{get, get-from_entries}
use Rattle.eco_net.specs.Netlist.{Name, name_cmp, Component, Top, pins_of, HasRows, IsNet, IsPin, IsWellFormed, role_of}
use Rattle.eco_net.specs.Listing.{Listing, netlist, component, pins, row_joints, net_name, AreDistinctNames}
use Rattle.eco_net.specs.Kept.{IsListing}
use Rattle.eco_net.proofs.Basics.{cmp_apart}
use Rattle.eco_net.proofs.Places.{at_place}
use Rattle.eco_net.proofs.Named.{apart_rest, comp_of, top_of, net_is, role_is, named_joint}
use Rattle.eco_net.proofs.PinNames.{net_name_is}

others : (n : Name) (names : List Name) → ((j : ℕ) → slice_get names j ≡ Some n → ⊥) → AllByRecursion (λ y. eq_by_cmp name_cmp n y ≡ false) names
others n [] h = tt
others n (m ∷ names) h = (cmp_apart n m (λ e. h 0 (ap Some (sym e))), others n names (λ j. h (suc j)))

-- names that stand at one place each are distinct
pub distinct_apart : (names : List Name) → AreDistinctNames names → IsDistinct (eq_by_cmp name_cmp) names
unfolding IsDistinct
distinct_apart [] a = tt
distinct_apart (n ∷ names) a = (
  others n names (λ j e. let z : 0 ≡ suc j = a 0 (suc j) n refl e in absurd (omega (arith, z))),
  distinct_apart names (apart_rest n names a),
)

module _ (L : Listing) (is : IsListing L) where
  -- the net of a known number is a net
  pub number_is_net : (i : ℕ) → i < length L.nets → IsNet (netlist L) (net_name L.nets i)
  number_is_net i h =
      let r = at_place L.nets i h in
      (r.0.supply, ap (get (netlist L).nets) (net_name_is L is i r.0 r.1) ∙ net_is L is i r.0 r.1)

  pins_whole : (c : Name) (x : Component) (p n : Name) → get (netlist L).comps c ≡ Some x → get x.joined p ≡ Some n → IsPin x p × IsNet (netlist L) n
  pins_whole c x p n e f =
      let w = comp_of L is c x e in
      let m = named_joint L.nets (pins w.1) w.1.joined p n (sym (get-from_entries nat_list_cmp_total (row_joints L.nets (pins w.1) w.1.joined) p) ∙ ap (λ (y : Component). get y.joined p) w.4 ∙ f) in (
        (m.1.1, ap (λ (y : Component). role_of y p) (sym w.4) ∙ ap (role_of (component L.nets w.1)) (sym m.4) ∙ role_is L is w.0 w.1 m.0 m.1 w.2 m.3),
        subst (IsNet (netlist L)) m.6 (number_is_net m.2 ((is.rows w.0 w.1 w.2).known m.0 m.2 m.5)),
      )

  pub whole : IsWellFormed (netlist L)
  whole = record {
    names = λ c x e.
        let w = comp_of L is c x e in
        subst (λ (y : Component). IsDistinct (eq_by_cmp name_cmp) (map (λ e. e.0) (pins_of y.kind))) w.4 (distinct_apart _ (is.rows w.0 w.1 w.2).kind.apart);
    rows = λ c x e.
        let w = comp_of L is c x e in
        subst (λ (y : Component). HasRows y.kind) w.4 (is.rows w.0 w.1 w.2).kind.rows;
    pins = pins_whole;
    tops = λ t x e.
        let w = top_of L is t x e in
        subst (λ (y : Top). IsNet (netlist L) y.net) w.4 (number_is_net w.1.net (is.ends w.0 w.1 w.2));
  }
