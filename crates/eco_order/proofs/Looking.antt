-- What a listed netlist has at a name.
use Rattle.std.proofs.Common.{◌≡◌, ℕ, zero, suc, ◌<◌, Bool, true, false, cond, ◌||◌, List, [], ◌∷◌, length, map, Option, Some, None, slice_get, is_some, refl, sym, ap, subst, ◌∙◌, arith}
use Rattle.std.specs.Option.{option_map, unwrap_or}
use Rattle.std.specs.List.{Contains, filter, list_any}
use Rattle.std.specs.Ordering.{eq_by_cmp}
use Rattle.std.specs.Cmp.Lexicographic.{nat_list_cmp_total}
use Rattle.std.specs.FinSet.{contains, contains-from_list}
use Rattle.std.specs.FinMap.{get, contains_key, find}
use Rattle.eco_common.specs.declared.geometry.Dir.{Dir}
use Rattle.eco_net.specs.Netlist.{Name, name_cmp, Role, CompPin, IsWellFormed, role_of}
use Rattle.eco_net.specs.Drivers.{dir_of_role, net_of, joined_at}
use Rattle.eco_net.specs.Listing.{Listing, netlist, net_names, comp_names, net_name, component, pins, pin_at, HasPin, FindsPin}
use Rattle.eco_net.specs.Kept.{IsListing}
use Rattle.eco_net.specs.ByNumber.{role_at}
use Rattle.eco_net.specs.declared.rows.NetRow.{NetRow}
use Rattle.eco_net.specs.declared.rows.CompRow.{CompRow}
use Rattle.eco_net.proofs.Basics.{not_None, has_found, contains_from_has, cmp_apart}
use Rattle.eco_net.proofs.Places.{row_of_name, not_a_row}
use Rattle.eco_net.proofs.Named.{net_is, comp_is, role_is}
use Rattle.eco_order.specs.Rules.{dir_at, is_supply, is_fixed}

within : {A : Type 0} (xs : List A) (i : ℕ) (x : A) → slice_get xs i ≡ Some x → i < length xs
within [] i x e = absurd (not_None (sym e))
within (y ∷ ys) zero x e = omega arith
within (y ∷ ys) (suc i) x e = omega (arith, within ys i x e)

no_pin : (ps : List (Name × Role)) (q : Name) → (Contains (map (λ p. p.0) ps) q → ⊥) → find name_cmp q ps ≡ None
no_pin ps q h = go (find name_cmp q ps) refl
  where
    go : (o : Option Role) → find name_cmp q ps ≡ o → find name_cmp q ps ≡ None
    go None e = e
    go (Some r) e = absurd (h (contains_from_has (map (λ p. p.0) ps) q (has_found ps q r e)))

-- a name that no row has is no marked name
none_marked : (rows : List NetRow) (q : Name) → ((i : ℕ) → slice_get (map (λ r. r.name) rows) i ≡ Some q → ⊥) → list_any (eq_by_cmp name_cmp q) (map (λ r. r.name) (filter (λ r. r.tie) rows)) ≡ false
none_marked [] q h = refl
none_marked (r ∷ rows) q h = go r.tie (none_marked rows q (λ i e. h (suc i) e))
  where
    other : eq_by_cmp name_cmp q r.name ≡ false
    other = cmp_apart q r.name (λ e. h 0 (ap Some (sym e)))

    go : (b : Bool) → list_any (eq_by_cmp name_cmp q) (map (λ r. r.name) (filter (λ r. r.tie) rows)) ≡ false → list_any (eq_by_cmp name_cmp q) (map (λ r. r.name) (cond b (r ∷ filter (λ r. r.tie) rows) (filter (λ r. r.tie) rows))) ≡ false
    go true rest = ap (λ b. b || list_any (eq_by_cmp name_cmp q) (map (λ r. r.name) (filter (λ r. r.tie) rows))) other ∙ rest
    go false rest = rest

module _ (L : Listing) (is : IsListing L) where
  -- a name of no net is no fixed net
  pub no_net_fixed : (q : Name) → get (netlist L).nets q ≡ None → false ≡ is_fixed (netlist L) q
  no_net_fixed q e =
      sym (ap (λ o. is_supply o || contains (netlist L).ties q) e
      ∙ contains-from_list nat_list_cmp_total (map (λ r. r.name) (filter (λ r. r.tie) L.nets)) q
      ∙ none_marked L.nets q (not_a_row (λ r. r.name) (λ r. r.supply) L.nets q e))

  pub net_known : (i : ℕ) (q : Name) → slice_get (net_names L) i ≡ Some q → true ≡ contains_key (netlist L).nets q
  net_known i q e =
      let w = row_of_name (λ r. r.name) L.nets i q e in
      sym (ap is_some (ap (get (netlist L).nets) (sym w.2) ∙ net_is L is i w.0 w.1))

  pub net_named_at : (i : ℕ) (q : Name) → slice_get (net_names L) i ≡ Some q → net_name L.nets i ≡ q
  net_named_at i q e =
      let w = row_of_name (λ r. r.name) L.nets i q e in
      ap (λ o. unwrap_or (option_map (λ r. r.name) o) []) w.1 ∙ w.2

  module _ (c : ℕ) (comp pin : Name) (at : slice_get (comp_names L) c ≡ Some comp) where
    row : (r : CompRow) × (slice_get L.comps c ≡ Some r) × (r.name ≡ comp)
    row = row_of_name (λ r. r.name) L.comps c comp at

    comp_there : get (netlist L).comps comp ≡ Some (component L.nets row.0)
    comp_there = ap (get (netlist L).comps) (sym row.2) ∙ comp_is L is c row.0 row.1

    no_role : FindsPin (slice_get L.comps c) pin None → role_of (component L.nets row.0) pin ≡ None
    no_role f = no_pin (pins row.0) pin (subst (λ o. FindsPin o pin None) row.1 f)

    pub no_dir : FindsPin (slice_get L.comps c) pin None → dir_at (get (netlist L).comps comp) pin ≡ None
    no_dir f = ap (λ o. dir_at o pin) comp_there ∙ ap (option_map dir_of_role) (no_role f)

    module _ (k : ℕ) (found : FindsPin (slice_get L.comps c) pin (Some k)) where
      here : (p : Name × Role) × (slice_get (pins row.0) k ≡ Some p) × (p.0 ≡ pin)
      here = row_of_name (λ p. p.0) (pins row.0) k pin (subst (λ o. FindsPin o pin (Some k)) row.1 found)

      pub pin_there : HasPin (slice_get L.comps c) k
      pin_there = subst (λ o. HasPin o k) (sym row.1) (within (pins row.0) k here.0 here.1)

      pub dir_there : (d : Dir) → option_map dir_of_role (role_at (slice_get L.comps c) k) ≡ Some d → Some d ≡ dir_at (get (netlist L).comps comp) pin
      dir_there d e =
          sym e ∙ ap (λ o. option_map dir_of_role (role_at o k)) row.1
          ∙ ap (λ o. option_map dir_of_role (option_map (λ p. p.1) o)) here.1
          ∙ sym (ap (λ o. dir_at o pin) comp_there ∙ ap (option_map dir_of_role) (ap (role_of (component L.nets row.0)) (sym here.2) ∙ role_is L is c row.0 k here.0 row.1 here.1))

      pub pin_called : pin_at (slice_get L.comps c) k ≡ CompPin comp pin
      pin_called =
          ap (λ o. pin_at o k) row.1
          ∙ ap (λ o. CompPin row.0.name (unwrap_or (option_map (λ p. p.0) o) [])) here.1
          ∙ ap (λ n. CompPin n here.0.0) row.2 ∙ ap (CompPin comp) here.2

    pub no_net : IsWellFormed (netlist L) → FindsPin (slice_get L.comps c) pin None → net_of (netlist L) (CompPin comp pin) ≡ None
    no_net whole f = ap (λ o. joined_at o pin) comp_there ∙ go (get (component L.nets row.0).joined pin) refl
      where
        go : (o : Option Name) → get (component L.nets row.0).joined pin ≡ o → get (component L.nets row.0).joined pin ≡ None
        go None e = e
        go (Some n) e = absurd (not_None (sym ((whole.pins comp (component L.nets row.0) pin n comp_there e).0.1) ∙ no_role f))
