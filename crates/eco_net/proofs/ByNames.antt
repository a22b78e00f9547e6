-- What a listing's rows say of nets and pins by their names
use Rattle.std.proofs.Common.{◌≡◌, ℕ, zero, suc, ◌||◌, Bool, true, false, cond, List, [], ◌∷◌, map, Option, Some, None, refl, sym, ap, ap₂, ◌∙◌, subst, slice_get}
use Rattle.std.specs.List.{filter, list_any}
use Rattle.std.specs.Option.{option_map, unwrap_or}
use Rattle.std.specs.Ordering.{eq_by_cmp}
use Rattle.std.specs.Cmp.Lexicographic.{nat_list_cmp_total}
use Rattle.std.specs.FinMap.{get}
use Rattle.std.specs.FinSet.{contains, contains-from_list}
use Rattle.std.proofs.lemmas.Option.{slice_get_within}
use Rattle.eco_net.specs.declared.rows.NetRow.{NetRow}
use Rattle.eco_net.specs.declared.rows.CompRow.{CompRow}
use Rattle.eco_net.specs.declared.ids.CompId.{CompId}
use Rattle.eco_net.specs.Netlist.{Name, name_cmp, Component, CompPin, role_of}
use Rattle.eco_net.specs.Listing.{Listing, netlist, component, pins, net_name, comp_name, pin_at, AreDistinctNames, HasPin, FindsPin, FindsName, FindsPinNamed}
use Rattle.eco_net.specs.Kept.{IsListing}
use Rattle.eco_net.proofs.Basics.{same_Some, not_None, cmp_itself, cmp_apart, has_found, contains_from_has}
use Rattle.eco_net.proofs.Places.{name_of_row, row_of_name}
use Rattle.eco_net.proofs.Named.{apart_rest, apart_first, net_is, comp_is}
use Rattle.eco_net.proofs.PinNames.{net_name_is}

-- ---- rows that are marked

abbrev marked : List NetRow → List Name
marked rows = map (λ r. r.name) (filter (λ r. r.tie) rows)

any_other : (rows : List NetRow) (q : Name) → ((i : ℕ) → slice_get (map (λ r. r.name) rows) i ≡ Some q → ⊥) → list_any (eq_by_cmp name_cmp q) (marked rows) ≡ false
any_other [] q none = refl
any_other (r ∷ rows) q none = go r.tie (any_other rows q (λ i. none (suc i)))
  where
    go : (b : Bool) → list_any (eq_by_cmp name_cmp q) (marked rows) ≡ false → list_any (eq_by_cmp name_cmp q) (map (λ r. r.name) (cond b (r ∷ filter (λ r. r.tie) rows) (filter (λ r. r.tie) rows))) ≡ false
    go true rest = ap (λ b. b || list_any (eq_by_cmp name_cmp q) (marked rows)) (cmp_apart q r.name (λ s. none 0 (ap Some (sym s)))) ∙ rest
    go false rest = rest

-- of the names of marked rows a row's name is one exactly where the row is marked
any_marked : (rows : List NetRow) (n : ℕ) (r : NetRow) → AreDistinctNames (map (λ r. r.name) rows) → slice_get rows n ≡ Some r → list_any (eq_by_cmp name_cmp r.name) (marked rows) ≡ r.tie
any_marked [] n r a e = absurd (not_None (sym e))
any_marked (x ∷ rows) zero r a e =
    subst (λ r. list_any (eq_by_cmp name_cmp r.name) (marked (x ∷ rows)) ≡ r.tie) (same_Some e) (go x.tie)
  where
    go : (b : Bool) → list_any (eq_by_cmp name_cmp x.name) (map (λ r. r.name) (cond b (x ∷ filter (λ r. r.tie) rows) (filter (λ r. r.tie) rows))) ≡ b
    go true = ap (λ b. b || list_any (eq_by_cmp name_cmp x.name) (marked rows)) (cmp_itself x.name)
    go false = any_other rows x.name (λ i h. apart_first x.name (map (λ r. r.name) rows) a i x.name h refl)
any_marked (x ∷ rows) (suc n) r a e = go x.tie (any_marked rows n r (apart_rest x.name (map (λ r. r.name) rows) a) e)
  where
    go : (b : Bool) → list_any (eq_by_cmp name_cmp r.name) (marked rows) ≡ r.tie → list_any (eq_by_cmp name_cmp r.name) (map (λ r. r.name) (cond b (x ∷ filter (λ r. r.tie) rows) (filter (λ r. r.tie) rows))) ≡ r.tie
    go true rest =
        ap (λ b. b || list_any (eq_by_cmp name_cmp r.name) (marked rows)) (cmp_apart r.name x.name (apart_first x.name (map (λ r. r.name) rows) a n r.name (name_of_row (λ r. r.name) rows n r e)))
        ∙ rest
    go false rest = rest

module _ (L : Listing) (is : IsListing L) where
  -- ---- nets

  pub supply_named : (n : ℕ) (r : NetRow) → slice_get L.nets n ≡ Some r → get (netlist L).nets (net_name L.nets n) ≡ Some r.supply
  supply_named n r e = ap (get (netlist L).nets) (net_name_is L is n r e) ∙ net_is L is n r e

  pub tie_named : (n : ℕ) (r : NetRow) → slice_get L.nets n ≡ Some r → r.tie ≡ contains (netlist L).ties (net_name L.nets n)
  tie_named n r e =
      sym (any_marked L.nets n r is.nets e)
      ∙ sym (contains-from_list nat_list_cmp_total (map (λ r. r.name) (filter (λ r. r.tie) L.nets)) r.name)
      ∙ ap (contains (netlist L).ties) (sym (net_name_is L is n r e))

  -- ---- pins

  comp_name_is : (c : ℕ) (r : CompRow) → slice_get L.comps c ≡ Some r → comp_name L.comps c ≡ r.name
  comp_name_is c r e = ap (λ o. unwrap_or (option_map (λ r. r.name) o) []) e

  pub pin_found_named : (c : CompId) (q : Name) (o : Option ℕ) → FindsPin (slice_get L.comps c.0) q o → FindsPinNamed L c q o
  pin_found_named c q o f = go (slice_get L.comps c.0) refl f
    where
      by_row : (r : CompRow) → slice_get L.comps c.0 ≡ Some r → (o : Option ℕ) → FindsName (map (λ p. p.0) (pins r)) q o → FindsPinNamed L c q o
      by_row r e None none = λ x g p.
          let same : component L.nets r ≡ x = same_Some (sym (comp_is L is c.0 r e) ∙ ap (get (netlist L).comps) (sym (comp_name_is c.0 r e)) ∙ g) in
          none (contains_from_has (map (λ p. p.0) (pins r)) q (has_found (pins r) q p.0 (ap (λ (y : Component). role_of y q) same ∙ p.1)))
      by_row r e (Some k) at =
          let w = row_of_name (λ p. p.0) (pins r) k q at in (
            subst (λ o. HasPin o k) (sym e) (slice_get_within (pins r) k w.0 w.1),
            ap (λ o. pin_at o k) e ∙ ap (λ o. CompPin r.name (unwrap_or (option_map (λ p. p.0) o) [])) w.1 ∙ ap₂ CompPin (sym (comp_name_is c.0 r e)) w.2,
          )

      go : (x : Option CompRow) → slice_get L.comps c.0 ≡ x → FindsPin x q o → FindsPinNamed L c q o
      go None e h = absurd h
      go (Some r) e h = by_row r e o h
