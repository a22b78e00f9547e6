-- Components that are looked up, many at a time
use Rattle.std.proofs.Common.{◌≡◌, ◌∙◌, ℕ, zero, suc, ◌<◌, List, [], ◌∷◌, length, map, Option, None, Some, get_or, slice_get, sym, ap, refl, arith}
use Rattle.std.specs.Option.{option_map, MatchOption, IfSome}
use Rattle.std.specs.List.{AllZip}
use Rattle.std.specs.Borrow.{Bor}
use Rattle.std.specs.FinMap.{FinMap, get}
use Rattle.std.proofs.lemmas.Option.{slice_get_within}
use Rattle.eco_net.specs.declared.rows.CompRow.{CompRow}
use Rattle.eco_net.specs.Netlist.{Name, name_cmp}
use Rattle.eco_net.specs.Listing.{Listing, netlist, component, pins, FindsComp}
use Rattle.eco_net.specs.Kept.{IsIndexOf}
use Rattle.eco_net.specs.ByNumber.{pins_at, found_of}
use Rattle.eco_net.proofs.Places.{number_found, row_of_name}

module _ (L : Listing) (places : FinMap name_cmp ℕ) (index : IsIndexOf (map (λ r. r.name) L.comps) places) where
  abbrev place_of : Bor Name → Option ℕ
  place_of q = get places q.now

  found : (q : Name) → FindsComp L q (option_map (found_of L) (get places q))
  found q = go (get places q) (number_found (λ (r : CompRow). r.name) (component L.nets) L.comps places q index)
    where
      go : (o : Option ℕ) → MatchOption o (get (netlist L).comps q ≡ None) (λ i. slice_get (map (λ r. r.name) L.comps) i ≡ Some q) → FindsComp L q (option_map (found_of L) o)
      go None h = h
      go (Some i) h =
          let r = row_of_name (λ (r : CompRow). r.name) L.comps i q h in
          (h, ap (option_map (λ (r : CompRow). length (pins r))) r.1 ∙ ap Some (sym (ap pins_at r.1)))

  pub all_found : (qs : List (Bor Name)) → AllZip (λ q f. FindsComp L q.now f) qs (map (option_map (found_of L)) (map place_of qs))
  all_found [] = tt
  all_found (q ∷ qs) = (found q.now, all_found qs)

  -- a place is that of a row
  known : (q : Name) → IfSome (get places q) (λ c. c < length L.comps)
  known q = go (get places q) refl
    where
      go : (o : Option ℕ) → get places q ≡ o → IfSome o (λ c. c < length L.comps)
      go None e = tt
      go (Some c) e =
          let r = row_of_name (λ (r : CompRow). r.name) L.comps c q ((index q c).1 e) in
          slice_get_within L.comps c r.0 r.1

  pub known_at : (qs : List (Bor Name)) (i : ℕ) (d : Option ℕ) → i < length qs → IfSome (get_or (map place_of qs) i d) (λ c. c < length L.comps)
  known_at [] i d h = absurd (omega (arith, h))
  known_at (q ∷ qs) zero d h = known q.now
  known_at (q ∷ qs) (suc i) d h = known_at qs i d (omega (arith, h))
