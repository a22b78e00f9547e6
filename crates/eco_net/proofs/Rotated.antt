-- A ring of nets from the least name on is a closed walk as it is reported
use Rattle.std.proofs.Common.{◌≡◌, ◌≢◌, ℕ, ◌+◌, ◌<◌, true, false, List, [], ◌∷◌, ◌++◌, map, length, take, drop, get_or, refl, sym, ap, ◌∙◌, subst, arith, inl, inr, ⊎_elim, nat_eq, Ordering, Less, Equal, Greater, true≢false}
use Rattle.std.specs.List.{IsDistinct, Contains, AllByRecursion, All}
use Rattle.std.specs.Ordering.{eq_by_cmp, ordering_reverse, is_lt}
use Rattle.std.specs.Cmp.{nat_eq_equiv, tied_itself}
use Rattle.std.specs.Cmp.Lexicographic.{nat_list_cmp_total}
use Rattle.std.proofs.lemmas.Map.Lookups.{exact_bytes}
use Rattle.std.proofs.lemmas.Map.Keys.{IsDistinct-IsPermutation}
use Rattle.std.proofs.lemmas.List.Sorted.{IsPermutation-append_comm}
use Rattle.std.proofs.lemmas.List.Elements.{Contains-get_or}
use Rattle.std.proofs.lemmas.List.{append-nil}
use Rattle.std.proofs.lemmas.Option.{slice_get-get_or, get_or_from_slice_get, slice_get_within}
use Rattle.eco_net.specs.Netlist.{Name, name_cmp}
use Rattle.eco_net.specs.Walks.{IsClosedWalk}
use Rattle.eco_net.specs.Listing.{Listing, netlist, net_name}
use Rattle.eco_net.specs.Kept.{IsListing}
use Rattle.eco_net.specs.Search.{Around, IsRing}
use Rattle.eco_net.specs.Rings.{IsLeastAt}
use Rattle.eco_net.proofs.Basics.{Has, has_from_contains, has_of_map, has_append_left, has_append_right, cmp_apart}
use Rattle.eco_net.proofs.AllPins.{split_has}
use Rattle.eco_net.proofs.GateNames.{nm, computed_known, at_has}
use Rattle.eco_net.proofs.PinNames.{same_net}
use Rattle.eco_net.proofs.Searching.{none_of}
use Rattle.eco_net.proofs.SearchPaths.{split_place, lt_cases}
use Rattle.eco_net.proofs.Orders.{onward_named}

pub all_of : (P : ℕ → Type 0) (xs : List ℕ) → ((x : ℕ) → Has xs x → P x) → All P xs
all_of P xs f k d h = f _ (has_from_contains xs _ (Contains-get_or xs k d h))

around_known : (L : Listing) (a : ℕ) (ns : List ℕ) (b : ℕ) → Around L a ns b → (x : ℕ) → Has (a ∷ ns) x → x < length L.nets
around_known L a [] b r x (inl e) = subst (λ y. y < length L.nets) e (computed_known L a r.source r.from)
around_known L a [] b r x (inr h) = absurd h
around_known L a (c ∷ cs) b r x (inl e) = subst (λ y. y < length L.nets) e (computed_known L a r.0.source r.0.from)
around_known L a (c ∷ cs) b r x (inr h) = around_known L c cs b r.1 x h

pub ring_known : (L : Listing) (ring : List ℕ) → IsRing L ring → (x : ℕ) → Has ring x → x < length L.nets
ring_known L [] r x h = absurd h
ring_known L (n ∷ ns) r x h = around_known L n ns n r.0 x h

around_split : (L : Listing) (a : ℕ) (fs : List ℕ) (m : ℕ) (rest : List ℕ) (b : ℕ) → Around L a (fs ++ m ∷ rest) b → Around L a fs m × Around L m rest b
around_split L a [] m rest b r = r
around_split L a (c ∷ fs) m rest b r = let w = around_split L c fs m rest b r.1 in ((r.0, w.0), w.1)

around_join : (L : Listing) (m : ℕ) (rest : List ℕ) (n : ℕ) (fs : List ℕ) (q : ℕ) → Around L m rest n → Around L n fs q → Around L m (rest ++ n ∷ fs) q
around_join L m [] n fs q a b = (a, b)
around_join L m (c ∷ rest) n fs q a b = (a.0, around_join L c rest n fs q a.1 b)

rotated : (L : Listing) (front : List ℕ) (m : ℕ) (rest : List ℕ) → IsRing L (front ++ m ∷ rest) → Around L m (rest ++ front) m
rotated L [] m rest r = subst (λ ns. Around L m ns m) (sym (append-nil rest)) r.0
rotated L (n ∷ fs) m rest r = let w = around_split L n fs m rest n r.0 in around_join L m rest n fs m w.1 w.0

ring_distinct : (L : Listing) (ring : List ℕ) → IsRing L ring → IsDistinct nat_eq ring
ring_distinct L [] r = absurd r
ring_distinct L (n ∷ ns) r = r.1

first_out : (m : ℕ) (ns : List ℕ) → IsDistinct nat_eq (m ∷ ns) → Has ns m → ⊥
unfolding IsDistinct
first_out m ns d h = none_of m ns d.0 h

tail_distinct : (m : ℕ) (ns : List ℕ) → IsDistinct nat_eq (m ∷ ns) → IsDistinct nat_eq ns
unfolding IsDistinct
tail_distinct m ns d = d.1

only_less : (o : Ordering) → o ≢ Greater → o ≢ Equal → o ≡ Less
only_less Less a b = refl
only_less Equal a b = absurd (b refl)
only_less Greater a b = absurd (a refl)

module _ (L : Listing) (is : IsListing L) where
  all_names : (x : ℕ) (xs : List ℕ) → x < length L.nets → ((y : ℕ) → Has xs y → y < length L.nets) → (Has xs x → ⊥) → AllByRecursion (λ y. eq_by_cmp name_cmp (nm L is x) y ≡ false) (map (nm L is) xs)
  all_names x [] h k d = tt
  all_names x (y ∷ xs) h k d = (cmp_apart (nm L is x) (nm L is y) (λ e. d (inl (sym (same_net L is x y h (k y (inl refl)) e)))), all_names x xs h (λ z i. k z (inr i)) (λ i. d (inr i)))

  distinct_names : (xs : List ℕ) → ((y : ℕ) → Has xs y → y < length L.nets) → IsDistinct nat_eq xs → IsDistinct (eq_by_cmp name_cmp) (map (nm L is) xs)
  unfolding IsDistinct
  distinct_names [] k d = tt
  distinct_names (x ∷ xs) k d = (all_names x xs (k x (inl refl)) (λ y i. k y (inr i)) (none_of x xs d.0), distinct_names xs (λ y i. k y (inr i)) d.1)

  pub closed_walk : (ring : List ℕ) (b : ℕ) → IsRing L ring → IsLeastAt L.nets ring (length ring) b → IsClosedWalk (netlist L) (map (nm L is) (drop b ring ++ take b ring))
  closed_walk ring b r least = subst (λ ns. IsClosedWalk (netlist L) (map (nm L is) ns)) (sym (ap (λ xs. xs ++ front) w.2)) (onward_named L is m tail m around, less, distinct_names tail known (tail_distinct m tail apart))
    where
      m : ℕ
      m = get_or ring b 0

      w : (rest : List ℕ) × (ring ≡ take b ring ++ m ∷ rest) × (drop b ring ≡ m ∷ rest)
      w = split_place ring b m (slice_get-get_or ring b 0 least.within)

      front : List ℕ
      front = take b ring

      tail : List ℕ
      tail = w.0 ++ front

      whole : IsRing L (front ++ m ∷ w.0)
      whole = subst (IsRing L) w.1 r

      around : Around L m tail m
      around = rotated L front m w.0 whole

      apart : IsDistinct nat_eq (m ∷ tail)
      apart = IsDistinct-IsPermutation nat_eq nat_eq_equiv.symm (front ++ m ∷ w.0) ((m ∷ w.0) ++ front) (IsPermutation-append_comm front (m ∷ w.0)) (ring_distinct L (front ++ m ∷ w.0) whole)

      has_ring : (x : ℕ) → Has tail x → Has ring x
      has_ring x h = subst (λ xs. Has xs x) (sym w.1) (⊎_elim (λ i. has_append_right front (m ∷ w.0) x (inr i)) (λ i. has_append_left front (m ∷ w.0) x i) (split_has w.0 front x h))

      known : (x : ℕ) → Has tail x → x < length L.nets
      known x h = ring_known L ring r x (has_ring x h)

      here : m < length L.nets
      here = ring_known L ring r m (subst (λ xs. Has xs m) (sym w.1) (has_append_right front (m ∷ w.0) m (inl refl)))

      less : (q : Name) → Contains (map (nm L is) tail) q → name_cmp (nm L is m) q ≡ Less
      less q c =
          let x = has_of_map (nm L is) tail q (has_from_contains (map (nm L is) tail) q c) in
          let p = at_has ring x.0 (has_ring x.0 x.1) in
          let at : get_or ring p.0 0 ≡ x.0 = get_or_from_slice_get ring p.0 x.0 0 p.1 in
          let not_greater : name_cmp (nm L is m) (nm L is x.0) ≢ Greater = subst (λ y. name_cmp (nm L is m) (nm L is y) ≢ Greater) at (least.least p.0 (slice_get_within ring p.0 x.0 p.1)) in
          let not_equal : name_cmp (nm L is m) (nm L is x.0) ≢ Equal = λ e. first_out m tail apart (subst (Has tail) (sym (same_net L is m x.0 here (known x.0 x.1) (exact_bytes (nm L is m) (nm L is x.0) e))) x.1) in
          subst (λ y. name_cmp (nm L is m) y ≡ Less) x.2 (only_less (name_cmp (nm L is m) (nm L is x.0)) not_greater not_equal)

-- ---- the least so far

itself : (n : Name) → name_cmp n n ≢ Greater
itself n e = not_both (sym (tied_itself nat_list_cmp_total n) ∙ e)
  where
    not_both : Equal ≡ Greater → ⊥
    not_both e = cc

less_or_equal : (a b c : Name) → name_cmp a b ≡ Less → name_cmp b c ≢ Greater → name_cmp a c ≢ Greater
less_or_equal a b c l n = go (name_cmp b c) refl n
  where
    not_greater : Less ≡ Greater → ⊥
    not_greater e = cc

    go : (o : Ordering) → name_cmp b c ≡ o → o ≢ Greater → name_cmp a c ≢ Greater
    go Less e n = λ g. not_greater (sym (nat_list_cmp_total.trans a b c l e) ∙ g)
    go Equal e n = λ g. not_greater (sym l ∙ ap (name_cmp a) (exact_bytes b c e) ∙ g)
    go Greater e n = absurd (n refl)

not_less_back : (a b : Name) → is_lt (name_cmp a b) ≡ false → name_cmp b a ≢ Greater
not_less_back a b f g = true≢false (ap is_lt (sym (nat_list_cmp_total.antisymm a b ∙ ap ordering_reverse g)) ∙ f)

pub least_first : (L : Listing) (nets : List ℕ) → IsLeastAt L.nets nets 1 0
least_first L nets = record {
  within = omega arith;
  least = λ k h. let z : k ≡ 0 = omega (arith, h) in subst (λ j. name_cmp (net_name L.nets (get_or nets 0 0)) (net_name L.nets (get_or nets j 0)) ≢ Greater) (sym z) (itself (net_name L.nets (get_or nets 0 0)));
}

pub least_less : (L : Listing) (nets : List ℕ) (i b : ℕ) → IsLeastAt L.nets nets i b → name_cmp (net_name L.nets (get_or nets i 0)) (net_name L.nets (get_or nets b 0)) ≡ Less → IsLeastAt L.nets nets (i + 1) i
least_less L nets i b l e = record {
  within = omega arith;
  least = λ k h. ⊎_elim
      (λ g. less_or_equal (net_name L.nets (get_or nets i 0)) (net_name L.nets (get_or nets b 0)) (net_name L.nets (get_or nets k 0)) e (l.least k g))
      (λ s. subst (λ j. name_cmp (net_name L.nets (get_or nets i 0)) (net_name L.nets (get_or nets j 0)) ≢ Greater) (sym s) (itself (net_name L.nets (get_or nets i 0))))
      (lt_cases k i h);
}

pub least_stays : (L : Listing) (nets : List ℕ) (i b : ℕ) → IsLeastAt L.nets nets i b → is_lt (name_cmp (net_name L.nets (get_or nets i 0)) (net_name L.nets (get_or nets b 0))) ≡ false → IsLeastAt L.nets nets (i + 1) b
least_stays L nets i b l f = record {
  within = let h : b < i = l.within in omega (arith, h);
  least = λ k h. ⊎_elim
      (λ g. l.least k g)
      (λ s. subst (λ j. name_cmp (net_name L.nets (get_or nets b 0)) (net_name L.nets (get_or nets j 0)) ≢ Greater) (sym s) (not_less_back (net_name L.nets (get_or nets i 0)) (net_name L.nets (get_or nets b 0)) f))
      (lt_cases k i h);
}

pub less_is : (o : Ordering) → is_lt o ≡ true → o ≡ Less
less_is Less e = refl
less_is Equal e = absurd (true≢false (sym e))
less_is Greater e = absurd (true≢false (sym e))
