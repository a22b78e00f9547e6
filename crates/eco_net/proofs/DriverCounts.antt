-- How many pins drive a net, by number and by name
use Rattle.std.proofs.Common.{◌≡◌, ℕ, zero, suc, ◌<◌, List, [], ◌∷◌, map, length, Some, refl, sym, ap, ◌∙◌, subst, slice_get, Less, inl, inr}
use Rattle.std.specs.List.{Contains}
use Rattle.std.specs.List.Sorted.{IsStrictlySortedBy}
use Rattle.std.proofs.lemmas.List.{length-map}
use Rattle.std.proofs.lemmas.List.Kept.{IsStrictlySortedBy-filter}
use Rattle.eco_net.specs.declared.ids.PinRef.{PinRef}
use Rattle.eco_net.specs.declared.drivers.Driving.TheVariants.{None as Undriven, One, Several}
use Rattle.eco_net.specs.Netlist.{Pin}
use Rattle.eco_net.specs.Drivers.{driven, HasDrivers}
use Rattle.eco_net.specs.Listing.{Listing, netlist, net_name, numbered_pin}
use Rattle.eco_net.specs.Kept.{IsListing}
use Rattle.eco_net.specs.Driving.{driving_of}
use Rattle.eco_net.specs.PinOrder.{pin_order}
use Rattle.eco_net.specs.Pins.{AreKnownPins}
use Rattle.eco_net.specs.ByNumber.{drives, is_on, all_pins, pins_on}
use Rattle.eco_net.proofs.Basics.{Has, same_Some, not_None, has_from_contains, contains_from_has, has_map, has_of_map}
use Rattle.eco_net.proofs.Places.{row_of_name}
use Rattle.eco_net.proofs.PinNames.{pin_driving, same_pin}
use Rattle.eco_net.proofs.AllPins.{all_at, known_has, filter_has, pins_sorted}
use Rattle.eco_net.proofs.DriverNames.{not_less, driving, has_driving, driving_has, drives_named, named_drives}

has_at : {A : Type 0} (xs : List A) (i : ℕ) (x : A) → slice_get xs i ≡ Some x → Has xs x
has_at xs i x e = go xs i e
  where
    go : {A : Type 0} {x : A} (xs : List A) (i : ℕ) → slice_get xs i ≡ Some x → Has xs x
    go [] i e = absurd (not_None (sym e))
    go (y ∷ xs) zero e = inl (same_Some e)
    go (y ∷ xs) (suc i) e = inr (go xs i e)

-- in a sorted list each pin stands once
sorted_once : (xs : List PinRef) → IsStrictlySortedBy pin_order xs → (i j : ℕ) (p : PinRef) → slice_get xs i ≡ Some p → slice_get xs j ≡ Some p → i ≡ j
unfolding IsStrictlySortedBy
sorted_once [] s i j p e f = absurd (not_None (sym e))
sorted_once (x ∷ xs) s zero zero p e f = refl
sorted_once (x ∷ xs) s zero (suc j) p e f = absurd (not_less x p (all_at (λ y. pin_order x y ≡ Less) xs s.0 p (has_at xs j p f)) (same_Some e))
sorted_once (x ∷ xs) s (suc i) zero p e f = absurd (not_less x p (all_at (λ y. pin_order x y ≡ Less) xs s.0 p (has_at xs i p e)) (same_Some f))
sorted_once (x ∷ xs) s (suc i) (suc j) p e f = ap suc (sorted_once xs s.1 i j p e f)

pub all_known : (L : Listing) (n : ℕ) → AreKnownPins L (pins_on L n)
all_known L n p c = known_has L p (filter_has (is_on L n) (all_pins L) p (has_from_contains (pins_on L n) p c)).0

module _ (L : Listing) (is : IsListing L) (n : ℕ) (h : n < length L.nets) where
  abbrev its : List PinRef
  its = driving L is n

  sorted : IsStrictlySortedBy pin_order its
  sorted = IsStrictlySortedBy-filter pin_order (drives L) (pins_on L n) (IsStrictlySortedBy-filter pin_order (is_on L n) (all_pins L) (pins_sorted L))

  once : (i j : ℕ) (p : Pin) → slice_get (map (numbered_pin L) its) i ≡ Some p → slice_get (map (numbered_pin L) its) j ≡ Some p → i ≡ j
  once i j p e f =
      let v = row_of_name (numbered_pin L) its i p e in
      let w = row_of_name (numbered_pin L) its j p f in
      let a = driving_has L is n v.0 (has_at its i v.0 v.1) in
      let b = driving_has L is n w.0 (has_at its j w.0 w.1) in
      sorted_once its sorted i j v.0 v.1 (w.1 ∙ ap Some (same_pin L is w.0 v.0 b.0 a.0 (w.2 ∙ sym v.2)))

  -- the driving pins by number are all that drive the net
  pub counted : (count : ℕ) → length its ≡ count → HasDrivers (netlist L) (net_name L.nets n) count
  counted count l = record {
    pins = map (numbered_pin L) its;
    once = once;
    each = λ p. (
      λ c. let w = has_of_map (numbered_pin L) its p (has_from_contains (map (numbered_pin L) its) p c) in
          let a = driving_has L is n w.0 w.1 in
          ap (driven (netlist L)) (sym w.2) ∙ drives_named L is n w.0 a.0 a.1,
      λ d. let w = pin_driving L is p (net_name L.nets n) d in
          let g = named_drives L is n w.0 h w.1 (ap (driven (netlist L)) w.2 ∙ d) in
          subst (Contains (map (numbered_pin L) its)) w.2 (contains_from_has (map (numbered_pin L) its) (numbered_pin L w.0) (has_map (numbered_pin L) its w.0 (has_driving L is n w.0 w.1 g))),
    );
    counted = length-map its (numbered_pin L) ∙ l;
  }

  none_of : (ps : List PinRef) → driving_of ps ≡ Undriven → length ps ≡ 0
  none_of [] e = refl
  none_of (p ∷ []) e = absurd (clash e)
    where
      clash : One p ≡ Undriven → ⊥
      clash e = cc
  none_of (p ∷ q ∷ ps) e = absurd (clash e)
    where
      clash : Several ≡ Undriven → ⊥
      clash e = cc

  one_of : (ps : List PinRef) (p : PinRef) → driving_of ps ≡ One p → length ps ≡ 1
  one_of [] p e = absurd (clash e)
    where
      clash : Undriven ≡ One p → ⊥
      clash e = cc
  one_of (q ∷ []) p e = refl
  one_of (q ∷ r ∷ ps) p e = absurd (clash e)
    where
      clash : Several ≡ One p → ⊥
      clash e = cc

  pub no_drivers : driving_of its ≡ Undriven → HasDrivers (netlist L) (net_name L.nets n) 0
  no_drivers e = counted 0 (none_of its e)

  pub one_driver : (p : PinRef) → driving_of its ≡ One p → HasDrivers (netlist L) (net_name L.nets n) 1
  one_driver p e = counted 1 (one_of its p e)
