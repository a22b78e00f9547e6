-- The driver of a net by number, and its one driving pin by name
use Rattle.std.proofs.Common.{◌≡◌, ℕ, ◌<◌, Bool, true, false, cond, List, [], ◌∷◌, length, Option, Some, None, refl, sym, ap, ◌∙◌, subst, inl, inr, ⊎_elim, Less, Equal}
use Rattle.std.specs.Option.{option_map, IfSome}
use Rattle.std.specs.List.{filter}
use Rattle.std.specs.List.Sorted.{IsStrictlySortedBy}
use Rattle.std.proofs.lemmas.List.Kept.{IsStrictlySortedBy-filter}
use Rattle.std.specs.Cmp.{tied_itself, on_total}
use Rattle.std.specs.Cmp.Lexicographic.{nat_list_cmp_total}
use Rattle.eco_net.specs.declared.ids.PinRef.{PinRef}
use Rattle.eco_net.specs.Netlist.{Pin}
use Rattle.eco_net.specs.Drivers.{driven, IsDriver}
use Rattle.eco_net.specs.Listing.{Listing, netlist, net_name, numbered_pin, IsKnownPin}
use Rattle.eco_net.specs.Kept.{IsListing}
use Rattle.eco_net.specs.PinOrder.{pin_number, pin_order}
use Rattle.eco_net.specs.ByNumber.{net_at, drives, is_on, all_pins, pins_on, sole, driver_at}
use Rattle.eco_net.specs.Pins.{DriverIs}
use Rattle.eco_net.proofs.Basics.{Has, same_Some, not_None}
use Rattle.eco_net.proofs.PinNames.{drives_net, driven_named, pin_driving, same_net, same_pin, known_net}
use Rattle.eco_net.proofs.AllPins.{has_known, known_has, has_filter, filter_has, on_net, net_on, pins_sorted}

-- no pin stands before itself
pub not_less : (p q : PinRef) → pin_order p q ≡ Less → p ≡ q → ⊥
not_less p q h e = not_both (sym h ∙ ap (pin_order p) (sym e) ∙ tied_itself (on_total pin_number nat_list_cmp_total) p)
  where
    not_both : Less ≡ Equal → ⊥
    not_both e = cc

sole_is : {A : Type 0} (xs : List A) (x : A) → sole xs ≡ Some x → xs ≡ x ∷ []
sole_is [] x e = absurd (not_None (sym e))
sole_is (y ∷ []) x e = ap (λ z. z ∷ []) (same_Some e)
sole_is (y ∷ z ∷ xs) x e = absurd (not_None (sym e))

module _ (L : Listing) (is : IsListing L) where
  both : (b : Bool) (j : Option ℕ) (n : ℕ) → cond b j None ≡ Some n → (b ≡ true) × (j ≡ Some n)
  both true j n e = (refl, e)
  both false j n e = absurd (not_None (sym e))

  abbrev pub driving : ℕ → List PinRef
  driving n = filter (drives L) (pins_on L n)

  pub has_driving : (n : ℕ) (p : PinRef) → IsKnownPin L p → drives_net L p ≡ Some n → Has (driving n) p
  has_driving n p k e =
      let w = both (drives L p) (net_at L p) n e in
      has_filter (drives L) (pins_on L n) p (has_filter (is_on L n) (all_pins L) p (has_known L p k) (net_on (net_at L p) n w.1)) w.0

  pub driving_has : (n : ℕ) (p : PinRef) → Has (driving n) p → IsKnownPin L p × (drives_net L p ≡ Some n)
  driving_has n p h =
      let w = filter_has (drives L) (pins_on L n) p h in
      let v = filter_has (is_on L n) (all_pins L) p w.0 in
      (known_has L p v.0, ap (λ b. cond b (net_at L p) None) w.1 ∙ on_net (net_at L p) n v.1)

  pub drives_named : (n : ℕ) (p : PinRef) → IsKnownPin L p → drives_net L p ≡ Some n → driven (netlist L) (numbered_pin L p) ≡ Some (net_name L.nets n)
  drives_named n p k e = driven_named L is p k ∙ ap (option_map (net_name L.nets)) e

  pub named_drives : (n : ℕ) (p : PinRef) → n < length L.nets → IsKnownPin L p → driven (netlist L) (numbered_pin L p) ≡ Some (net_name L.nets n) → drives_net L p ≡ Some n
  named_drives n p h k e = go (drives_net L p) refl (sym (driven_named L is p k) ∙ e)
    where
      go : (o : Option ℕ) → drives_net L p ≡ o → option_map (net_name L.nets) o ≡ Some (net_name L.nets n) → drives_net L p ≡ Some n
      go None f g = absurd (not_None (sym g))
      go (Some m) f g =
          let j = both (drives L p) (net_at L p) m f in
          f ∙ ap Some (same_net L is m n (known_net L is p m k j.1) h (same_Some g))

  -- the driver that is found is the one driving pin
  pub driver_named : (n : ℕ) (p : PinRef) → n < length L.nets → driver_at L n ≡ Some p → IsKnownPin L p × IsDriver (netlist L) (net_name L.nets n) (numbered_pin L p)
  driver_named n p h e =
      let only : driving n ≡ p ∷ [] = sole_is (driving n) p e in
      let this = driving_has n p (subst (λ xs. Has xs p) (sym only) (inl refl)) in (
        this.0,
        record {
          drives = drives_named n p this.0 this.1;
          only = λ q d.
              let w = pin_driving L is q (net_name L.nets n) d in
              let g = named_drives n w.0 h w.1 (ap (driven (netlist L)) w.2 ∙ d) in
              let i : Has (p ∷ []) w.0 = subst (λ xs. Has xs w.0) only (has_driving n w.0 w.1 g) in
              ⊎_elim (λ s. sym w.2 ∙ ap (numbered_pin L) (sym s)) (λ z. absurd z) i;
        },
      )

  -- where none is found, no pin is the one driving pin
  pub no_driver_named : (n : ℕ) → n < length L.nets → driver_at L n ≡ None → (q : Pin) → IsDriver (netlist L) (net_name L.nets n) q → ⊥
  unfolding IsStrictlySortedBy
  no_driver_named n h e q d =
      let w = pin_driving L is q (net_name L.nets n) d.drives in
      let g = named_drives n w.0 h w.1 (ap (driven (netlist L)) w.2 ∙ d.drives) in
      go (driving n) refl (IsStrictlySortedBy-filter pin_order (drives L) (pins_on L n) (IsStrictlySortedBy-filter pin_order (is_on L n) (all_pins L) (pins_sorted L))) e w.0 (has_driving n w.0 w.1 g)
    where
      same : (x : PinRef) → Has (driving n) x → (y : PinRef) → Has (driving n) y → x ≡ y
      same x i y j =
          let a = driving_has n x i in
          let b = driving_has n y j in
          same_pin L is x y a.0 b.0 (d.only (numbered_pin L x) (drives_named n x a.0 a.1) ∙ sym (d.only (numbered_pin L y) (drives_named n y b.0 b.1)))

      go : (xs : List PinRef) → driving n ≡ xs → IsStrictlySortedBy pin_order xs → sole xs ≡ None → (p : PinRef) → Has xs p → ⊥
      go [] f s z p i = i
      go (x ∷ []) f s z p i = not_None z
      go (x ∷ y ∷ xs) f s z p i = not_less x y s.0.0 (same x (subst (λ ys. Has ys x) (sym f) (inl refl)) y (subst (λ ys. Has ys y) (sym f) (inr (inl refl))))

  -- the one driving pin is found
  pub driver_number : (n : ℕ) (q : Pin) → n < length L.nets → IsDriver (netlist L) (net_name L.nets n) q → (p : PinRef) × (driver_at L n ≡ Some p) × IsKnownPin L p × (numbered_pin L p ≡ q)
  driver_number n q h d = go (driver_at L n) refl
    where
      go : (o : Option PinRef) → driver_at L n ≡ o → (p : PinRef) × (driver_at L n ≡ Some p) × IsKnownPin L p × (numbered_pin L p ≡ q)
      go None e = absurd (no_driver_named n h e q d)
      go (Some p) e = let w = driver_named n p h e in (p, e, w.0, d.only (numbered_pin L p) w.1.drives)

  -- what is found is what `DriverIs` says
  pub driver_is : (n : ℕ) (o : Option PinRef) → n < length L.nets → driver_at L n ≡ o → DriverIs L (net_name L.nets n) o
  driver_is n None h e = no_driver_named n h e
  driver_is n (Some p) h e = driver_named n p h e

  pub driver_known : (n : ℕ) (o : Option PinRef) → n < length L.nets → driver_at L n ≡ o → IfSome o (IsKnownPin L)
  driver_known n None h e = tt
  driver_known n (Some p) h e = (driver_named n p h e).0

  pub driver_drives : (n : ℕ) (p : PinRef) → driver_at L n ≡ Some p → drives L p ≡ true
  driver_drives n p e =
      let only : driving n ≡ p ∷ [] = sole_is (driving n) p e in
      (both (drives L p) (net_at L p) n (driving_has n p (subst (λ xs. Has xs p) (sym only) (inl refl))).1).0
