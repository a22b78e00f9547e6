-- The sinks of a net by number and by name
use Rattle.std.proofs.Common.{◌≡◌, ℕ, ◌<◌, Bool, true, false, not, length, Option, Some, None, refl, sym, ap, ◌∙◌, true≢false, List, ◌∷◌, ap₂, arith}
use Rattle.std.specs.Option.{option_map}
use Rattle.std.specs.Ordering.{eq_by_cmp, is_eq}
use Rattle.std.specs.Cmp.{Equal-is, tied_itself, on_total}
use Rattle.std.specs.Cmp.Lexicographic.{nat_list_cmp_total}
use Rattle.std.proofs.lemmas.Map.Lookups.{exact_bytes}
use Rattle.std.proofs.lemmas.List.Kept.{IsStrictlySortedBy-filter}
use Rattle.eco_net.specs.declared.ids.PinRef.{PinRef}
use Rattle.eco_net.specs.declared.ids.PinRef.TheVariants.{Top, Pin}
use Rattle.eco_net.specs.Drivers.{IsSink, net_of}
use Rattle.eco_net.specs.Listing.{Listing, netlist, net_name, numbered_pin, IsKnownPin}
use Rattle.eco_net.specs.Kept.{IsListing}
use Rattle.eco_net.specs.ByNumber.{net_at, is_on, all_pins, pins_on, driver_at}
use Rattle.eco_net.specs.PinOrder.{pin_number, pin_order}
use Rattle.eco_net.specs.Pins.{ArePins}
use Rattle.eco_net.specs.SinksOf.{is_other, sinks_of}
use Rattle.eco_net.proofs.Basics.{Has, same_Some, not_None, same_head, has_from_contains, contains_from_has}
use Rattle.eco_net.proofs.AllPins.{has_known, known_has, has_filter, filter_has, on_net, net_on, pins_sorted}
use Rattle.eco_net.proofs.PinNames.{net_named, same_net, same_pin, known_net}
use Rattle.eco_net.proofs.DriverNames.{driver_named, driver_number}

-- ---- pins that tie are one

same_tail : {A : Type 0} {x y : A} {xs ys : List A} → x ∷ xs ≡ y ∷ ys → xs ≡ ys
same_tail e = cc

-- a top pin's numbers aren't those of a component's pin
not_both : {A : Type 0} {xs ys : List ℕ} → 0 ∷ xs ≡ 1 ∷ ys → A
not_both e = let z : 0 ≡ 1 = same_head e in absurd (omega (arith, z))

pub one_pin : (p q : PinRef) → pin_number p ≡ pin_number q → p ≡ q
one_pin (Top t) (Top u) e = ap (λ n. Top (record { 0 = n })) (same_head (same_tail e))
one_pin (Top t) (Pin c k) e = not_both e
one_pin (Pin c k) (Top t) e = not_both (sym e)
one_pin (Pin c k) (Pin d j) e = ap₂ (λ a b. Pin (record { 0 = a }) b) (same_head (same_tail e)) (same_head (same_tail (same_tail e)))

pub tied_pins : (p q : PinRef) → eq_by_cmp pin_order p q ≡ true → p ≡ q
tied_pins p q e = one_pin p q (exact_bytes (pin_number p) (pin_number q) ((Equal-is (pin_order p q)).0 e))

pub tied_self : (p : PinRef) → eq_by_cmp pin_order p p ≡ true
tied_self p = ap is_eq (tied_itself (on_total pin_number nat_list_cmp_total) p)

-- ---- a pin that isn't the driver

other_is : (d : Option PinRef) (p : PinRef) → is_other d p ≡ true → d ≡ Some p → ⊥
other_is None p e f = not_None (sym f)
other_is (Some d) p e f = true≢false (sym e ∙ ap not (ap (λ x. eq_by_cmp pin_order x p) (same_Some f) ∙ tied_self p))

is_other_by : (d : Option PinRef) (p : PinRef) → (d ≡ Some p → ⊥) → is_other d p ≡ true
is_other_by None p h = refl
is_other_by (Some d) p h = go (eq_by_cmp pin_order d p) refl
  where
    go : (b : Bool) → eq_by_cmp pin_order d p ≡ b → not b ≡ true
    go true e = absurd (h (ap Some (tied_pins d p e)))
    go false e = refl

module _ (L : Listing) (is : IsListing L) (n : ℕ) (h : n < length L.nets) where
  on_it : (p : PinRef) → IsKnownPin L p → net_of (netlist L) (numbered_pin L p) ≡ Some (net_name L.nets n) → net_at L p ≡ Some n
  on_it p k e = go (net_at L p) refl (sym (net_named L is p k) ∙ e)
    where
      go : (o : Option ℕ) → net_at L p ≡ o → option_map (net_name L.nets) o ≡ Some (net_name L.nets n) → net_at L p ≡ Some n
      go None f g = absurd (not_None (sym g))
      go (Some m) f g = f ∙ ap Some (same_net L is m n (known_net L is p m k f) h (same_Some g))

  sink_of : (p : PinRef) → Has (sinks_of L n) p → IsSink (netlist L) (net_name L.nets n) (numbered_pin L p)
  sink_of p i =
      let w = filter_has (is_other (driver_at L n)) (pins_on L n) p i in
      let v = filter_has (is_on L n) (all_pins L) p w.0 in
      let k = known_has L p v.0 in (
        net_named L is p k ∙ ap (option_map (net_name L.nets)) (on_net (net_at L p) n v.1),
        λ d. let q = driver_number L is n (numbered_pin L p) h d in
            other_is (driver_at L n) p w.1 (q.1 ∙ ap Some (same_pin L is q.0 p q.2 k q.3)),
      )

  of_sink : (p : PinRef) → IsKnownPin L p → IsSink (netlist L) (net_name L.nets n) (numbered_pin L p) → Has (sinks_of L n) p
  of_sink p k s = has_filter (is_other (driver_at L n)) (pins_on L n) p
      (has_filter (is_on L n) (all_pins L) p (has_known L p k) (net_on (net_at L p) n (on_it p k s.0)))
      (is_other_by (driver_at L n) p (λ e. s.1 (driver_named L is n p h e).1))

  -- the sinks by number are the net's sinks, each once and in order
  pub sinks_are : ArePins L pin_order (IsSink (netlist L) (net_name L.nets n)) (sinks_of L n)
  sinks_are = record {
    sorted = IsStrictlySortedBy-filter pin_order (is_other (driver_at L n)) (pins_on L n) (IsStrictlySortedBy-filter pin_order (is_on L n) (all_pins L) (pins_sorted L));
    known = λ p c.
        let w = filter_has (is_other (driver_at L n)) (pins_on L n) p (has_from_contains _ p c) in
        known_has L p (filter_has (is_on L n) (all_pins L) p w.0).0;
    each = λ p c. sink_of p (has_from_contains _ p c);
    all = λ p k s. contains_from_has _ p (of_sink p k s);
  }
