-- Whether a net of the patched netlist is driven once.
use Rattle.std.proofs.Common.{◌≡◌, ℕ, zero, suc, ◌<◌, ◌==◌, Bool, true, false, ◌&&◌, List, [], ◌∷◌, length, Some, None, slice_get, refl, sym, ap, subst, ◌∙◌, inl, inr, ⊎_elim, arith}
use Rattle.std.specs.List.{Contains, list_any}
use Rattle.std.proofs.lemmas.Bool.{and_parts}
use Rattle.std.proofs.lemmas.Bool.Decides.{nat_tests}
use Rattle.eco_net.specs.declared.ids.PinRef.{PinRef}
use Rattle.eco_net.specs.Netlist.{Name, Netlist, Pin}
use Rattle.eco_net.specs.Drivers.{driven, net_of, IsDriver, IsSink, HasDrivers}
use Rattle.eco_net.specs.Listing.{Listing, netlist, numbered_pin, net_names}
use Rattle.eco_net.specs.Kept.{IsListing}
use Rattle.eco_net.specs.PinOrder.{pin_order}
use Rattle.eco_net.specs.Pins.{DriverIs, ArePins}
use Rattle.eco_net.proofs.Basics.{Has, not_None, contains_from_has, has_from_contains}
use Rattle.std.proofs.lemmas.Option.{slice_get_within}
use Rattle.eco_net.proofs.Places.{row_of_name}
use Rattle.eco_net.proofs.PinNames.{pin_on}
use Rattle.eco_order_file.specs.Orders.{Order}
use Rattle.eco_order.specs.Deciding.{Tells, leaves}
use Rattle.eco_order.specs.DrivenOnce.{IsLeft, IsDrivenOnce}
use Rattle.eco_order.specs.Insert.{patched}
use Rattle.eco_order.specs.Rules.{moves_output, is_same}
use Rattle.eco_order.proofs.Firsts.{any_has, none_any, same_nets, bytes_themselves, true_not_false}

driver_is_lone : (N : Netlist) (n : Name) (p : Pin) → IsDriver N n p → HasDrivers N n 1
driver_is_lone N n p d = record {
  pins = p ∷ [];
  once = λ i j q e f. same i j q e f;
  each = λ q. (λ h. subst (λ r. driven N r ≡ Some n) (of_one q (has_from_contains (p ∷ []) q h)) d.drives, λ e. contains_from_has (p ∷ []) q (inl (sym (d.only q e))));
  counted = refl;
}
  where
    same : (i j : ℕ) (q : Pin) → slice_get (p ∷ []) i ≡ Some q → slice_get (p ∷ []) j ≡ Some q → i ≡ j
    same zero zero q e f = refl
    same zero (suc j) q e f = absurd (not_None (sym f))
    same (suc i) j q e f = absurd (not_None (sym e))

    of_one : (q : Pin) → Has (p ∷ []) q → p ≡ q
    of_one q (inl s) = s
    of_one q (inr h) = absurd h

lone_is_driver : (N : Netlist) (n : Name) → HasDrivers N n 1 → (p : Pin) × IsDriver N n p
lone_is_driver N n h = go h.pins refl h.counted
  where
    go : (ps : List Pin) → h.pins ≡ ps → length ps ≡ 1 → (p : Pin) × IsDriver N n p
    go [] e c = absurd (omega (arith, c))
    go (p ∷ []) e c = (
      p,
      record {
        drives = (h.each p).0 (subst (λ ps. Contains ps p) (sym e) (contains_from_has (p ∷ []) p (inl refl)));
        only = λ q d. ⊎_elim (λ s. sym s) (λ i. absurd i) (has_from_contains (p ∷ []) q (subst (λ ps. Contains ps q) e ((h.each q).1 d)));
      },
    )
    go (p ∷ q ∷ ps) e c = absurd (omega (arith, c))

is_left : (N : Netlist) (o : Order) (n : Name) → list_any (leaves N n) o.moves ≡ true → IsLeft N o n
is_left N o n e =
    let m = any_has (leaves N n) o.moves e in
    let r = and_parts (moves_output N m.0) (is_same m.0.from (Some n)) m.2 in
    (m.0, contains_from_has o.moves m.0 m.1, r.0, same_nets m.0.from (Some n) r.1)

not_left : (N : Netlist) (o : Order) (n : Name) → list_any (leaves N n) o.moves ≡ false → IsLeft N o n → ⊥
not_left N o n e l =
    true_not_false (ap (λ b. b && is_same l.0.from (Some n)) l.2 ∙ ap (λ f. is_same f (Some n)) l.3 ∙ bytes_themselves n)
    (none_any (leaves N n) o.moves e l.0 (has_from_contains o.moves l.0 l.1))

none_there : (length {A = PinRef} [] == 0) ≡ true
none_there = refl

some_there : (x : PinRef) (xs : List PinRef) → (length (x ∷ xs) == 0) ≡ false
some_there x xs = grind (arith, nat_tests)

module _ (N : Netlist) (o : Order) (L : Listing) (is : IsListing L) (eq : netlist L ≡ patched N o) (n m : Name) (named : m ≡ n) where
  pub with_driver : (p : PinRef) → DriverIs L m (Some p) → IsDrivenOnce N o n
  with_driver p d = inl (subst (λ P. HasDrivers P n 1) eq (subst (λ q. HasDrivers (netlist L) q 1) named (driver_is_lone (netlist L) m (numbered_pin L p) d.1)))

  no_lone : DriverIs L m None → HasDrivers (patched N o) n 1 → ⊥
  no_lone d h =
      let w = lone_is_driver (netlist L) m (subst (λ q. HasDrivers (netlist L) q 1) (sym named) (subst (λ P. HasDrivers P n 1) (sym eq) h)) in
      d w.0 w.1

  pub without_driver : DriverIs L m None → list_any (leaves N n) o.moves ≡ false → IsDrivenOnce N o n → ⊥
  without_driver d e once = ⊎_elim (λ h. no_lone d h) (λ l. not_left N o n e l.0) once

  pub left_by_pins : DriverIs L m None → list_any (leaves N n) o.moves ≡ true → (ps : List PinRef) → ArePins L pin_order (IsSink (netlist L) m) ps → (b : Bool) → b ≡ (length ps == 0) → Tells b (IsDrivenOnce N o n)
  left_by_pins d e [] a b f =
      subst (λ b. Tells b (IsDrivenOnce N o n)) (sym (f ∙ none_there))
      (inr (
        is_left N o n e,
        λ p h.
            let w = pin_on L is p n (ap (λ P. net_of P p) eq ∙ h) in
            has_from_contains [] w.0 (a.all w.0 w.1 (ap (net_of (netlist L)) w.2 ∙ ap (λ P. net_of P p) eq ∙ h ∙ ap Some (sym named), λ i. d (numbered_pin L w.0) i)),
      ))
  left_by_pins d e (q ∷ qs) a b f =
      subst (λ b. Tells b (IsDrivenOnce N o n)) (sym (f ∙ some_there q qs))
      (λ once. ⊎_elim (λ h. no_lone d h)
      (λ l. l.1 (numbered_pin L q) (sym (ap (λ P. net_of P (numbered_pin L q)) eq) ∙ (a.each q (contains_from_has (q ∷ qs) q (inl refl))).0 ∙ ap Some named)) once)

pub number_known : (L : Listing) (i : ℕ) (n : Name) → slice_get (net_names L) i ≡ Some n → i < length L.nets
number_known L i n e = let w = row_of_name (λ r. r.name) L.nets i n e in slice_get_within L.nets i w.0 w.1
