-- The test of a moved pin and of an order: what it finds, and what it refutes
use Rattle.std.proofs.Common.{◌≡◌, ℕ, Bool, true, false, not, ◌&&◌, List, [], ◌∷◌, map, length, Option, Some, None, refl, sym, ap, ◌∙◌, subst, slice_get, inl, inr, is_some, true≢false}
use Rattle.std.specs.List.{list_all}
use Rattle.std.specs.Option.{option_map, MatchOption}
use Rattle.std.specs.FinMap.{get}
use Rattle.std.proofs.lemmas.Bool.{and_parts, and_from}
use Rattle.eco_common.specs.declared.geometry.Dir.{Dir}
use Rattle.eco_common.specs.declared.geometry.Dir.TheVariants.{Input}
use Rattle.eco_net.specs.declared.ids.CompId.{CompId}
use Rattle.eco_net.specs.declared.ids.NetId.{NetId}
use Rattle.eco_net.specs.declared.ids.PinRef.TheVariants.{Pin}
use Rattle.eco_net.specs.Netlist.{Name, Netlist, Component, Role, CompPin, role_of, IsNet, IsPin}
use Rattle.eco_net.specs.Drivers.{net_of, dir_of_role}
use Rattle.eco_net.specs.ByNumber.{role_at}
use Rattle.eco_net.specs.Listing.{Listing, netlist, net_names, pins, numbered_pin, FindsPin, IsKnownPin}
use Rattle.eco_net.specs.Kept.{IsListing}
use Rattle.eco_net.proofs.Basics.{Has, same_Some, not_None, has_found, has_from_contains, contains_from_has}
use Rattle.eco_net.proofs.Places.{row_of_name}
use Rattle.eco_net.proofs.Named.{net_is}
use Rattle.eco_one_gate.specs.declared.one_gate.OneGate.{OneGate}
use Rattle.eco_issued_laws.specs.NewNets.{can_be_new}
use Rattle.eco_one_gate.specs.OneSteps.{MovesInput, IsMovedPin, IsKnownOrder}
use Rattle.eco_one_gate.proofs.CompPins.{CompAt, its, its_found, pin_known, pin_name, pin_net, pin_dir}

-- ---- the pin

role_given : (x : Component) (p : Name) (d : Dir) → option_map dir_of_role (role_of x p) ≡ Some d → IsPin x p
role_given x p d e = go (role_of x p) refl e
  where
    go : (o : Option Role) → role_of x p ≡ o → option_map dir_of_role o ≡ Some d → IsPin x p
    go None f e = absurd (not_None (sym e))
    go (Some r) f e = (r, f)

module _ (L : Listing) (is : IsListing L) (one : OneGate) (c : CompId) (g : CompAt L one.comp c.0) where
  same : (s : MovesInput (netlist L) one) → s.comp ≡ its L is one.comp c g
  same s = same_Some (sym s.comp_found ∙ its_found L is one.comp c g)

  its_input : MovesInput (netlist L) one → option_map dir_of_role (role_of (its L is one.comp c g) one.pin) ≡ Some Input
  its_input s = ap (λ x. option_map dir_of_role (role_of x one.pin)) (sym (same s)) ∙ s.pin_reads

  -- a pin that isn't found is none
  pub no_pin : FindsPin (slice_get L.comps c.0) one.pin None → MovesInput (netlist L) one → ⊥
  no_pin f s =
      let r = role_given (its L is one.comp c g) one.pin Input (its_input s) in
      subst (λ o. FindsPin o one.pin None) g.is f
      (contains_from_has (map (λ p. p.0) (pins g.row)) one.pin (has_found (pins g.row) one.pin r.0 r.1))

  module _ (k : ℕ) (found : FindsPin (slice_get L.comps c.0) one.pin (Some k)) where
    abbrev IsItsPin : Name × Role → Type 0
    IsItsPin p = (slice_get (pins g.row) k ≡ Some p) × (p.0 ≡ one.pin)

    its_pin : (p : Name × Role) × IsItsPin p
    its_pin = let r = row_of_name (λ p. p.0) (pins g.row) k one.pin (subst (λ o. FindsPin o one.pin (Some k)) g.is found) in (r.0, (r.1, r.2))

    pub is_known : IsKnownPin L (Pin c k)
    is_known = let p = its_pin in pin_known L is one.comp c g k p.0 p.1.0

    pub its_name : numbered_pin L (Pin c k) ≡ CompPin one.comp one.pin
    its_name = let p = its_pin in pin_name L is one.comp c g k p.0 p.1.0 ∙ ap (CompPin one.comp) p.1.1

    its_net : net_of (netlist L) (numbered_pin L (Pin c k)) ≡ get (its L is one.comp c g).joined one.pin
    its_net = let p = its_pin in pin_net L is one.comp c g k p.0 p.1.0 ∙ ap (get (its L is one.comp c g).joined) p.1.1

    its_dir : option_map dir_of_role (role_at (slice_get L.comps c.0) k) ≡ option_map dir_of_role (role_of (its L is one.comp c g) one.pin)
    its_dir = let p = its_pin in pin_dir L is one.comp c g k p.0 p.1.0 ∙ ap (λ q. option_map dir_of_role (role_of (its L is one.comp c g) q)) p.1.1

    pub reads_input : MovesInput (netlist L) one → option_map dir_of_role (role_at (slice_get L.comps c.0) k) ≡ Some Input
    reads_input s = its_dir ∙ its_input s

    pub on_its_net : MovesInput (netlist L) one → net_of (netlist L) (numbered_pin L (Pin c k)) ≡ Some one.from_net
    on_its_net s = its_net ∙ ap (λ x. get x.joined one.pin) (sym (same s)) ∙ s.from

    pub moved_pin : option_map dir_of_role (role_at (slice_get L.comps c.0) k) ≡ Some Input → net_of (netlist L) (numbered_pin L (Pin c k)) ≡ Some one.from_net → IsMovedPin L one c k
    moved_pin e n = record {
      moves = record {
        comp = its L is one.comp c g;
        comp_found = its_found L is one.comp c g;
        pin_reads = sym its_dir ∙ e;
        from = sym its_net ∙ n;
      };
      known = is_known;
      named = its_name;
    }

-- ---- the order

-- a name is found among the nets exactly where it is one
pub found_net : (L : Listing) → IsListing L → (n : Name) (r : Option NetId) → MatchOption r (get (netlist L).nets n ≡ None) (λ k. slice_get (net_names L) k.0 ≡ Some n) → is_some r ≡ is_some (get (netlist L).nets n)
found_net L is n None e = sym (ap is_some e)
found_net L is n (Some k) e =
    let r = row_of_name (λ r. r.name) L.nets k.0 n e in
    sym (ap is_some (ap (get (netlist L).nets) (sym r.2) ∙ net_is L is k.0 r.0 r.1))

pub net_when : (N : Netlist) (n : Name) → is_some (get N.nets n) ≡ true → IsNet N n
net_when N n e = go (get N.nets n) refl e
  where
    go : (o : Option (Option Bool)) → get N.nets n ≡ o → is_some o ≡ true → IsNet N n
    go None f e = absurd (true≢false (sym e))
    go (Some s) f e = (s, f)

when_net : (N : Netlist) (n : Name) → IsNet N n → is_some (get N.nets n) ≡ true
when_net N n h = ap is_some h.1

nets_when : (N : Netlist) (ns : List Name) → list_all (λ n. is_some (get N.nets n)) ns ≡ true → (n : Name) → Has ns n → IsNet N n
nets_when N [] e n h = absurd h
nets_when N (m ∷ ns) e n (inl s) = subst (IsNet N) s (net_when N m (and_parts (is_some (get N.nets m)) (list_all (λ n. is_some (get N.nets n)) ns) e).0)
nets_when N (m ∷ ns) e n (inr h) = nets_when N ns (and_parts (is_some (get N.nets m)) (list_all (λ n. is_some (get N.nets n)) ns) e).1 n h

when_nets : (N : Netlist) (ns : List Name) → ((n : Name) → Has ns n → IsNet N n) → list_all (λ n. is_some (get N.nets n)) ns ≡ true
when_nets N [] h = refl
when_nets N (m ∷ ns) h = and_from (is_some (get N.nets m)) (list_all (λ n. is_some (get N.nets n)) ns) (when_net N m (h m (inl refl))) (when_nets N ns (λ n i. h n (inr i)))

no_net : (N : Netlist) (n : Name) → is_some (get N.nets n) ≡ false → get N.nets n ≡ None
no_net N n e = go (get N.nets n) e
  where
    go : (o : Option (Option Bool)) → is_some o ≡ false → o ≡ None
    go None e = refl
    go (Some s) e = absurd (true≢false e)

-- the test of the order's names
abbrev pub knows_names : Netlist → OneGate → Bool
knows_names N one = can_be_new one.output && not (is_some (get N.nets one.output)) && list_all (λ n. is_some (get N.nets n)) one.inputs.items

not_so : (b : Bool) → not b ≡ true → b ≡ false
not_so true e = absurd (true≢false (sym e))
not_so false e = refl

pub known : (N : Netlist) (one : OneGate) → knows_names N one ≡ true → length one.inputs.items ≡ one.table.inputs → MovesInput N one → IsKnownOrder N one
known N one names rows moves =
    let nets = and_parts (can_be_new one.output && not (is_some (get N.nets one.output))) (list_all (λ n. is_some (get N.nets n)) one.inputs.items) names in
    let output = and_parts (can_be_new one.output) (not (is_some (get N.nets one.output))) nets.0 in
    record {
      inputs_known = λ n c. nets_when N one.inputs.items nets.1 n (has_from_contains one.inputs.items n c);
      output_form = output.0;
      output_new = no_net N one.output (not_so (is_some (get N.nets one.output)) output.1);
      rows = rows;
      moves = moves;
    }

pub names_known : (N : Netlist) (one : OneGate) → IsKnownOrder N one → knows_names N one ≡ true
names_known N one k =
    and_from (can_be_new one.output && not (is_some (get N.nets one.output))) (list_all (λ n. is_some (get N.nets n)) one.inputs.items)
    (and_from (can_be_new one.output) (not (is_some (get N.nets one.output))) k.output_form (ap (λ o. not (is_some o)) k.output_new))
    (when_nets N one.inputs.items (λ n h. k.inputs_known n (contains_from_has one.inputs.items n h)))

-- what is found of the moved pin is found of the order
pub of_moved : (L : Listing) (one : OneGate) → knows_names (netlist L) one ≡ true → length one.inputs.items ≡ one.table.inputs → (r : Option (CompId × ℕ))
    → MatchOption r (MovesInput (netlist L) one → ⊥) (λ p. IsMovedPin L one p.0 p.1) → MatchOption r (IsKnownOrder (netlist L) one → ⊥) (λ p. IsKnownOrder (netlist L) one × IsMovedPin L one p.0 p.1)
of_moved L one names rows None h = λ k. h k.moves
of_moved L one names rows (Some p) h = (known (netlist L) one names rows h.moves, h)
