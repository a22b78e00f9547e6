-- What an order that breaks no rule of 3 to 11 gives insertion.
use Rattle.std.proofs.Common.{◌≡◌, ◌≢◌, Bool, List, [], ◌∷◌, map, Option, Some, None, sym, ap, ◌∙◌, inl, inr, ◌⊎◌, ⊎_elim}
use Rattle.std.specs.List.{Contains, flat_map}
use Rattle.std.specs.FinMap.{FinMap, get}
use Rattle.eco_net.specs.Netlist.{Name, name_cmp, Netlist, IsNet}
use Rattle.eco_net.specs.Joints.{with_nets}
use Rattle.eco_net.proofs.Basics.{Has, not_None, has_from_contains, has_map, has_append_left, has_append_right, same_name, get_same, get_other}
use Rattle.eco_order_file.specs.Orders.{Gate, Order}
use Rattle.eco_order.specs.Broken.{broken_before}
use Rattle.eco_order.specs.Insert.{patch_move, IsFreeLabel}
use Rattle.eco_order.specs.Inserting.{CanMoveAll, with_moved, HasGateNets}
use Rattle.eco_order.specs.Rules.{gate_nets, named_nets}
use Rattle.eco_order.proofs.Unbroken.{known, pin_there, new, has_flat}
use Rattle.eco_patch_laws.proofs.Inserting.{moved_back}
use Rattle.eco_patch_laws.proofs.Names.{missing}
use Rattle.eco_patch_laws.specs.Insertion.{patch_name}

net_among : (m : FinMap name_cmp (Option Bool)) (ns : List Name) (n : Name) → ((s : Option Bool) × (get m n ≡ Some s)) ⊎ Has ns n → (s : Option Bool) × (get (with_nets m ns) n ≡ Some s)
net_among m [] n (inl w) = w
net_among m [] n (inr h) = absurd h
net_among m (x ∷ xs) n h = go (same_name n x) h (net_among m xs n)
  where
    go : (n ≡ x) ⊎ (n ≢ x) → ((s : Option Bool) × (get m n ≡ Some s)) ⊎ Has (x ∷ xs) n → (((s : Option Bool) × (get m n ≡ Some s)) ⊎ Has xs n → (s : Option Bool) × (get (with_nets m xs) n ≡ Some s)) → (s : Option Bool) × (get (with_nets m (x ∷ xs)) n ≡ Some s)
    go (inl e) k r = (None, ap (get (with_nets m (x ∷ xs))) e ∙ get_same (with_nets m xs) x None)
    go (inr a) (inl w) r = let v = r (inl w) in (v.0, get_other (with_nets m xs) x None n a ∙ v.1)
    go (inr a) (inr (inl s)) r = absurd (a (sym s))
    go (inr a) (inr (inr h)) r = let v = r (inr h) in (v.0, get_other (with_nets m xs) x None n a ∙ v.1)

module _ (N : Netlist) (o : Order) (unbroken : broken_before N o ≡ None) where
  abbrev with_new : Netlist
  with_new = record N { nets = with_nets N.nets o.nets }

  net_there : (M : Netlist) → M.nets ≡ with_nets N.nets o.nets → (n : Name) → Has (named_nets o) n → IsNet M n
  net_there M e n h =
      let w = net_among N.nets o.nets n (⊎_elim (λ w. inl w) (λ c. inr (has_from_contains o.nets n c)) (known N o unbroken n h)) in
      (w.0, ap (λ m. get m n) e ∙ w.1)

  pub can_move_all : (M : Netlist) → M ≡ with_new → CanMoveAll M o.moves
  can_move_all M e = λ m c.
      let h = has_from_contains o.moves m c in
      let x = pin_there N o unbroken m h in (
        (x.0, ap (λ P. get P.comps m.comp) e ∙ x.1, x.2),
        net_there M (ap (λ P. P.nets) e) m.to (has_append_right (flat_map gate_nets o.gates) _ m.to (has_map (λ m. m.to) o.moves m h)),
      )

  pub has_gate_nets : (M : Netlist) → M ≡ with_moved with_new o.moves → (g : Gate) → Contains o.gates g → HasGateNets M g
  has_gate_nets M e g c = λ n i.
      net_there M (ap (λ P. P.nets) e) n
      (has_append_left (flat_map gate_nets o.gates) _ n (has_flat gate_nets o.gates g n (has_from_contains o.gates g c) (has_from_contains (gate_nets g) n i)))

  pub still_free : (M : Netlist) (label : Name) → M ≡ with_moved with_new o.moves → IsFreeLabel N label → IsFreeLabel M label
  still_free M label e free gate =
      ap (λ P. get P.comps (patch_name label gate)) e
      ∙ missing _ (λ y h. let x = moved_back N.comps (map patch_move o.moves) (patch_name label gate) y h in not_None (sym x.1 ∙ free gate))

  pub new_nets : (n : Name) → Contains o.nets n → get N.nets n ≡ None
  new_nets n c = new N o unbroken n (has_from_contains o.nets n c)
