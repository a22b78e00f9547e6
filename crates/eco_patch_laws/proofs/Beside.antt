-- An order inserted: the stock beside it drives nothing, moved pins are on their new nets, and others stay
use Rattle.std.proofs.Common.{◌≡◌, ◌≢◌, ◌↔◌, false, List, map, Option, Some, refl, sym, ap, ap₂, ◌∙◌, subst, inl, inr, ⊎_elim, ◌⊎◌}
use Rattle.std.specs.FinMap.{FinMap, get}
use Rattle.std.specs.List.{Contains}
use Rattle.eco_common.specs.declared.geometry.Point.{Point}
use Rattle.eco_net.specs.Netlist.{Name, name_cmp, Netlist, Component, CompPin}
use Rattle.eco_net.specs.Drivers.{driven_at, net_of, joined_at}
use Rattle.eco_net.proofs.Basics.{Has, same_Some, not_None, contains_from_has, has_from_contains, has_map, has_of_map}
use Rattle.eco_patch_laws.specs.Orders.{PatchGate, Move, Order, Placement}
use Rattle.eco_patch_laws.specs.Insertion.{patch_name, patch_component, with_gates, move_joint, inserted}
use Rattle.eco_net.specs.Bases.{Base, IsBase, IsSpare, IsWithout, bare, is_stock}
use Rattle.eco_patch_laws.specs.Rules.{NoneStandsTwice, PinsAreKnown}
use Rattle.eco_patch_laws.specs.Patches.{IsPatch}
use Rattle.eco_patch_laws.specs.Realisation.{realised}
use Rattle.eco_net.specs.CutKeys.{CutBits}
use Rattle.eco_net.specs.Valuation.{Valuation, IsValuation}
use Rattle.eco_patch_laws.proofs.Patches.{same_valuations}
use Rattle.eco_patch_laws.proofs.Lighter.{same_without}
use Rattle.eco_patch_laws.proofs.Names.{has_blank}
use Rattle.eco_patch_laws.proofs.Joining.{rejoin, joined_some, joined_same, joined_old}
use Rattle.eco_patch_laws.proofs.Pins.{its_net}
use Rattle.eco_patch_laws.proofs.Feeding.{spare_idle}
use Rattle.eco_patch_laws.proofs.Keeping.{gate_of_name}
use Rattle.eco_patch_laws.proofs.Inserting.{moved, moved_back, moved_not, gates_cases, gates_in, gates_other}
use Rattle.eco_patch_laws.proofs.Start.{bare_other, bare_stock, in_full, bool_cases, any_has}

module _ (base : Base) (label : Name) (place : Name → Option Point) (order : Order) (is : IsBase base) (once : NoneStandsTwice order) (pins_known : PinsAreKnown (bare base) order) where
  abbrev W : Netlist
  W = inserted label place base.full order

  abbrev N : Netlist
  N = inserted label place (bare base) order

  -- a gate stands in each
  gate_in : (A : FinMap name_cmp Component) (g : PatchGate) → Has order.gates g → get (with_gates label place A order.gates) (patch_name label g.name) ≡ Some (patch_component g (place g.name))
  gate_in A g h = gates_in label place A order.gates g (λ d i e. gate_of_name order d g once.gates i h e) h

  -- no component of the base has a gate's name
  no_gate : (c : Name) (x : Component) → get base.full.comps c ≡ Some x → (g : PatchGate) → Has order.gates g → c ≢ patch_name label g.name
  no_gate c x e g h s = is.no_blank c x e (contains_from_has c 32 (subst (λ z. Has z 32) (sym s) (has_blank label g.name)))

  kept : (c : Name) (x : Component) → get N.comps c ≡ Some x → get W.comps c ≡ Some x
  kept c x e = ⊎_elim
      (λ g. ap (get W.comps) g.2 ∙ gate_in (moved base.full.comps order.moves) g.0 g.1 ∙ ap Some (sym g.3))
      (λ m.
      let b = moved_back (bare base).comps order.moves c x m in
      let f : get base.full.comps c ≡ Some b.0 = in_full base c b.0 b.1 in
      gates_other label place (moved base.full.comps order.moves) order.gates c (no_gate c b.0 f)
      ∙ joined_same base.full.comps (bare base).comps (map move_joint order.moves) c (f ∙ sym b.1)
      ∙ m)
      (gates_cases label place (moved (bare base).comps order.moves) order.gates c x e)

  abbrev IsOther : Name → Component → Type 0
  IsOther c x = (get N.comps c ≡ Some x) ⊎ ((q n : Name) → driven_at (Some x) q ≡ Some n → ⊥)

  unmoved : (s : Name) → Has base.stock s → (m : Move) → Has order.moves m → m.comp ≢ s
  unmoved s h m i t =
      let x = pins_known m (contains_from_has order.moves m i) in
      not_None (sym x.1 ∙ ap (get (bare base).comps) t ∙ bare_stock base s h)

  in_stock : (c : Name) (x : Component) → get (moved base.full.comps order.moves) c ≡ Some x → Has base.stock c → IsOther c x
  in_stock c x m h =
      let s = is.stock c (contains_from_has base.stock c h) in
      let e : s.0 ≡ x = same_Some (sym s.1 ∙ sym (moved_not base.full.comps order.moves c (unmoved c h)) ∙ m) in
      inr ((spare_idle x (subst IsSpare e s.2)).drives_none)

  off_stock : (c : Name) (x : Component) → get (moved base.full.comps order.moves) c ≡ Some x → is_stock base c ≡ false → IsOther c x
  off_stock c x m f =
      let b = moved_back base.full.comps order.moves c x m in
      inl (gates_other label place (moved (bare base).comps order.moves) order.gates c (no_gate c b.0 b.1)
      ∙ joined_same (bare base).comps base.full.comps (map move_joint order.moves) c (bare_other base c f)
      ∙ m)

  others : (c : Name) (x : Component) → get W.comps c ≡ Some x → IsOther c x
  others c x e = ⊎_elim
      (λ g. inl (ap (get N.comps) g.2 ∙ gate_in (moved (bare base).comps order.moves) g.0 g.1 ∙ ap Some (sym g.3)))
      (λ m. ⊎_elim (λ t. in_stock c x m (any_has c base.stock t)) (λ f. off_stock c x m f) (bool_cases (is_stock base c)))
      (gates_cases label place (moved base.full.comps order.moves) order.gates c x e)

  pub stock_beside : IsWithout W N
  stock_beside = record { nets = refl; tops = refl; kept = kept; others = others }

  -- ---- pins of the base with the gates inserted

  old_stays : (c : Name) (x : Component) → get (bare base).comps c ≡ Some x → get N.comps c ≡ Some (rejoin (map move_joint order.moves) c x)
  old_stays c x e =
      gates_other label place (moved (bare base).comps order.moves) order.gates c (no_gate c x (in_full base c x e))
      ∙ joined_some (bare base).comps (map move_joint order.moves) c x e

  pub moves_arrive : (m : Move) → Contains order.moves m → net_of N (CompPin m.comp m.pin) ≡ Some m.to
  moves_arrive m c =
      let x = pins_known m c in
      ap (λ o. joined_at o m.pin) (old_stays m.comp x.0 x.1)
      ∙ its_net (map move_joint order.moves) x.0.joined (move_joint m) once.moves (has_map move_joint order.moves m (has_from_contains order.moves m c))

  pub others_remain : (c : Name) (x : Component) (q : Name) → get (bare base).comps c ≡ Some x → ((m : Move) → Contains order.moves m → CompPin m.comp m.pin ≢ CompPin c q) → net_of N (CompPin c q) ≡ get x.joined q
  others_remain c x q e h =
      ap (λ o. joined_at o q) (old_stays c x e)
      ∙ ⊎_elim
      (λ s. s)
      (λ j.
      let m = has_of_map move_joint order.moves j.0 j.1 in
      absurd (h m.0 (contains_from_has order.moves m.0 m.1) (ap₂ CompPin (ap (λ z. z.comp) m.2 ∙ j.2) (ap (λ z. z.pin) m.2 ∙ j.3))))
      (joined_old (map move_joint order.moves) c x.joined q)

module _ (base : Base) (label : Name) (place : Name → Option Point) (order : Order) (placements : List Placement) (p : IsPatch base label place order placements) where
  pub same_beside : (cut : CutBits) (v : Valuation) → IsValuation (inserted label place base.full order) cut v ↔ IsValuation (realised base.low base.high base.full order placements) cut v
  same_beside cut v =
      let w = same_without (inserted label place base.full order) (inserted label place (bare base) order) (stock_beside base label place order p.base_is p.keeps.once p.keeps.pins_known) cut v in
      let s = same_valuations base label place order placements p cut v in
      (λ a. s.0 (w.1 a), λ a. w.0 (s.1 a))

  pub patch_moves_arrive : (m : Move) → Contains order.moves m → net_of (inserted label place (bare base) order) (CompPin m.comp m.pin) ≡ Some m.to
  patch_moves_arrive = moves_arrive base label place order p.base_is p.keeps.once p.keeps.pins_known

  pub patch_others_remain : (c : Name) (x : Component) (q : Name) → get (bare base).comps c ≡ Some x → ((m : Move) → Contains order.moves m → CompPin m.comp m.pin ≢ CompPin c q) → net_of (inserted label place (bare base) order) (CompPin c q) ≡ get x.joined q
  patch_others_remain = others_remain base label place order p.base_is p.keeps.once p.keeps.pins_known
