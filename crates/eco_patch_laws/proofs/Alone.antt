-- One gate on a new net, which one input pin goes to, breaks no rule
use Rattle.std.proofs.Common.{◌≡◌, ◌≢◌, Bool, true, false, cond, [], ◌∷◌, length, Option, Some, None, refl, sym, ap, ap₂, ◌∙◌, subst, inl, inr, ⊎_elim, ◌⊎◌, true≢false}
use Rattle.std.specs.List.{Contains, IsDistinct}
use Rattle.std.specs.Option.{option_map}
use Rattle.std.specs.FinMap.{get}
use Rattle.eco_common.specs.declared.geometry.Point.{Point}
use Rattle.eco_common.specs.declared.geometry.Dir.TheVariants.{Input, Output, Inout}
use Rattle.eco_net.specs.Netlist.{Name, Netlist, Component, Top, Role, GateInput, GateOutput, BoxedPin, role_of, IsNet, IsPin, Pin, TopPin, CompPin}
use Rattle.eco_net.specs.Drivers.{dir_of_role, driven, driven_at, net_of, driven_top, drives_inward, is_driving, joined_at}
use Rattle.eco_net.proofs.Basics.{Has, same_Some, not_None, has_from_contains, contains_from_has}
use Rattle.eco_patch_laws.specs.Orders.{PatchGate, Move, Order, Placement}
use Rattle.eco_patch_laws.specs.Insertion.{patch_name, output_pin, inserted}
use Rattle.eco_patch_laws.specs.Embeddings.{SpareEmbeds}
use Rattle.eco_net.specs.Bases.{Base, bare}
use Rattle.eco_patch_laws.specs.Rules.{KeepsRules, NoneStandsTwice, PinsAreKnown, IsRedriven, by_gate, left_by, reached_by, Names, as_input, as_output, as_goal}
use Rattle.eco_patch_laws.specs.Mappings.{IsMapping}
use Rattle.eco_patch_laws.specs.Lone.{lone_order, IsLone}
use Rattle.eco_patch_laws.specs.Patches.{IsPatch}
use Rattle.eco_patch_laws.proofs.Sim.{found_driver}
use Rattle.eco_patch_laws.proofs.Gates.{joined_driven, patch_drives}
use Rattle.eco_patch_laws.proofs.Start.{in_full}
use Rattle.eco_patch_laws.proofs.Inserting.{moved, moved_back, gates_cases}

one_of : {A : Type 0} (x y : A) → Contains (x ∷ []) y → x ≡ y
one_of x y c = go (has_from_contains (x ∷ []) y c)
  where
    go : Has (x ∷ []) y → x ≡ y
    go (inl e) = e
    go (inr h) = absurd h

-- ---- a pin that is an input

output_input : Some Output ≡ Some Input → ⊥
output_input e = cc

inout_input : Some Inout ≡ Some Input → ⊥
inout_input e = cc

input_idle : (o : Option Role) → option_map dir_of_role o ≡ Some Input → is_driving o ≡ false
input_idle None e = refl
input_idle (Some GateInput) e = refl
input_idle (Some (GateOutput t)) e = absurd (output_input e)
input_idle (Some (BoxedPin Input)) e = refl
input_idle (Some (BoxedPin Output)) e = absurd (output_input e)
input_idle (Some (BoxedPin Inout)) e = absurd (inout_input e)

input_pin : (x : Component) (p : Name) (o : Option Role) → role_of x p ≡ o → option_map dir_of_role o ≡ Some Input → IsPin x p
input_pin x p None f e = absurd (not_None (sym e))
input_pin x p (Some r) f e = (r, f)

-- ---- one gate and one move

pub lone_once : (gate : PatchGate) (move : Move) → NoneStandsTwice (lone_order gate move)
unfolding IsDistinct
lone_once gate move = record { nets = (tt, tt); gates = (tt, tt); moves = (tt, tt) }

pub lone_pins : (base : Base) (gate : PatchGate) (move : Move) (x : Component) → get (bare base).comps move.comp ≡ Some x → IsPin x move.pin → PinsAreKnown (bare base) (lone_order gate move)
lone_pins base gate move x found pin m c =
    let s : move ≡ m = one_of move m c in
    (x, ap (λ z. get (bare base).comps z.comp) (sym s) ∙ found, subst (λ z. IsPin x z.pin) s pin)

module _ (base : Base) (label : Name) (place : Name → Option Point) (gate : PatchGate) (move : Move) (p : Placement) (l : IsLone base label place gate move p) where
  abbrev order : Order
  order = lone_order gate move

  abbrev P : Netlist
  P = inserted label place (bare base) order

  -- ---- the moved pin

  moves_input : (m : Move) → Contains order.moves m → (x : Component) → get (bare base).comps m.comp ≡ Some x → is_driving (role_of x m.pin) ≡ true → ⊥
  moves_input m c x e d =
      let s : move ≡ m = one_of move m c in
      let y : l.comp ≡ x = same_Some (sym l.comp_found ∙ ap (λ z. get (bare base).comps z.comp) s ∙ e) in
      true≢false (sym d ∙ ap₂ (λ z q. is_driving (role_of z q)) (sym y) (ap (λ z. z.pin) (sym s)) ∙ input_idle (role_of l.comp move.pin) l.pin_reads)

  redriven : (n : Name) → IsRedriven (bare base) order n → gate.output ≡ n
  redriven n (by_gate g c e) = ap (λ z. z.output) (one_of gate g c) ∙ e
  redriven n (left_by m c d e) = absurd (moves_input m c d.0 d.1 d.2)
  redriven n (reached_by m c d e) = absurd (moves_input m c d.0 d.1 d.2)

  known : (n : Name) → Names order n → IsNet (bare base) n ⊎ Contains order.nets n
  known n (as_input g c i) = inl (l.inputs_known n (subst (λ z. Contains z.inputs n) (sym (one_of gate g c)) i))
  known n (as_output g c e) = inr (contains_from_has order.nets n (inl (ap (λ z. z.output) (one_of gate g c) ∙ e)))
  known n (as_goal m c e) = inr (contains_from_has order.nets n (inl (sym l.to ∙ ap (λ z. z.to) (one_of move m c) ∙ e)))

  -- ---- what drives the new net

  abbrev gate_pin : Pin
  gate_pin = CompPin (patch_name label gate.name) output_pin

  -- no net of the base is new
  not_old : (n : Name) → IsNet base.full n → gate.output ≢ n
  not_old n i s = not_None (sym i.1 ∙ ap (get base.full.nets) (sym s) ∙ l.output_new)

  top_off : (t : Name) (o : Option Top) → get base.full.tops t ≡ o → driven_top o ≡ Some gate.output → ⊥
  top_off t None e d = not_None (sym d)
  top_off t (Some x) e d = go (drives_inward x.dir) d
    where
      go : (b : Bool) → cond b (Some x.net) None ≡ Some gate.output → ⊥
      go true f = not_old x.net (l.base_is.whole.tops t x e) (sym (same_Some f))
      go false f = not_None (sym f)

  only_gate : (q : Pin) → driven P q ≡ Some gate.output → q ≡ gate_pin
  only_gate (TopPin t) d = absurd (top_off t (get base.full.tops t) refl d)
  only_gate (CompPin c k) d =
      let f = found_driver P c k gate.output d in
      ⊎_elim
      (λ g.
      let o = (patch_drives g.0 (place g.0.name)).only k gate.output (ap (λ x. driven_at (Some x) k) (sym g.3) ∙ f.2) in
      let s : gate ≡ g.0 = one_of gate g.0 (contains_from_has order.gates g.0 g.1) in
      ap₂ CompPin (g.2 ∙ ap (λ z. patch_name label z.name) (sym s)) o.0)
      (λ m.
      let b = moved_back (bare base).comps order.moves c f.0 m in
      let j = joined_driven f.0 k gate.output f.2 in
      ⊎_elim
      (λ e. absurd (not_old gate.output (l.base_is.whole.pins c b.0 k gate.output (in_full base c b.0 b.1) e).1 refl))
      (λ v. absurd (moves_input v.0 (contains_from_has order.moves v.0 v.1) b.0 (ap (get (bare base).comps) v.2 ∙ b.1) (ap₂ (λ z q. is_driving (role_of (record b.0 { kind = z }) q)) (sym b.2.kind) v.3 ∙ j.0)))
      (b.2.new k gate.output j.1))
      (gates_cases label place (moved (bare base).comps order.moves) order.gates c f.0 f.1)

  keeps : KeepsRules (bare base) (bare base) P order
  keeps = record {
    once = lone_once gate move;
    nets_known = known;
    pins_known = lone_pins base gate move l.comp l.comp_found (input_pin l.comp move.pin (role_of l.comp move.pin) refl l.pin_reads);
    true_moves = λ m c. subst (λ z. net_of (bare base) (CompPin z.comp z.pin) ≡ z.from) (one_of move m c) (ap (λ o. joined_at o move.pin) l.comp_found ∙ l.from);
    no_supply = λ n r. (
      λ b e. not_None (sym e ∙ ap (get base.full.nets) (sym (redriven n r)) ∙ l.output_new),
      λ t. not_old n (l.base_is.ties n t) (redriven n r),
    );
    nets_new = λ n c. ap (get base.full.nets) (sym (one_of gate.output n c)) ∙ l.output_new;
    one_driver = λ n r q s d e.
        let one : (q : Pin) → driven P q ≡ Some n → q ≡ gate_pin = λ q f. only_gate q (f ∙ ap Some (sym (redriven n r))) in
        one q d ∙ sym (one s e);
    loop_free = l.loop_free;
  }

  -- ---- the one spare

  mapped : IsMapping base order (p ∷ [])
  unfolding IsDistinct
  mapped = record {
    one_each = refl;
    stock = λ s c. subst (Contains base.stock) (one_of p.spare s c) l.stock;
    apart = (tt, tt);
    embeds = λ g q x c e. go g q x (one_of (gate, p) (g, q) c) e;
  }
    where
      go : (g : PatchGate) (q : Placement) (x : Component) → ◌≡◌ {A = PatchGate × Placement} (gate, p) (g, q) → get base.full.comps q.spare ≡ Some x → SpareEmbeds (length g.inputs) g.table x q.output q.feeds
      go g q x s e = subst (λ z. SpareEmbeds (length z.0.inputs) z.0.table x z.1.output z.1.feeds) s
          (subst (λ z. SpareEmbeds (length gate.inputs) gate.table z p.output p.feeds) (same_Some (sym l.spare_found ∙ ap (λ z. get base.full.comps z.1.spare) s ∙ e)) l.embeds)

  pub is_patch : IsPatch base label place order (p ∷ [])
  is_patch = record { base_is = l.base_is; no_blank = l.no_blank; keeps = keeps; mapped = mapped }
