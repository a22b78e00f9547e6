-- The test for stock and stock in words
use Rattle.std.proofs.Common.{◌≡◌, ℕ, suc, Bool, true, false, not, ◌&&◌, ◌||◌, List, [], ◌∷◌, map, Option, Some, None, refl, sym, ap, ap₂, ◌∙◌, subst, slice_get, is_some, inl, inr, ⊎_elim, ◌⊎◌, true≢false}
use Rattle.std.specs.List.{list_all}
use Rattle.std.specs.FinMap.{get}
use Rattle.std.specs.Str.{bytes_eq}
use Rattle.std.proofs.lemmas.Bool.{and_parts}
use Rattle.std.proofs.lemmas.Slice.Eq.{bytes_eq-Decides}
use Rattle.eco_common.specs.declared.geometry.Dir.{Dir}
use Rattle.eco_net.specs.Netlist.{Name, Component, Kind, Gate, Boxed, Role, GateInput, GateOutput, BoxedPin, pins_of, role_of}
use Rattle.eco_net.specs.Drivers.{dir_of_role}
use Rattle.eco_net.proofs.Basics.{Has, has_of_map}
use Rattle.eco_net.proofs.AllPins.{split_has}
use Rattle.eco_net.proofs.GateNames.{has_at}
use Rattle.eco_net.proofs.Named.{find_at, found_at}
use Rattle.eco_net.proofs.Places.{apart_distinct}
use Rattle.eco_desk_file.specs.Desk.{Desk, is_spare_named}
use Rattle.eco_base.specs.Stock.{is_on_tie, is_at_rest, is_gate, is_idle, is_stock, IsStock}
use Rattle.eco_base.specs.StockLaws.{StockInWords}
use Rattle.eco_base.proofs.Lists.{all_at}

-- ---- from the test

on_tie : (desk : Desk) (o : Option Name) → is_on_tie desk o ≡ true → (o ≡ Some desk.high) ⊎ (o ≡ Some desk.low)
on_tie desk None e = absurd (true≢false (sym e))
on_tie desk (Some n) e = go (bytes_eq desk.high n) (bytes_eq desk.low n) refl refl e
  where
    go : (a b : Bool) → bytes_eq desk.high n ≡ a → bytes_eq desk.low n ≡ b → (a || b) ≡ true → (Some n ≡ Some desk.high) ⊎ (Some n ≡ Some desk.low)
    go true b s t e = inl (ap Some (sym ((bytes_eq-Decides desk.high n).0 s)))
    go false true s t e = inr (ap Some (sym ((bytes_eq-Decides desk.low n).0 t)))
    go false false s t e = absurd (true≢false (sym e))

none_of : {A : Type 0} (o : Option A) → not (is_some o) ≡ true → o ≡ None
none_of None e = refl
none_of (Some x) e = absurd (true≢false (sym e))

some_of : {A : Type 0} (o : Option A) → is_some o ≡ true → (x : A) × (o ≡ Some x)
some_of None e = absurd (true≢false (sym e))
some_of (Some x) e = (x, refl)

gate_of : (k : Kind) → is_gate k ≡ true → (inputs : List Name) × (outputs : List (Name × List Bool)) × (k ≡ Gate inputs outputs)
gate_of (Gate ins outs) e = (ins, outs, refl)
gate_of (Boxed ps) e = absurd (true≢false (sym e))

module _ (desk : Desk) (x : Component) where
  abbrev rests : Name × Role → Bool
  rests p = is_at_rest desk (dir_of_role p.1) (get x.joined p.0)

  rests_by_role : list_all rests (pins_of x.kind) ≡ true → (p : Name) (r : Role) → role_of x p ≡ Some r → is_at_rest desk (dir_of_role r) (get x.joined p) ≡ true
  rests_by_role h p r e = let w = found_at (pins_of x.kind) p r e in all_at rests (pins_of x.kind) w.0 (p, r) h w.1

  pub words_of : (c : Name) → is_stock desk c x ≡ true → IsStock desk c x
  words_of c h =
      let a = and_parts (is_spare_named desk.prefixes c) (is_some x.place && is_idle desk x) h in
      let b = and_parts (is_some x.place) (is_idle desk x) a.1 in
      let d = and_parts (is_gate x.kind) (list_all rests (pins_of x.kind)) b.1 in
      record {
        named = a.0;
        placed = some_of x.place b.0;
        gate = gate_of x.kind d.0;
        tied = λ p e. on_tie desk (get x.joined p) (rests_by_role d.1 p GateInput e);
        off = λ p t e. none_of (get x.joined p) (rests_by_role d.1 p (GateOutput t) e);
      }

  -- ---- to the test

  all_of : (xs : List (Name × Role)) → ((i : ℕ) (p : Name × Role) → slice_get xs i ≡ Some p → rests p ≡ true) → list_all rests xs ≡ true
  all_of [] h = refl
  all_of (p ∷ ps) h = ap₂ (λ a b. a && b) (h 0 p refl) (all_of ps (λ i. h (suc i)))

  is_tie : (o : Option Name) → (o ≡ Some desk.high) ⊎ (o ≡ Some desk.low) → is_on_tie desk o ≡ true
  is_tie o t = ⊎_elim
      (λ e. ap (is_on_tie desk) e ∙ ap (λ b. b || bytes_eq desk.low desk.high) ((bytes_eq-Decides desk.high desk.high).1 refl))
      (λ e. ap (is_on_tie desk) e ∙ or_true (bytes_eq desk.high desk.low) (bytes_eq desk.low desk.low) ((bytes_eq-Decides desk.low desk.low).1 refl))
      t
    where
      or_true : (a b : Bool) → b ≡ true → (a || b) ≡ true
      or_true true b e = refl
      or_true false b e = e

  no_outside : {d : Dir} → GateInput ≡ BoxedPin d → ⊥
  no_outside e = cc

  no_outside_out : {t : List Bool} {d : Dir} → GateOutput t ≡ BoxedPin d → ⊥
  no_outside_out e = cc

  inside : (ins : List Name) (outs : List (Name × List Bool)) (p : Name × Role) → Has (pins_of (Gate ins outs)) p → (d : Dir) → p.1 ≡ BoxedPin d → ⊥
  inside ins outs p h d e = ⊎_elim
      (λ i. let w = has_of_map {B = Name × Role} (λ n. (n, GateInput)) ins p i in no_outside (ap (λ (q : Name × Role). q.1) w.2 ∙ e))
      (λ i. let w = has_of_map {B = Name × Role} (λ o. (o.0, GateOutput o.1)) outs p i in no_outside_out (ap (λ (q : Name × Role). q.1) w.2 ∙ e))
      (split_has (map {B = Name × Role} (λ n. (n, GateInput)) ins) _ p h)

  pub words_to : (c : Name) → ((p : Name × Role) (i : ℕ) → slice_get (pins_of x.kind) i ≡ Some p → role_of x p.0 ≡ Some p.1) → IsStock desk c x → is_stock desk c x ≡ true
  words_to c roles s =
      let ins = s.gate.0 in
      let outs = s.gate.1 in
      let each : (i : ℕ) (p : Name × Role) → slice_get (pins_of x.kind) i ≡ Some p → rests p ≡ true = λ i p e. at p i e p.1 refl (roles p i e) in
      ap₂ (λ a b. a && b) s.named (ap₂ (λ a b. a && b) (ap is_some s.placed.1) (ap₂ (λ a b. a && b) (ap is_gate s.gate.2) (all_of (pins_of x.kind) each)))
    where
      at : (p : Name × Role) (i : ℕ) → slice_get (pins_of x.kind) i ≡ Some p → (r : Role) → p.1 ≡ r → role_of x p.0 ≡ Some p.1 → rests p ≡ true
      at p i e GateInput f g = ap (λ r. is_at_rest desk (dir_of_role r) (get x.joined p.0)) f ∙ is_tie (get x.joined p.0) (s.tied p.0 (g ∙ ap Some f))
      at p i e (GateOutput t) f g = ap (λ r. is_at_rest desk (dir_of_role r) (get x.joined p.0)) f ∙ ap (λ o. not (is_some o)) (s.off p.0 t (g ∙ ap Some f))
      at p i e (BoxedPin d) f g = absurd (inside s.gate.0 s.gate.1 p (subst (λ k. Has (pins_of k) p) s.gate.2 (has_at (pins_of x.kind) i p e)) d f)

pub in_words : StockInWords
in_words desk N whole c x is = (
  words_of desk x c,
  words_to desk x c (λ p i e. find_at (pins_of x.kind) i p (apart_distinct (map (λ q. q.0) (pins_of x.kind)) (whole.names c x is)) e),
)
