-- An order that breaks no rule keeps what the laws of patches ask for.
use Rattle.std.proofs.Common.{◌≡◌, ℕ, nat_le, nat_lt, ◌≤◌, cond, Bool, true, false, not, ◌&&◌, ◌||◌, List, [], ◌∷◌, ◌++◌, map, length, Option, Some, None, refl, sym, ap, ◌∙◌, subst, inl, inr, ⊎_elim, ◌⊎◌, true≢false, is_some, ap₂, arith}
use Rattle.std.specs.List.{Contains, IsDistinct, AllByRecursion, filter, flat_map, list_all}
use Rattle.std.specs.Option.{option_map}
use Rattle.std.specs.Ordering.{eq_by_cmp}
use Rattle.std.proofs.lemmas.Bool.{or_cases, and_parts}
use Rattle.std.specs.FinMap.{get, contains_key, find as find_pin}
use Rattle.std.specs.FinSet.{contains}
use Rattle.eco_net.specs.Netlist.{Name, name_cmp, Netlist, Component, Top, Role, GateInput, GateOutput, BoxedPin, Pin, TopPin, CompPin, IsNet, IsPin, pins_of, role_of}
use Rattle.eco_net.proofs.Basics.{Has, same_Some, not_None, contains_from_has, has_from_contains, has_of_map, has_map, has_append_left, has_append_right}
use Rattle.eco_common.specs.NameBytes.{is_name, is_name_byte, is_among}
use Rattle.eco_common.specs.Options.{first_some}
use Rattle.eco_net.specs.Bases.{HasBlank}
use Rattle.eco_net.specs.Drivers.{is_driving, dir_of_role, driven, driven_at, driven_top, joined_at, net_of, drives_inward}
use Rattle.eco_net.specs.Joints.{same_pin}
use Rattle.eco_patch_laws.specs.Orders.{PatchGate, Move as PatchMove}
use Rattle.eco_patch_laws.specs.Insertion.{move_joint}
use Rattle.eco_patch_laws.specs.Rules.{KeepsRules, Names, as_input, as_output, as_goal, IsRedriven, by_gate, left_by, reached_by, MovesDriver}
use Rattle.std.proofs.lemmas.Bool.Decides.{nat_tests}
use Rattle.eco_order_file.specs.declared.limits.TheConstants.{MAX_ORDER_NETS, MAX_ORDER_GATES, MAX_ORDER_MOVES}
use Rattle.eco_order_file.specs.declared.rule.Counted.TheVariants.{Nets, Gates, Moves}
use Rattle.eco_order_file.specs.declared.rule.Rule.{Rule}
use Rattle.eco_order_file.specs.declared.rule.Rule.TheVariants.{TwiceNamed, UnknownNet, UnknownPin, WrongFrom, StockPin, SupplyDriven, NetNameTaken}
use Rattle.eco_order_file.specs.Orders.{Gate, Move, Order, IsInForm, HasNames}
use Rattle.eco_order_file.specs.Repeats.{first_twice}
use Rattle.eco_order_file.specs.Rules.{too_many, too_large, bad_name, gate_names, pin_of, is_pin, pin_text, moved_twice, twice_named, broken_alone}
use Rattle.std.proofs.lemmas.Map.Text.{is_eq-slice_cmp}
use Rattle.std.specs.Str.{bytes_eq}
use Rattle.eco_common.specs.declared.geometry.Dir.TheVariants.{Input, Output, Inout}
use Rattle.eco_order_file.proofs.Alls.{all_down}
use Rattle.eco_order.specs.Broken.{broken_each, broken_before, FirstBroken}
use Rattle.eco_order.specs.DrivenOnce.{IsDrivenOnce}
use Rattle.eco_order.specs.Insert.{patch, patch_gate, patch_move, patched}
use Rattle.eco_order.specs.Laws.{IsOver, UnbrokenKeepsRules}
use Rattle.eco_order.specs.Rules.{is_known, gate_nets, named_nets, unknown_net, dir_at, is_one_way, is_output, is_stock, can_move, unknown_pin, present_net, is_from, wrong_from, stock_pin, moves_output, ends_from, ends, redriven, is_supply, is_fixed, supply_driven, net_name_taken}
use Rattle.eco_order.proofs.Firsts.{first_none, mapped_none, none_found, not_false, or_false, true_not_false, cond_none, has_filtered, none_twice, among_has, same_nets, names_distinct, all_has}

at_most : (n most : ℕ) → nat_lt most n ≡ false → n ≤ most
at_most n most e = grind (arith, nat_tests)

same_names : (gs : List Gate) → map (λ g. g.name) (map patch_gate gs) ≡ map (λ g. g.name) gs
same_names [] = refl
same_names (g ∷ gs) = ap (λ ns. g.name ∷ ns) (same_names gs)

pins_apart : (m : Move) (ms : List Move) → AllByRecursion (λ q. is_pin (pin_of m) q ≡ false) (map pin_of ms) → AllByRecursion (λ j. same_pin (move_joint (patch_move m)) j ≡ false) (map move_joint (map patch_move ms))
pins_apart m [] h = tt
pins_apart m (k ∷ ks) h = (ap₂ (λ a b. a && b) (is_eq-slice_cmp m.comp k.comp) (is_eq-slice_cmp m.pin k.pin) ∙ h.0, pins_apart m ks h.1)

moves_distinct : (ms : List Move) → IsDistinct is_pin (map pin_of ms) → IsDistinct same_pin (map move_joint (map patch_move ms))
unfolding IsDistinct
moves_distinct [] h = tt
moves_distinct (m ∷ ms) h = (pins_apart m ms h.0, moves_distinct ms h.1)

pub has_flat : {A B : Type 0} (f : A → List B) (xs : List A) (x : A) (y : B) → Has xs x → Has (f x) y → Has (flat_map f xs) y
has_flat f [] x y h i = absurd h
has_flat f (z ∷ xs) x y (inl s) i = has_append_left (f z) (flat_map f xs) y (subst (λ w. Has (f w) y) (sym s) i)
has_flat f (z ∷ xs) x y (inr h) i = has_append_right (f z) (flat_map f xs) y (has_flat f xs x y h i)

is_there : {A : Type 0} (o : Option A) → is_some o ≡ true → (x : A) × (o ≡ Some x)
is_there None e = absurd (true≢false (sym e))
is_there (Some x) e = (x, refl)

not_there : {A : Type 0} (o : Option A) → is_some o ≡ false → o ≡ None
not_there None e = refl
not_there (Some x) e = absurd (true≢false e)

no_supply : (o : Option (Option Bool)) (b : Bool) → is_supply o ≡ false → o ≡ Some (Some b) → ⊥
no_supply o b e f = true≢false (sym (ap is_supply f) ∙ e)

one_way : (o : Option Component) (p : Name) → is_one_way (dir_at o p) ≡ true → (x : Component) × (o ≡ Some x) × IsPin x p
one_way None p e = absurd (true≢false (sym e))
one_way (Some x) p e = (x, refl, go (role_of x p) e)
  where
    go : (r : Option Role) → is_one_way (option_map dir_of_role r) ≡ true → (s : Role) × (r ≡ Some s)
    go None f = absurd (true≢false (sym f))
    go (Some s) f = (s, refl)

-- a driving pin that goes one way is an OUTPUT
drives_out : (r : Option Role) → is_driving r ≡ true → is_one_way (option_map dir_of_role r) ≡ true → is_output (option_map dir_of_role r) ≡ true
drives_out None d e = e
drives_out (Some GateInput) d e = d
drives_out (Some (GateOutput t)) d e = refl
drives_out (Some (BoxedPin Input)) d e = d
drives_out (Some (BoxedPin Output)) d e = refl
drives_out (Some (BoxedPin Inout)) d e = e

-- a name of a DEF text has no blank
blank_no_name : (ns : List ℕ) → list_all is_name_byte ns ≡ true → Has ns 32 → ⊥
blank_no_name [] e h = h
blank_no_name (b ∷ ns) e h =
    let r = and_parts (is_name_byte b) (list_all is_name_byte ns) e in
    ⊎_elim (λ s. true≢false (sym (and_parts (nat_le 33 b) (nat_le b 126) r.0).0 ∙ ap (nat_le 33) s)) (λ i. blank_no_name ns r.1 i) h

pub no_blank : (n : Name) → is_name n ≡ true → HasBlank n → ⊥
no_blank n e c = blank_no_name n (and_parts _ _ e).1 (has_from_contains n 32 c)

-- ---- a net that is driven once

-- a pin that drives a net is on it
on_top : (o : Option Top) (n : Name) → driven_top o ≡ Some n → option_map (λ x. x.net) o ≡ Some n
on_top None n d = absurd (not_None (sym d))
on_top (Some x) n d = go (drives_inward x.dir) d
  where
    go : (b : Bool) → cond b (Some x.net) None ≡ Some n → Some x.net ≡ Some n
    go true e = e
    go false e = absurd (not_None (sym e))

on_comp : (o : Option Component) (k n : Name) → driven_at o k ≡ Some n → joined_at o k ≡ Some n
on_comp None k n d = d
on_comp (Some x) k n d = go (is_driving (role_of x k)) d
  where
    go : (b : Bool) → cond b (get x.joined k) None ≡ Some n → get x.joined k ≡ Some n
    go true e = e
    go false e = absurd (not_None (sym e))

pub driven_on : (N : Netlist) (p : Pin) (n : Name) → driven N p ≡ Some n → net_of N p ≡ Some n
driven_on N (TopPin t) n d = on_top (get N.tops t) n d
driven_on N (CompPin c k) n d = on_comp (get N.comps c) k n d

lone : {A : Type 0} (xs : List A) (x y : A) → length xs ≡ 1 → Has xs x → Has xs y → x ≡ y
lone [] x y e h i = absurd h
lone (z ∷ []) x y e (inl s) (inl t) = sym s ∙ t
lone (z ∷ []) x y e (inr h) i = absurd h
lone (z ∷ []) x y e (inl s) (inr i) = absurd i
lone (z ∷ w ∷ xs) x y e h i = absurd (omega (arith, e))

pub one_driver : (N : Netlist) (o : Order) (n : Name) → IsDrivenOnce N o n → (p q : Pin) → driven (patched N o) p ≡ Some n → driven (patched N o) q ≡ Some n → p ≡ q
one_driver N o n once p q d f =
    ⊎_elim
    (λ h. lone h.pins p q h.counted (has_from_contains h.pins p ((h.each p).1 d)) (has_from_contains h.pins q ((h.each q).1 f)))
    (λ l. absurd (l.1 p (driven_on (patched N o) p n d)))
    once

module _ (N : Netlist) (o : Order) (unbroken : broken_before N o ≡ None) where
  pub nothing : (x : Option Rule) → Has (broken_each N o) x → x ≡ None
  nothing = first_none (broken_each N o) unbroken

  -- ---- 5

  abbrev repeats : List (Option Name)
  repeats = first_twice bytes_eq o.nets ∷ first_twice bytes_eq (gate_names o) ∷ moved_twice o ∷ []

  pub none_named_twice : twice_named o ≡ None
  none_named_twice = first_none (too_large o ∷ bad_name o ∷ twice_named o ∷ []) (nothing (broken_alone o) (inl refl)) (twice_named o) (inr (inr (inl refl)))

  pub once : (x : Option Name) → Has repeats x → x ≡ None
  once = first_none repeats (mapped_none TwiceNamed (first_some repeats) none_named_twice)

  pub nets_distinct : IsDistinct bytes_eq o.nets
  nets_distinct = none_twice bytes_eq o.nets (once (first_twice bytes_eq o.nets) (inl refl))

  pub gates_distinct : IsDistinct bytes_eq (gate_names o)
  gates_distinct = none_twice bytes_eq (gate_names o) (once (first_twice bytes_eq (gate_names o)) (inr (inl refl)))

  abbrev sizes : List (Option Rule)
  sizes = too_many Nets MAX_ORDER_NETS o.nets ∷ too_many Gates MAX_ORDER_GATES o.gates ∷ too_many Moves MAX_ORDER_MOVES o.moves ∷ []

  not_too_large : (x : Option Rule) → Has sizes x → x ≡ None
  not_too_large = first_none sizes (first_none (too_large o ∷ bad_name o ∷ twice_named o ∷ []) (nothing (broken_alone o) (inl refl)) (too_large o) (inl refl))

  pub few_nets : length o.nets ≤ 640
  few_nets = at_most (length o.nets) 640 (cond_none (nat_lt 640 (length o.nets)) _ None (not_too_large (too_many Nets MAX_ORDER_NETS o.nets) (inl refl))).0

  pub few_gates : length o.gates ≤ 128
  few_gates = at_most (length o.gates) 128 (cond_none (nat_lt 128 (length o.gates)) _ None (not_too_large (too_many Gates MAX_ORDER_GATES o.gates) (inr (inl refl)))).0

  -- ---- 6

  pub known : (n : Name) → Has (named_nets o) n → IsNet N n ⊎ Contains o.nets n
  known n h =
      let e : is_known N o.nets n ≡ true = not_false (is_known N o.nets n) (none_found (λ n. not (is_known N o.nets n)) (named_nets o) (mapped_none UnknownNet _ (nothing (unknown_net N o) (inr (inl refl)))) n h) in
      ⊎_elim
      (λ f. inl (is_there (get N.nets n) f))
      (λ f. inr (contains_from_has o.nets n (among_has o.nets n f)))
      (or_cases (contains_key N.nets n) (is_among o.nets n) e)

  pub gate_of : (g : PatchGate) → Contains (patch o).gates g → (h : Gate) × Has o.gates h × (patch_gate h ≡ g)
  gate_of g c = has_of_map patch_gate o.gates g (has_from_contains (patch o).gates g c)

  pub move_of : (m : PatchMove) → Contains (patch o).moves m → (h : Move) × Has o.moves h × (patch_move h ≡ m)
  move_of m c = has_of_map patch_move o.moves m (has_from_contains (patch o).moves m c)

  pub named : (n : Name) → Names (patch o) n → Has (named_nets o) n
  named n (as_input g c i) =
      let h = gate_of g c in
      has_append_left (flat_map gate_nets o.gates) _ n (has_flat gate_nets o.gates h.0 n h.1 (has_append_left h.0.inputs _ n (subst (λ z. Has z.inputs n) (sym h.2) (has_from_contains g.inputs n i))))
  named n (as_output g c e) =
      let h = gate_of g c in
      has_append_left (flat_map gate_nets o.gates) _ n (has_flat gate_nets o.gates h.0 n h.1 (has_append_right h.0.inputs _ n (inl (ap (λ z. z.output) h.2 ∙ e))))
  named n (as_goal m c e) =
      let h = move_of m c in
      has_append_right (flat_map gate_nets o.gates) _ n (subst (Has (map (λ m. m.to) o.moves)) (ap (λ z. z.to) h.2 ∙ e) (has_map (λ m. m.to) o.moves h.0 h.1))

  -- ---- 7 to 9

  pub is_bare : (m : Move) → Has o.moves m → is_stock N m ≡ false
  is_bare m h = none_found (is_stock N) o.moves (mapped_none (λ m. StockPin m.comp m.pin) _ (nothing (stock_pin N o) (inr (inr (inr (inr (inl refl))))))) m h

  unless : (a b : Bool) → (a || b) ≡ true → a ≡ false → b ≡ true
  unless a b e f = ⊎_elim (λ g. absurd (true_not_false g f)) (λ g. g) (or_cases a b e)

  pub goes_one_way : (m : Move) → Has o.moves m → is_one_way (dir_at (get N.comps m.comp) m.pin) ≡ true
  goes_one_way m h =
      let e : can_move N m ≡ true = not_false (can_move N m) (none_found (λ m. not (can_move N m)) o.moves (mapped_none (λ m. UnknownPin m.comp m.pin) _ (nothing (unknown_pin N o) (inr (inr (inl refl))))) m h) in
      unless (is_stock N m) _ e (is_bare m h)

  pub pin_there : (m : Move) → Has o.moves m → (x : Component) × (get N.comps m.comp ≡ Some x) × IsPin x m.pin
  pin_there m h = one_way (get N.comps m.comp) m.pin (goes_one_way m h)

  pub from : (m : Move) → Has o.moves m → net_of N (CompPin m.comp m.pin) ≡ m.from
  from m h =
      let e : is_from N m ≡ true = not_false (is_from N m) (none_found (λ m. not (is_from N m)) o.moves (mapped_none (λ m. WrongFrom m.comp m.pin (present_net N m)) _ (nothing (wrong_from N o) (inr (inr (inr (inl refl)))))) m h) in
      same_nets (present_net N m) m.from (unless (is_stock N m) _ e (is_bare m h))

  -- ---- 10 to 12

  pub moved : (m : Move) → Has o.moves m → MovesDriver N (patch_move m) → moves_output N m ≡ true
  moved m h d =
      ap (λ z. is_output (dir_at z m.pin)) d.1
      ∙ drives_out (role_of d.0 m.pin) d.2 (sym (ap (λ z. is_one_way (dir_at z m.pin)) d.1) ∙ goes_one_way m h)

  driving : (m : Move) → Has o.moves m → MovesDriver N (patch_move m) → Has (filter (moves_output N) o.moves) m
  driving m h d = has_filtered (moves_output N) o.moves m h (moved m h d)

  ends_begin : (from : Option Name) (to n : Name) → from ≡ Some n → Has (ends_from from to) n
  ends_begin None to n e = absurd (not_None (sym e))
  ends_begin (Some f) to n e = inl (same_Some e)

  ends_end : (from : Option Name) (to : Name) → Has (ends_from from to) to
  ends_end None to = inl refl
  ends_end (Some f) to = inr (inl refl)

  abbrev outputs : List Name
  outputs = map (λ g. g.output) o.gates

  pub redriven_has : (n : Name) → IsRedriven N (patch o) n → Has (redriven N o) n
  redriven_has n (by_gate g c e) =
      let h = gate_of g c in
      has_append_left outputs _ n (subst (Has outputs) (ap (λ z. z.output) h.2 ∙ e) (has_map (λ g. g.output) o.gates h.0 h.1))
  redriven_has n (left_by m c d e) =
      let h = move_of m c in
      has_append_right outputs _ n (has_flat ends (filter (moves_output N) o.moves) h.0 n (driving h.0 h.1 (subst (MovesDriver N) (sym h.2) d)) (ends_begin h.0.from h.0.to n (ap (λ z. z.from) h.2 ∙ e)))
  redriven_has n (reached_by m c d e) =
      let h = move_of m c in
      has_append_right outputs _ n (has_flat ends (filter (moves_output N) o.moves) h.0 n (driving h.0 h.1 (subst (MovesDriver N) (sym h.2) d)) (subst (Has (ends h.0)) (ap (λ z. z.to) h.2 ∙ e) (ends_end h.0.from h.0.to)))

  pub undriven : (n : Name) → Has (redriven N o) n → (is_supply (get N.nets n) ≡ false) × (contains N.ties n ≡ false)
  undriven n h = or_false _ _ (none_found (is_fixed N) (redriven N o) (mapped_none SupplyDriven _ (nothing (supply_driven N o) (inr (inr (inr (inr (inr (inl refl)))))))) n h)

  pub new : (n : Name) → Has o.nets n → get N.nets n ≡ None
  new n h = not_there (get N.nets n) (none_found (contains_key N.nets) o.nets (mapped_none NetNameTaken _ (nothing (net_name_taken N o) (inr (inr (inr (inr (inr (inr (inl refl))))))))) n h)

module _ (bare N : Netlist) (o : Order) (over : IsOver bare N) (form : IsInForm o) (broken : FirstBroken N o None) where
  movable : (m : Move) → Has o.moves m → (y : Component) × (get bare.comps m.comp ≡ Some y) × IsPin y m.pin
  movable m h =
      let x = pin_there N o broken.0 m h in
      let y = over.comps m.comp x.0 x.1 (no_blank m.comp (all_has HasNames o.moves (all_down HasNames o.moves form.names.moves) m h).comp) in
      (y.0, y.1, (x.2.0, ap (λ k. find_pin name_cmp m.pin (pins_of k)) y.2 ∙ x.2.1))

  driven_once : (n : Name) → Has (redriven N o) n → IsDrivenOnce N o n
  driven_once n h = broken.1 n (contains_from_has (o.nets ++ redriven N o) n (has_append_right o.nets _ n h))

  pub keeps : KeepsRules bare N (patched N o) (patch o)
  keeps = record {
    once = record {
      nets = names_distinct o.nets (none_twice bytes_eq o.nets (once N o broken.0 (first_twice bytes_eq o.nets) (inl refl)));
      gates = subst (IsDistinct (eq_by_cmp name_cmp)) (sym (same_names o.gates)) (names_distinct (gate_names o) (none_twice bytes_eq (gate_names o) (once N o broken.0 (first_twice bytes_eq (gate_names o)) (inr (inl refl)))));
      moves = moves_distinct o.moves (none_twice is_pin (map pin_of o.moves) (mapped_none pin_text (first_twice is_pin (map pin_of o.moves)) (once N o broken.0 (moved_twice o) (inr (inr (inl refl))))));
    };
    nets_known = λ n u. known N o broken.0 n (named N o broken.0 n u);
    pins_known = λ m c. let h = move_of N o broken.0 m c in subst (λ z. (y : Component) × (get bare.comps z.comp ≡ Some y) × IsPin y z.pin) h.2 (movable h.0 h.1);
    true_moves = λ m c. let h = move_of N o broken.0 m c in subst (λ z. net_of N (CompPin z.comp z.pin) ≡ z.from) h.2 (from N o broken.0 h.0 h.1);
    no_supply = λ n r. let u = undriven N o broken.0 n (redriven_has N o broken.0 n r) in (λ b e. no_supply (get N.nets n) b u.0 e, λ e. true_not_false e u.1);
    nets_new = λ n c. new N o broken.0 n (has_from_contains o.nets n c);
    one_driver = λ n r p q d e. one_driver N o n (driven_once n (redriven_has N o broken.0 n r)) p q d e;
    loop_free = broken.2;
  }

pub unbroken_keeps_rules : UnbrokenKeepsRules
unbroken_keeps_rules bare N o over form broken = keeps bare N o over form broken
