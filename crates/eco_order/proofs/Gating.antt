-- Gates that are added, with their pins on their nets.
use Rattle.std.proofs.Common.{◌≡◌, ◌≢◌, ℕ, zero, suc, ◌+◌, ◌-◌, ◌<◌, ◌≤◌, Bool, true, false, cond, List, [], ◌∷◌, ◌++◌, map, length, drop, get_or, Option, Some, None, refl, sym, ap, ap₂, subst, ◌∙◌, inl, inr, ◌⊎◌, arith}
use Rattle.std.specs.Bool.{if◌then◌else◌}
use Rattle.std.specs.List.{IsDistinct, range_with_len}
use Rattle.std.specs.Ordering.{eq_by_cmp}
use Rattle.std.specs.Str.{bytes_eq}
use Rattle.std.specs.FinMap.{FinMap, get, insert, find, empty, from_entries, same_map}
use Rattle.std.specs.Cmp.Lexicographic.{nat_list_cmp_total}
use Rattle.std.proofs.lemmas.Map.Lookups.{exact_bytes}
use Rattle.eco_common.specs.declared.geometry.Point.{Point}
use Rattle.eco_func.specs.Masters.{MasterTables, is_master, master}
use Rattle.eco_func.specs.declared.output.OutputFn.{OutputFn}
use Rattle.eco_net.specs.Netlist.{Name, name_cmp, Netlist, Component, Kind, Role, GateInput, GateOutput, CompPin, IsNet, pins_of}
use Rattle.eco_net.specs.Listing.{given_kind, bits_of}
use Rattle.eco_net.specs.declared.kind.Kind.TheVariants.{Gate as GivenGate}
use Rattle.eco_net.specs.Changes.{with_comp, with_pin_on}
use Rattle.eco_net.proofs.Basics.{Has, contains_from_has, has_of_map, has_map, has_append_left, has_append_right, cmp_itself, same_name, get_same, get_other, same_Some, not_None}
use Rattle.eco_net.proofs.Pointwise.{on_is, on_here}
use Rattle.eco_order_file.specs.Orders.{Gate}
use Rattle.eco_order.specs.Insert.{patch_gate, IsFreeLabel}
use Rattle.eco_order.specs.Rules.{gate_nets}
use Rattle.eco_order.specs.Inserting.{IsPinOf, HasGateNets, pins_from, put_all, with_gate, with_all_gates}
use Rattle.eco_order.proofs.Firsts.{true_not_false}
use Rattle.eco_order.proofs.Putting.{before, later_differ}
use Rattle.eco_patch_laws.specs.Insertion.{input_pin, output_pin, patch_name, patch_component}
use Rattle.eco_patch_laws.proofs.Inserting.{gates_other}
use Rattle.eco_patch_laws.proofs.Names.{one_gate_name}

-- ---- the kind

pub fits : (n bits : ℕ) → n ≤ 6 → is_master (map input_pin (range_with_len 0 n)) (record { pin = output_pin; table = record { inputs = n; bits = bits } } ∷ []) ≡ true
fits zero bits h = refl
fits (suc zero) bits h = refl
fits (suc (suc zero)) bits h = refl
fits (suc (suc (suc zero))) bits h = refl
fits (suc (suc (suc (suc zero)))) bits h = refl
fits (suc (suc (suc (suc (suc zero))))) bits h = refl
fits (suc (suc (suc (suc (suc (suc zero)))))) bits h = refl
fits (suc (suc (suc (suc (suc (suc (suc n))))))) bits h = absurd (omega (arith, h))

module _ (g : Gate) (few : length g.inputs ≤ 6) (rows : length g.inputs ≡ g.table.inputs) (ins : List Name) (outs : List OutputFn) (are : ins ≡ map input_pin (range_with_len 0 (length g.inputs))) (is : outs ≡ record { pin = output_pin; table = g.table } ∷ []) where
  fit : is_master ins outs ≡ true
  fit =
      ap₂ is_master are is
      ∙ ap (λ n. is_master (map input_pin (range_with_len 0 (length g.inputs))) (record { pin = output_pin; table = record { inputs = n; bits = g.table.bits } } ∷ [])) (sym rows)
      ∙ fits (length g.inputs) g.table.bits few

  made : (name : Name) (o : Option MasterTables) → o ≡ master name ins outs → o ≡ Some (record { name = name; inputs = ins; outputs = outs })
  made name o e = e ∙ ap (λ b. if b then Some (record { name = name; inputs = ins; outputs = outs }) else None) fit

  pub is_made : (name : Name) (o : Option MasterTables) → o ≡ master name ins outs → o ≡ None → ⊥
  is_made name o e n = not_None (sym (made name o e) ∙ n)

  pub kind_made : (name : Name) (m : MasterTables) (o : Option MasterTables) → o ≡ Some m → o ≡ master name ins outs → given_kind (GivenGate m) ≡ (patch_component (patch_gate g) None).kind
  kind_made name m o s e =
      ap (λ z. given_kind (GivenGate z)) (same_Some (sym s ∙ made name o e))
      ∙ ap₂ (λ i u. given_kind (GivenGate (record { name = name; inputs = i; outputs = u }))) (are ∙ sym (pin_names 0 g.inputs)) is
    where
      pin_names : (i : ℕ) (ns : List Name) → map (λ e. e.0) (pins_from i ns) ≡ map input_pin (range_with_len i (length ns))
      pin_names i [] = refl
      pin_names i (n ∷ ns) = ap (λ xs. input_pin i ∷ xs) (pin_names (i + 1) ns)

-- ---- the pins

pub all_keep_pin : (N : Netlist) (c p : Name) (es : List (Name × Name)) → IsPinOf N c p → IsPinOf (put_all N c es) c p
all_keep_pin N c p [] w = w
all_keep_pin N c p (e ∷ es) w =
    let v = all_keep_pin N c p es w in
    (_, on_here (put_all N c es) c e.0 v.0 v.1 e.1, v.2)

pub all_keep_nets : (N : Netlist) (c : Name) (es : List (Name × Name)) → (put_all N c es).nets ≡ N.nets
all_keep_nets N c [] = refl
all_keep_nets N c (e ∷ es) = all_keep_nets N c es

pub put_twice : (N : Netlist) (c : Name) (xs ys : List (Name × Name)) → put_all (put_all N c ys) c xs ≡ put_all N c (xs ++ ys)
put_twice N c [] ys = refl
put_twice N c (x ∷ xs) ys = ap (λ M. with_pin_on M (CompPin c x.0) x.1) (put_twice N c xs ys)

module _ (N M : Netlist) (c : Name) (es : List (Name × Name)) (is : M ≡ put_all N c es) where
  pub pin_stays : (p q : Name) → IsPinOf N c q → p ≡ q → IsPinOf M c p
  pin_stays p q w e = subst (λ z. IsPinOf M c z) (sym e) (subst (λ P. IsPinOf P c q) (sym is) (all_keep_pin N c q es w))

  pub net_stays : (m n : Name) → IsNet N n → m ≡ n → IsNet M m
  net_stays m n w e = subst (IsNet M) (sym e) (w.0, ap (λ P. get P.nets n) is ∙ ap (λ a. get a n) (all_keep_nets N c es) ∙ w.1)

twice_put : (m : FinMap name_cmp Component) (c : Name) (x y : Component) → insert (insert m c x) c y ≡ insert m c y
twice_put m c x y = same_map nat_list_cmp_total exact_bytes _ _ (λ q. at q (same_name q c))
  where
    at : (q : Name) → (q ≡ c) ⊎ (q ≢ c) → get (insert (insert m c x) c y) q ≡ get (insert m c y) q
    at q (inl s) = ap (get (insert (insert m c x) c y)) s ∙ get_same (insert m c x) c y ∙ sym (ap (get (insert m c y)) s ∙ get_same m c y)
    at q (inr a) = get_other (insert m c x) c y q a ∙ get_other m c x q a ∙ sym (get_other m c y q a)

pub all_put : (N : Netlist) (c : Name) (k : Kind) (place : Option Point) (es : List (Name × Name)) →
    put_all (with_comp N c k place) c es ≡ record N { comps = insert N.comps c (record { kind = k; place = place; joined = from_entries es }) }
all_put N c k place [] = refl
all_put N c k place (e ∷ es) =
    ap (λ P. with_pin_on P (CompPin c e.0) e.1) (all_put N c k place es)
    ∙ on_is M c e.0 x (get_same N.comps c x) e.1
    ∙ ap (λ m. record N { comps = m }) (twice_put N.comps c x (record x { joined = insert x.joined e.0 e.1 }))
  where
    x : Component
    x = record { kind = k; place = place; joined = from_entries es }

    M : Netlist
    M = record N { comps = insert N.comps c x }

found_has : {X : Type 0} (es : List (Name × X)) (q : Name) → Has (map (λ e. e.0) es) q → (x : X) × (find name_cmp q es ≡ Some x)
found_has [] q h = absurd h
found_has {X = X} (e ∷ es) q h = go (eq_by_cmp name_cmp q e.0) refl h (found_has es q)
  where
    go : (b : Bool) → eq_by_cmp name_cmp q e.0 ≡ b → Has (map (λ e. e.0) (e ∷ es)) q → (Has (map (λ e. e.0) es) q → (x : X) × (find name_cmp q es ≡ Some x)) → (x : X) × (cond b (Some e.1) (find name_cmp q es) ≡ Some x)
    go true f i r = (e.1, refl)
    go false f (inl s) r = absurd (true_not_false (cmp_itself q) (ap (eq_by_cmp name_cmp q) (sym s) ∙ f))
    go false f (inr i) r = r i

-- ---- gates

-- a gate's kind has its pins
pub is_pin_of_gate : (N : Netlist) (c : Name) (g : Gate) (k : Kind) (q : Name) → k ≡ (patch_component (patch_gate g) None).kind → Has (map (λ e. e.0) (pins_of (patch_component (patch_gate g) None).kind)) q → IsPinOf (with_comp N c k None) c q
is_pin_of_gate N c g k q e h =
    subst (λ k. IsPinOf (with_comp N c k None) c q) (sym e)
    (_, get_same N.comps c (record { kind = (patch_component (patch_gate g) None).kind; place = None; joined = empty }), found_has (pins_of (patch_component (patch_gate g) None).kind) q h)

names_dropped : (gs : List Gate) (i : ℕ) → IsDistinct bytes_eq (map (λ g. g.name) gs) → IsDistinct bytes_eq (map (λ g. g.name) (drop i gs))
unfolding IsDistinct
names_dropped [] zero d = d
names_dropped [] (suc i) d = d
names_dropped (g ∷ gs) zero d = d
names_dropped (g ∷ gs) (suc i) d = names_dropped gs i d.1

pub gates_new : (N : Netlist) (label : Name) (gs : List Gate) (k : ℕ) (g : Gate) → 0 < k → k ≤ length gs → g ≡ get_or gs (k - 1) g →
    IsDistinct bytes_eq (map (λ g. g.name) gs) → IsFreeLabel N label → get (with_all_gates label N (drop k gs)).comps (patch_name label g.name) ≡ None
gates_new N label gs k g some within at distinct free =
    gates_other label (λ g. None) N.comps (map patch_gate (drop k gs)) (patch_name label g.name)
    (λ p h s.
    let w = has_of_map patch_gate (drop k gs) p h in
    let same : w.0.name ≡ g.name = ap (λ z. z.name) w.2 ∙ sym (one_gate_name label g.name p.name s) in
    later_differ g.name (map (λ g. g.name) (drop k gs))
    (subst (IsDistinct bytes_eq) (ap (map (λ g. g.name)) (before gs k g some within at)) (names_dropped gs (k - 1) distinct))
    (subst (Has (map (λ g. g.name) (drop k gs))) same (has_map (λ g. g.name) (drop k gs) w.0 w.1)))
    ∙ free g.name

pub gate_nets_stay : (N : Netlist) (label : Name) (gs : List Gate) (M : Netlist) (g : Gate) → M ≡ with_all_gates label N gs → HasGateNets N g → HasGateNets M g
gate_nets_stay N label gs M g is h = λ n c. let w = h n c in (w.0, ap (λ P. get P.nets n) is ∙ w.1)

has_input : (j : ℕ) (ns : List Name) (i : ℕ) → i < length ns → Has (map (λ e. e.0) (pins_from j ns)) (input_pin (j + i))
has_input j [] i h = absurd (omega (arith, h))
has_input j (n ∷ ns) zero h = inl (ap input_pin (omega arith))
has_input j (n ∷ ns) (suc i) h = inr (subst (λ k. Has (map (λ e. e.0) (pins_from (j + 1) ns)) (input_pin k)) (omega arith) (has_input (j + 1) ns i (omega (arith, h))))

module _ (N A : Netlist) (label : Name) (g : Gate) (added : A ≡ with_comp N (patch_name label g.name) (patch_component (patch_gate g) None).kind None) where
  abbrev kind : Kind
  kind = (patch_component (patch_gate g) None).kind

  abbrev comp : Name
  comp = patch_name label g.name

  abbrev reading : List (Name × Role)
  reading = map (λ p. (p, GateInput)) (map (λ e. e.0) (pins_from 0 g.inputs))

  there : (q : Name) → Has (map (λ e. e.0) (pins_of kind)) q → IsPinOf A comp q
  there q h = subst (λ M. IsPinOf M comp q) (sym added) (is_pin_of_gate N comp g kind q refl h)

  pub out_there : (c p : Name) → c ≡ comp → p ≡ output_pin → IsPinOf A c p
  out_there c p e f =
      subst (λ z. IsPinOf A z p) (sym e) (subst (IsPinOf A comp) (sym f)
      (there output_pin (has_map {A = Name × Role} (λ x. x.0) (pins_of kind) (output_pin, GateOutput (bits_of g.table)) (has_append_right reading _ _ (inl refl)))))

  in_there : (i : ℕ) → i < length g.inputs → IsPinOf A comp (input_pin i)
  in_there i h =
      there (input_pin i) (has_map {A = Name × Role} (λ x. x.0) (pins_of kind) (input_pin i, GateInput)
      (has_append_left reading _ _ (has_map (λ p. (p, GateInput)) (map (λ e. e.0) (pins_from 0 g.inputs)) (input_pin i)
      (subst (λ k. Has (map (λ e. e.0) (pins_from 0 g.inputs)) (input_pin k)) (omega arith) (has_input 0 g.inputs i h)))))

  pub net_there : HasGateNets N g → (m n : Name) → Has (gate_nets g) n → m ≡ n → IsNet A m
  net_there nets m n h e =
      let w = nets n (contains_from_has (gate_nets g) n h) in
      subst (IsNet A) (sym e) (w.0, ap (λ M. get M.nets n) added ∙ w.1)

  module _ (B : Netlist) (put : B ≡ with_pin_on A (CompPin comp output_pin) g.output) where
    pub in_still : (c : Name) (i : ℕ) → c ≡ comp → i < length g.inputs → IsPinOf B c (input_pin i)
    in_still c i e h = subst (λ z. IsPinOf B z (input_pin i)) (sym e) (pin_stays A B comp ((output_pin, g.output) ∷ []) put (input_pin i) (input_pin i) (in_there i h) refl)

    pub net_still : HasGateNets N g → (n : Name) → Has g.inputs n → IsNet B n
    net_still nets n h = net_stays A B comp ((output_pin, g.output) ∷ []) put n n (net_there nets n n (has_append_left g.inputs (g.output ∷ []) n h) refl) refl

    pub gate_added : (C : Netlist) → C ≡ put_all B comp (pins_from 0 g.inputs) → C ≡ with_gate label N g
    gate_added C e =
        e ∙ ap (λ M. put_all M comp (pins_from 0 g.inputs)) (put ∙ ap (λ M. with_pin_on M (CompPin comp output_pin) g.output) added)
        ∙ put_twice (with_comp N comp kind None) comp (pins_from 0 g.inputs) ((output_pin, g.output) ∷ [])
        ∙ all_put N comp kind None (pins_from 0 g.inputs ++ (output_pin, g.output) ∷ [])
