-- What the tests of pins say in words.
use Rattle.std.proofs.Common.{◌≡◌, Bool, true, false, cond, not, ◌&&◌, ◌||◌, List, Option, Some, None, refl, sym, ap, ◌∙◌, subst, inl, inr, ⊎_elim, ◌⊎◌, true≢false}
use Rattle.std.specs.List.{Contains, find}
use Rattle.std.specs.Option.{option_map}
use Rattle.std.specs.Str.{bytes_eq}
use Rattle.std.proofs.lemmas.Bool.{cases_Bool, and_parts, and_from}
use Rattle.eco_def.specs.Named.{NamedComp, NamedPin, NamedDesign}
use Rattle.eco_issued_laws.specs.Changes.{is_no_component}
use Rattle.eco_net.specs.Netlist.{Name, Kind}
use Rattle.eco_net.proofs.Basics.{Has, contains_from_has, has_from_contains, same_Some, not_None}
use Rattle.eco_elaborate.specs.Netlists.{Kinds, Powers, kind_pins}
use Rattle.eco_elaborate.specs.Described.{NamesOnce}
use Rattle.eco_elaborate.specs.Building.{IsSupplyPinOf}
use Rattle.eco_elaborate.proofs.Names.{same_name, is_name}
use Rattle.eco_elaborate.proofs.Members.{any_has, has_any, found_passes, passes_found}
use Rattle.eco_pin_faults.specs.Places.{PinPlace, top_word, every_word}
use Rattle.eco_pin_faults.specs.Pins.{Parts, parts_of, of_named, has_signal, is_signal_of, is_supply_of, is_signal_top, is_supply_top, is_signal, is_supply}
use Rattle.eco_pin_faults.specs.Faults.{is_every, is_unknown}
use Rattle.eco_pin_faults.specs.Laws.{NamesPin, EachPin, TopPin, SignalPin, SupplyPin, IsSignal, OfTop, OfComp}

-- ---- tests

flipped : (b : Bool) → not b ≡ true → b ≡ false
flipped true e = sym e
flipped false e = refl

neither : (a b : Bool) → a ≡ false → b ≡ false → (a || b) ≡ false
neither true b e f = e
neither false b e f = f

pub both_false : (a b : Bool) → (a || b) ≡ false → (a ≡ false) × (b ≡ false)
both_false true b e = (e, absurd (true≢false e))
both_false false b e = (refl, e)

-- ---- by name

-- the item that is found has the name
pub named_found : {A X : Type 0} (name : A → Name) (value : A → X) (xs : List A) (n : Name) (v : X) → of_named name value xs n ≡ Some v → (x : A) × Has xs x × (name x ≡ n) × (value x ≡ v)
named_found {A = A} {X = X} name value xs n v e = go (find (λ x. bytes_eq (name x) n) xs) refl e
  where
    go : (o : Option A) → find (λ x. bytes_eq (name x) n) xs ≡ o → option_map value o ≡ Some v → (x : A) × Has xs x × (name x ≡ n) × (value x ≡ v)
    go None f g = absurd (not_None (sym g))
    go (Some x) f g = let p = found_passes (λ x. bytes_eq (name x) n) xs x f in (x, p.0, same_name (name x) n p.1, same_Some g)

-- where each name stands once, an item is found by its name
pub named_is : {A X : Type 0} (name : A → Name) (value : A → X) (xs : List A) (x : A) → ((a b : A) → Has xs a → Has xs b → name a ≡ name b → a ≡ b) → Has xs x → of_named name value xs (name x) ≡ Some (value x)
named_is name value xs x once h =
    let f = passes_found (λ y. bytes_eq (name y) (name x)) xs x h (is_name (name x) (name x) refl) in
    let p = found_passes (λ y. bytes_eq (name y) (name x)) xs f.0 f.1 in
    ap (option_map value) f.1 ∙ ap (λ y. Some (value y)) (once f.0 x p.0 h (same_name (name f.0) (name x) p.1))

signal_top : (o : Option Bool) → is_signal_top o ≡ true → o ≡ Some false
signal_top None e = absurd (true≢false (sym e))
signal_top (Some true) e = absurd (true≢false (sym e))
signal_top (Some false) e = refl

supply_top : (o : Option Bool) → is_supply_top o ≡ true → o ≡ Some true
supply_top None e = absurd (true≢false (sym e))
supply_top (Some true) e = refl
supply_top (Some false) e = absurd (true≢false (sym e))

signal_kind : (o : Option Kind) (p : Name) → has_signal o p ≡ true → (k : Kind) × (o ≡ Some k) × Contains (kind_pins k) p
signal_kind None p e = absurd (true≢false (sym e))
signal_kind (Some k) p e =
    let a = any_has (λ n. bytes_eq n p) (kind_pins k) e in
    (k, refl, subst (Contains (kind_pins k)) (same_name a.0 p a.2) (contains_from_has (kind_pins k) a.0 a.1))

signal_model : (kinds : Kinds) (o : Option Name) (p : Name) → is_signal_of kinds o p ≡ true → (m : Name) × (o ≡ Some m) × (has_signal (kinds.kind m) p ≡ true)
signal_model kinds None p e = absurd (true≢false (sym e))
signal_model kinds (Some m) p e = (m, refl, e)

supply_model : (powers : Powers) (o : Option Name) (p : Name) → is_supply_of powers o p ≡ true → (m : Name) × (o ≡ Some m) × (powers m p ≡ true)
supply_model powers None p e = absurd (true≢false (sym e))
supply_model powers (Some m) p e = (m, refl, e)

pub has_kind : (kinds : Kinds) (m p : Name) (k : Kind) → kinds.kind m ≡ Some k → Contains (kind_pins k) p → has_signal (kinds.kind m) p ≡ true
has_kind kinds m p k e h = ap (λ o. has_signal o p) e ∙ has_any (λ n. bytes_eq n p) (kind_pins k) p (has_from_contains (kind_pins k) p h) (is_name p p refl)

pub kind_has : (kinds : Kinds) (m p : Name) → has_signal (kinds.kind m) p ≡ true → (k : Kind) × (kinds.kind m ≡ Some k) × Contains (kind_pins k) p
kind_has kinds m p e = signal_kind (kinds.kind m) p e

-- a component's word
comp_word : (comp : Name) → bytes_eq comp top_word ≡ false → bytes_eq comp every_word ≡ false → is_no_component comp ≡ false
comp_word comp e f = neither (bytes_eq comp top_word) (bytes_eq comp every_word) e f

comp_words : (comp : Name) → is_no_component comp ≡ false → (bytes_eq comp top_word ≡ false) × (bytes_eq comp every_word ≡ false)
comp_words comp e = both_false (bytes_eq comp top_word) (bytes_eq comp every_word) e

module _ (kinds : Kinds) (powers : Powers) (d : NamedDesign) where
  abbrev P : Parts
  P = parts_of d

  -- ---- pins that aren't supply

  pub signal_said : (comp pin : Name) → is_signal kinds P comp pin ≡ true → IsSignal kinds d comp pin
  signal_said comp pin e = ⊎_elim
      (λ t.
      let o = signal_top (P.supply pin) (sym (ap (λ b. cond b (is_signal_top (P.supply pin)) (not (bytes_eq comp every_word) && is_signal_of kinds (P.model comp) pin)) t) ∙ e) in
      let f = named_found (λ (p : NamedPin). p.name) (λ (p : NamedPin). p.supply) d.pins pin false o in
      OfTop (same_name comp top_word t) f.0 (contains_from_has d.pins f.0 f.1) f.2 f.3)
      (λ n.
      let a = and_parts (not (bytes_eq comp every_word)) (is_signal_of kinds (P.model comp) pin) (sym (ap (λ b. cond b (is_signal_top (P.supply pin)) (not (bytes_eq comp every_word) && is_signal_of kinds (P.model comp) pin)) n) ∙ e) in
      let m = signal_model kinds (P.model comp) pin a.1 in
      let f = named_found (λ (c : NamedComp). c.name) (λ (c : NamedComp). c.model) d.comps comp m.0 m.1 in
      let k = signal_kind (kinds.kind m.0) pin m.2 in
      OfComp (comp_word comp n (flipped (bytes_eq comp every_word) a.0))
      (record { of = f.0; kind = k.0; found = contains_from_has d.comps f.0 f.1; same = f.2; known = ap kinds.kind f.3 ∙ k.1; has = k.2 }))
      (cases_Bool (bytes_eq comp top_word))

  -- ---- supply pins

  pub supply_said : (comp pin : Name) → is_supply powers P comp pin ≡ true → ((comp ≡ top_word) × ((t : NamedPin) × Contains d.pins t × (t.name ≡ pin) × (t.supply ≡ true))) ⊎ ((is_no_component comp ≡ false) × IsSupplyPinOf powers d comp pin)
  supply_said comp pin e = ⊎_elim
      (λ t.
      let o = supply_top (P.supply pin) (sym (ap (λ b. cond b (is_supply_top (P.supply pin)) (not (bytes_eq comp every_word) && is_supply_of powers (P.model comp) pin)) t) ∙ e) in
      let f = named_found (λ (p : NamedPin). p.name) (λ (p : NamedPin). p.supply) d.pins pin true o in
      inl (same_name comp top_word t, (f.0, contains_from_has d.pins f.0 f.1, f.2, f.3)))
      (λ n.
      let a = and_parts (not (bytes_eq comp every_word)) (is_supply_of powers (P.model comp) pin) (sym (ap (λ b. cond b (is_supply_top (P.supply pin)) (not (bytes_eq comp every_word) && is_supply_of powers (P.model comp) pin)) n) ∙ e) in
      let m = supply_model powers (P.model comp) pin a.1 in
      let f = named_found (λ (c : NamedComp). c.name) (λ (c : NamedComp). c.model) d.comps comp m.0 m.1 in
      inr (comp_word comp n (flipped (bytes_eq comp every_word) a.0), record { of = f.0; found = contains_from_has d.comps f.0 f.1; same = f.2; supply = ap (λ x. powers x pin) f.3 ∙ m.2 }))
      (cases_Bool (bytes_eq comp top_word))

  -- ---- the other way, where each name stands once

  module _ (once : NamesOnce d) where
    tops_once : (a b : NamedPin) → Has d.pins a → Has d.pins b → a.name ≡ b.name → a ≡ b
    tops_once a b h i e = once.tops a b (contains_from_has d.pins a h) (contains_from_has d.pins b i) e

    comps_once : (a b : NamedComp) → Has d.comps a → Has d.comps b → a.name ≡ b.name → a ≡ b
    comps_once a b h i e = once.comps a b (contains_from_has d.comps a h) (contains_from_has d.comps b i) e

    top_supply : (pin : Name) (t : NamedPin) → Contains d.pins t → t.name ≡ pin → P.supply pin ≡ Some t.supply
    top_supply pin t h e = ap P.supply (sym e) ∙ named_is (λ (p : NamedPin). p.name) (λ (p : NamedPin). p.supply) d.pins t tops_once (has_from_contains d.pins t h)

    comp_model : (comp : Name) (c : NamedComp) → Contains d.comps c → c.name ≡ comp → P.model comp ≡ Some c.model
    comp_model comp c h e = ap P.model (sym e) ∙ named_is (λ (c : NamedComp). c.name) (λ (c : NamedComp). c.model) d.comps c comps_once (has_from_contains d.comps c h)

    pub signal_of_top : (comp pin : Name) (t : NamedPin) → comp ≡ top_word → Contains d.pins t → t.name ≡ pin → is_signal kinds P comp pin ≡ not t.supply
    signal_of_top comp pin t e h n =
        ap (λ b. cond b (is_signal_top (P.supply pin)) (not (bytes_eq comp every_word) && is_signal_of kinds (P.model comp) pin)) (is_name comp top_word e)
        ∙ ap is_signal_top (top_supply pin t h n)

    pub supply_of_top : (comp pin : Name) (t : NamedPin) → comp ≡ top_word → Contains d.pins t → t.name ≡ pin → is_supply powers P comp pin ≡ t.supply
    supply_of_top comp pin t e h n =
        ap (λ b. cond b (is_supply_top (P.supply pin)) (not (bytes_eq comp every_word) && is_supply_of powers (P.model comp) pin)) (is_name comp top_word e)
        ∙ ap is_supply_top (top_supply pin t h n)

    of_comp : (comp : Name) → is_no_component comp ≡ false → (x y : Bool) → cond (bytes_eq comp top_word) x (not (bytes_eq comp every_word) && y) ≡ y
    of_comp comp e x y =
        let w = comp_words comp e in
        ap (λ b. cond b x (not (bytes_eq comp every_word) && y)) w.0 ∙ ap (λ b. not b && y) w.1

    pub to_signal : (comp pin : Name) → IsSignal kinds d comp pin → is_signal kinds P comp pin ≡ true
    to_signal comp pin (OfTop e t h n s) = signal_of_top comp pin t e h n ∙ ap not s
    to_signal comp pin (OfComp e i) =
        of_comp comp e (is_signal_top (P.supply pin)) (is_signal_of kinds (P.model comp) pin)
        ∙ ap (λ o. is_signal_of kinds o pin) (comp_model comp i.of i.found i.same)
        ∙ has_kind kinds i.of.model pin i.kind i.known i.has

    to_supply : (comp pin : Name) → is_no_component comp ≡ false → IsSupplyPinOf powers d comp pin → is_supply powers P comp pin ≡ true
    to_supply comp pin e s =
        of_comp comp e (is_supply_top (P.supply pin)) (is_supply_of powers (P.model comp) pin)
        ∙ ap (λ o. is_supply_of powers o pin) (comp_model comp s.of s.found s.same)
        ∙ s.supply

    -- ---- joints of no pin

    is_neither : (a b c : Bool) → (not a && (not b && not c)) ≡ true → (a ≡ false) × (b ≡ false) × (c ≡ false)
    is_neither true b c e = absurd (true≢false (sym e))
    is_neither false true c e = absurd (true≢false (sym e))
    is_neither false false true e = absurd (true≢false (sym e))
    is_neither false false false e = (refl, refl, refl)

    is_one : (a b c : Bool) → (not a && (not b && not c)) ≡ false → (a ≡ true) ⊎ ((b ≡ true) ⊎ (c ≡ true))
    is_one true b c e = inl refl
    is_one false true c e = inr (inl refl)
    is_one false false true e = inr (inr refl)
    is_one false false false e = absurd (true≢false e)

    both_on : (b : Bool) → not b ≡ false → b ≡ false → ⊥
    both_on true e f = true≢false f
    both_on false e f = true≢false e

    pub unknown_not : (p : PinPlace) → is_unknown kinds powers P p ≡ true → NamesPin kinds powers d p → ⊥
    unknown_not p u (EachPin s e) =
        let n = is_neither (is_every p) (is_signal kinds P p.comp p.pin) (is_supply powers P p.comp p.pin) u in
        true≢false (sym (and_from p.special (bytes_eq p.comp every_word) s (is_name p.comp every_word e)) ∙ n.0)
    unknown_not p u (TopPin e t h n) =
        let k = is_neither (is_every p) (is_signal kinds P p.comp p.pin) (is_supply powers P p.comp p.pin) u in
        both_on t.supply (sym (signal_of_top p.comp p.pin t e h n) ∙ k.1) (sym (supply_of_top p.comp p.pin t e h n) ∙ k.2)
    unknown_not p u (SignalPin e i) =
        let k = is_neither (is_every p) (is_signal kinds P p.comp p.pin) (is_supply powers P p.comp p.pin) u in
        true≢false (sym (to_signal p.comp p.pin (OfComp e i)) ∙ k.1)
    unknown_not p u (SupplyPin e s) =
        let k = is_neither (is_every p) (is_signal kinds P p.comp p.pin) (is_supply powers P p.comp p.pin) u in
        true≢false (sym (to_supply p.comp p.pin e s) ∙ k.2)

    from_signal : (p : PinPlace) → IsSignal kinds d p.comp p.pin → NamesPin kinds powers d p
    from_signal p (OfTop e t h n s) = TopPin e t h n
    from_signal p (OfComp e i) = SignalPin e i

    pub known_said : (p : PinPlace) → is_unknown kinds powers P p ≡ false → NamesPin kinds powers d p
    known_said p u = ⊎_elim
        (λ e. let a = and_parts p.special (bytes_eq p.comp every_word) e in EachPin a.0 (same_name p.comp every_word a.1))
        (λ r. ⊎_elim
        (λ s. from_signal p (signal_said p.comp p.pin s))
        (λ s. ⊎_elim (λ t. TopPin t.0 t.1.0 t.1.1 t.1.2) (λ c. SupplyPin c.0 c.1) (supply_said p.comp p.pin s))
        r)
        (is_one (is_every p) (is_signal kinds P p.comp p.pin) (is_supply powers P p.comp p.pin) u)

    pub not_unknown : (p : PinPlace) → (NamesPin kinds powers d p → ⊥) → is_unknown kinds powers P p ≡ true
    not_unknown p none = ⊎_elim (λ t. t) (λ f. absurd (none (known_said p f))) (cases_Bool (is_unknown kinds powers P p))
