-- What is told of the place that is found.
use Rattle.std.proofs.Common.{◌≡◌, ℕ, Bool, true, false, ◌&&◌, ◌||◌, List, [], ◌∷◌, map, Option, Some, None, refl, sym, ap, ◌∙◌, true≢false, ⊎_elim}
use Rattle.std.specs.List.{find, list_any, list_all, flat_map}
use Rattle.std.specs.Option.{option_map, IsSome}
use Rattle.std.specs.Str.{bytes_eq}
use Rattle.std.specs.Borrow.{Bor}
use Rattle.std.proofs.lemmas.Bool.{cases_Bool, and_parts, and_from}
use Rattle.std.proofs.lemmas.List.Folds.{list_all-append}
use Rattle.eco_def.specs.declared.design.Comp.{Comp}
use Rattle.eco_def.specs.declared.design.Joint.{Joint}
use Rattle.eco_def.specs.declared.design.NetStatement.{NetStatement}
use Rattle.eco_def.specs.declared.design.TopPin.{TopPin}
use Rattle.eco_def.specs.declared.design.Design.{Design}
use Rattle.eco_def.specs.Named.{NamedComp, NamedPin}
use Rattle.eco_net.specs.Netlist.{Name}
use Rattle.eco_net.proofs.Basics.{Has, has_of_map}
use Rattle.eco_elaborate.specs.Netlists.{Kinds, Powers}
use Rattle.eco_text.specs.Cursor.{word_bytes}
use Rattle.eco_elaborate.specs.Stated.{named_pin}
use Rattle.eco_elaborate.proofs.Names.{same_name}
use Rattle.eco_elaborate.proofs.Members.{any_has, has_any, found_passes}
use Rattle.eco_elaborate.proofs.Stating.{of_flat_map}
use Rattle.eco_pin_faults.specs.declared.placed_pin.PlacedPin.{PlacedPin}
use Rattle.eco_pin_faults.specs.declared.design_pins.DesignPins.{DesignPins}
use Rattle.eco_pin_faults.specs.declared.faults.UnknownPin.{UnknownPin}
use Rattle.eco_pin_faults.specs.declared.faults.TwoNets.{TwoNets}
use Rattle.eco_pin_faults.specs.declared.faults.Pattern.{Pattern}
use Rattle.eco_pin_faults.specs.Places.{PinPlace, every_word, joint_place, joints_on, joints, places}
use Rattle.eco_pin_faults.specs.Pins.{Parts, parts_of, has_signal, is_signal}
use Rattle.eco_pin_faults.specs.Faults.{named, is_every, is_unknown, first_unknown, first_net, differs, first_differing, is_pattern, first_pattern, is_right, unknown_at, two_nets_at, pattern_at}
use Rattle.eco_pin_faults.specs.Held.{ByName, at_name, place_by, parts_by, net_by, right_by}
use Rattle.eco_pin_faults.specs.Patterns.{is_signal_on, is_pattern_on}
use Rattle.eco_pin_faults.proofs.Lists.{map_twice}
use Rattle.eco_pin_faults.proofs.Maps.{Nets}
use Rattle.eco_pin_faults.proofs.Finding.{none_found}
use Rattle.eco_pin_faults.proofs.Parts.{top_named, any_model}

pub told_of : {T : Type 0} (f : PinPlace → T) (o : Option PlacedPin) (q : Option PinPlace) → option_map place_by o ≡ q → option_map (λ p. f (place_by p)) o ≡ option_map f q
told_of f o q e = sym (map_twice f place_by o) ∙ ap (option_map f) e

-- ---- joints of no pin

pub unknown_told : (kinds : Kinds) (powers : Powers) (text : List ℕ) (d : Design) (pins : DesignPins) (o : Option PlacedPin) → parts_by pins ≡ parts_of (named text d) →
    option_map place_by o ≡ find (is_unknown kinds powers (parts_by pins)) (joints text d) → option_map (λ p. unknown_at (place_by p)) o ≡ option_map unknown_at (first_unknown kinds powers text d)
unknown_told kinds powers text d pins o e f = told_of unknown_at o (first_unknown kinds powers text d) (f ∙ ap (λ (P : Parts). find (is_unknown kinds powers P) (joints text d)) e)

abbrev unknown_of : List ℕ → ℕ → UnknownPin
unknown_of net place = record { net = net; place = place }

pub unknown_named : (p : PlacedPin) (net : List ℕ) → net ≡ p.net.now → Some (unknown_of net p.start) ≡ Some (unknown_at (place_by p))
unknown_named p net e = ap (λ (n : List ℕ). Some (unknown_of n p.start)) e

-- ---- pins on two nets

pub two_told : (kinds : Kinds) (text : List ℕ) (d : Design) (nets : Nets) (pins : DesignPins) (o : Option PlacedPin) → ((comp pin : Name) → net_by nets comp pin ≡ first_net (places text d) comp pin) → parts_by pins ≡ parts_of (named text d) →
    option_map place_by o ≡ find (λ p. differs (net_by nets p.comp p.pin) p.net && is_signal kinds (parts_by pins) p.comp p.pin) (places text d) →
    option_map (λ p. two_nets_at (net_by nets p.comp.now p.pin.now) (place_by p)) o ≡ option_map (λ p. two_nets_at (first_net (places text d) p.comp p.pin) p) (first_differing kinds text d)
two_told kinds text d nets pins o h e f =
    let F : (Name → Name → Option Name) → Parts → Option TwoNets = λ net P. option_map (λ p. two_nets_at (net p.comp p.pin) p) (find (λ p. differs (net p.comp p.pin) p.net && is_signal kinds P p.comp p.pin) (places text d)) in
    let same : net_by nets ≡ first_net (places text d) = λ i comp pin. h comp pin i in
    told_of (λ p. two_nets_at (net_by nets p.comp p.pin) p) o (find (λ p. differs (net_by nets p.comp p.pin) p.net && is_signal kinds (parts_by pins) p.comp p.pin) (places text d)) f
    ∙ ap (λ net. F net (parts_by pins)) same
    ∙ ap (F (first_net (places text d))) e

has_net : (o : Option Name) (n : Name) → differs o n ≡ true → IsSome o
has_net None n e = absurd (true≢false (sym e))
has_net (Some m) n e = refl

pub has_first_net : (kinds : Kinds) (nets : Nets) (P : Parts) (ps : List PinPlace) (p : PinPlace) → Some p ≡ find (λ p. differs (net_by nets p.comp p.pin) p.net && is_signal kinds P p.comp p.pin) ps → IsSome (net_by nets p.comp p.pin)
has_first_net kinds nets P ps p e =
    let test : PinPlace → Bool = λ p. differs (net_by nets p.comp p.pin) p.net && is_signal kinds P p.comp p.pin in
    has_net (net_by nets p.comp p.pin) p.net (and_parts (differs (net_by nets p.comp p.pin) p.net) (is_signal kinds P p.comp p.pin) (found_passes test ps p (sym e)).1).0

-- ---- patterns

pub pattern_told : (kinds : Kinds) (text : List ℕ) (d : Design) (models : List (Bor (List ℕ))) (o : Option PlacedPin) → ((test : Name → Bool) → list_any (λ m. test m.now) models ≡ list_any (λ (c : Comp). test (word_bytes text c.model)) d.comps) →
    option_map place_by o ≡ find (is_pattern_on kinds models) (joints text d) → option_map (λ p. pattern_at (place_by p)) o ≡ option_map pattern_at (first_pattern kinds text d)
pattern_told kinds text d models o h f =
    let one : (n : Name) → is_signal_on kinds models n ≡ list_any (λ c. has_signal (kinds.kind c.model) n) (named text d).comps = λ n. h (λ m. has_signal (kinds.kind m) n) ∙ sym (any_model (λ m. has_signal (kinds.kind m) n) text d) in
    let same : is_signal_on kinds models ≡ (λ n. list_any (λ c. has_signal (kinds.kind c.model) n) (named text d).comps) = λ i n. one n i in
    told_of pattern_at o (first_pattern kinds text d) (f ∙ ap (λ (on : Name → Bool). find (λ p. is_every p && on p.pin) (joints text d)) same)

abbrev pattern_of : List ℕ → List ℕ → Pattern
pattern_of net pin = record { net = net; pin = pin }

pub pattern_named : (p : PlacedPin) (net pin : List ℕ) → net ≡ p.net.now → pin ≡ p.pin.now → Some (pattern_of net pin) ≡ Some (pattern_at (place_by p))
pattern_named p net pin e f = ap (λ (n : List ℕ). Some (pattern_of n pin)) e ∙ ap (λ (n : List ℕ). Some (pattern_of p.net.now n)) f

-- no joint of NETS is a pattern
pub no_pattern : (kinds : Kinds) (models : List (Bor (List ℕ))) (text : List ℕ) (s : NetStatement) → s.special ≡ false → find (is_pattern_on kinds models) (joints_on text s) ≡ None
no_pattern kinds models text s e = none_found (is_pattern_on kinds models) (joints_on text s) fails
  where
    fails : (p : PinPlace) → Has (joints_on text s) p → is_pattern_on kinds models p ≡ false
    fails p h =
        let j = has_of_map (joint_place text s) s.joints p h in
        ap (λ b. (b && bytes_eq p.comp every_word) && is_signal_on kinds models p.pin) (ap (λ (q : PinPlace). q.special) (sym j.2) ∙ e)

-- where no joint stands for every component, there is no pattern
pub no_every : (kinds : Kinds) (text : List ℕ) (d : Design) (nets : List NetStatement) → nets ≡ d.nets → list_any (λ s. s.special && list_any (λ j. bytes_eq (word_bytes text j.comp) every_word) s.joints) nets ≡ false → first_pattern kinds text d ≡ None
no_every kinds text d nets en e = none_found (is_pattern kinds (named text d)) (joints text d) fails
  where
    off : (b c : Bool) → b ≡ false → (b && c) ≡ false
    off b c f = ap (λ a. a && c) f

    fails : (p : PinPlace) → Has (joints text d) p → is_pattern kinds (named text d) p ≡ false
    fails p h =
        let s = of_flat_map (joints_on text) d.nets p h in
        let j = has_of_map (joint_place text s.0) s.0.joints p s.2 in
        off (is_every p) (list_any (λ (c : NamedComp). has_signal (kinds.kind c.model) p.pin) (named text d).comps) (⊎_elim
        (λ t.
        let a = and_parts p.special (bytes_eq p.comp every_word) t in
        let special : s.0.special ≡ true = ap (λ (q : PinPlace). q.special) j.2 ∙ a.0 in
        let word : bytes_eq (word_bytes text j.0.comp) every_word ≡ true = ap (λ (q : PinPlace). bytes_eq q.comp every_word) j.2 ∙ a.1 in
        let some : list_any (λ (x : NetStatement). x.special && list_any (λ (j : Joint). bytes_eq (word_bytes text j.comp) every_word) x.joints) d.nets ≡ true =
        has_any (λ (x : NetStatement). x.special && list_any (λ (j : Joint). bytes_eq (word_bytes text j.comp) every_word) x.joints) d.nets s.0 s.1
        (and_from s.0.special (list_any (λ (j : Joint). bytes_eq (word_bytes text j.comp) every_word) s.0.joints) special
        (has_any (λ (j : Joint). bytes_eq (word_bytes text j.comp) every_word) s.0.joints j.0 j.1 word)) in
        absurd (true≢false (sym some ∙ ap (list_any (λ (x : NetStatement). x.special && list_any (λ (j : Joint). bytes_eq (word_bytes text j.comp) every_word) x.joints)) (sym en) ∙ e)))
        (λ f. f)
        (cases_Bool (is_every p)))

-- a model that was seen is among them
or_false : (b : Bool) → b ≡ (b || false)
or_false true = refl
or_false false = refl

or_true : (b : Bool) → b ≡ true → b ≡ (b || true)
or_true true e = refl
or_true false e = e

pub seen_model : (models : List (Bor (List ℕ))) (model : Name) (test : Name → Bool) → list_any (λ m. bytes_eq m model) (map (λ m. m.now) models) ≡ true → list_any (λ m. test m.now) models ≡ (list_any (λ m. test m.now) models || test model)
seen_model models model test e = ⊎_elim
    (λ t. or_true (list_any (λ m. test m.now) models) (has_any (λ (m : Bor (List ℕ)). test m.now) models b.0 b.1 (ap test (b.2 ∙ same_name a.0 model a.2) ∙ t)) ∙ ap (λ c. list_any (λ m. test m.now) models || c) (sym t))
    (λ f. or_false (list_any (λ m. test m.now) models) ∙ ap (λ c. list_any (λ m. test m.now) models || c) (sym f))
    (cases_Bool (test model))
  where
    a : (m : Name) × Has (map (λ (m : Bor (List ℕ)). m.now) models) m × (bytes_eq m model ≡ true)
    a = any_has (λ m. bytes_eq m model) (map (λ (m : Bor (List ℕ)). m.now) models) e

    b : (m : Bor (List ℕ)) × Has models m × (m.now ≡ a.0)
    b = has_of_map (λ (m : Bor (List ℕ)). m.now) models a.0 a.1

-- ---- joints that name no component

all_flat : {A B : Type 0} (test : B → Bool) (f : A → List B) (xs : List A) → list_all test (flat_map f xs) ≡ list_all (λ x. list_all test (f x)) xs
all_flat test f [] = refl
all_flat test f (x ∷ xs) = list_all-append test (f x) (flat_map f xs) ∙ ap (λ b. list_all test (f x) && b) (all_flat test f xs)

all_mapped : {A B : Type 0} (test : B → Bool) (f : A → B) (xs : List A) → list_all test (map f xs) ≡ list_all (λ x. test (f x)) xs
all_mapped test f [] = refl
all_mapped test f (x ∷ xs) = ap (λ b. test (f x) && b) (all_mapped test f xs)

all_same : {A : Type 0} (t u : A → Bool) (xs : List A) → ((x : A) → t x ≡ u x) → list_all t xs ≡ list_all u xs
all_same t u xs e = let same : t ≡ u = λ i x. e x i in ap (λ test. list_all test xs) same

pub all_right_by : (text : List ℕ) (d : Design) (tops : ByName TopPin) (nets : List NetStatement) → nets ≡ d.nets → ((n : Name) → at_name tops n ≡ find (λ p. bytes_eq (word_bytes text p.name) n) d.pins) →
    list_all (λ s. list_all (λ j. right_by (λ n. option_map (named_pin text) (at_name tops n)) s.special (word_bytes text j.comp) (word_bytes text j.pin) (word_bytes text s.name)) s.joints) nets ≡ list_all (is_right (named text d)) (joints text d)
all_right_by text d tops nets en h =
    let test : (Name → Option NamedPin) → NetStatement → Joint → Bool = λ top s j. right_by top s.special (word_bytes text j.comp) (word_bytes text j.pin) (word_bytes text s.name) in
    let found : Name → Option NamedPin = λ n. find (λ t. bytes_eq t.name n) (named text d).pins in
    let one : (n : Name) → option_map (named_pin text) (at_name tops n) ≡ found n = λ n. ap (option_map (named_pin text)) (h n) ∙ top_named text d n in
    let same : (λ n. option_map (named_pin text) (at_name tops n)) ≡ found = λ i n. one n i in
    ap (λ (top : Name → Option NamedPin). list_all (λ s. list_all (test top s) s.joints) nets) same
    ∙ ap (list_all (λ s. list_all (test found s) s.joints)) en
    ∙ all_same (λ (s : NetStatement). list_all (test found s) s.joints) (λ s. list_all (is_right (named text d)) (joints_on text s)) d.nets (λ s. sym (all_mapped (is_right (named text d)) (joint_place text s) s.joints))
    ∙ sym (all_flat (is_right (named text d)) (joints_on text) d.nets)
