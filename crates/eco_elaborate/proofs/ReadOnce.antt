-- In a design that was read each component and each top pin is named once.
use Rattle.std.proofs.Common.{◌≡◌, ℕ, zero, suc, Bool, true, false, not, List, [], ◌∷◌, ◌++◌, map, slice_get, Option, Some, None, Result, Ok, Err, refl, sym, ap, ◌∙◌, subst, inl, inr, ⊎_elim, ◌⊎◌, if◌then◌else◌, true≢false, codes}
use Rattle.std.specs.Str.{bytes_eq}
use Rattle.std.specs.Option.{option_map}
use Rattle.std.proofs.lemmas.Option.{slice_get-map}
use Rattle.std.proofs.lemmas.List.{map_push}
use Rattle.eco_text.specs.Words.{Token, Walk, finished, open_quote, word_then, walk_of}
use Rattle.eco_def.specs.Design.{Comp, TopPin, Part, Passed, Units, Comps, Pins, Special, Nets, NetSection, Design}
use Rattle.eco_def.specs.declared.fault.DefFault.TheVariants.{BadStatement, TwiceNamed, UnknownHeading}
use Rattle.eco_def.specs.Parsing.{Parser, ◌>>=◌, then_read, give, refuse, begins, any, choose, word, name, new_name, valued, pass_to, pass_to_both, size, many_for, many, many_until}
use Rattle.eco_def.specs.Grammar.{CompKind, Kind, NetKind, PinClause, PinKind, SpecialKind, comp, comp_new_within, comp_new, comp_place, comp_section_within, comp_section, comps, comps_of, design_from, design_of, design_read, dir_in, end_design, have, last_some, net_in, net_section_within, net_section, nets, nets_of, once, or_none, part, part_new_within, part_new, parts_within, parts, parts_design, passed_section, passed_sections, passed_statements, pin_clauses, pin_on, pin_section_within, pin_section, pins_of, section_end, section_head, special_section_within, special_section, supply_in, top_pin, pin_named, top_pin_new_within, top_pin_new, units, units_number, units_of}
use Rattle.eco_text.specs.Tokens.{is_word, is_name, is_one_of}
use Rattle.eco_common.specs.NameBytes.{is_among}
use Rattle.eco_common.specs.Options.{first_some}
use Rattle.eco_def.specs.Named.{comp_names, pin_names}
use Rattle.eco_net.specs.Listing.{AreDistinctNames}
use Rattle.eco_net.proofs.Places.{apart_nil, apart_push}
use Rattle.eco_net.proofs.Basics.{Has, has_from_contains, has_of_map, same_Some, not_None}
use Rattle.eco_elaborate.specs.Laws.{ReadOnce}
use Rattle.eco_elaborate.proofs.Names.{is_name as names_same}
use Rattle.eco_elaborate.proofs.Members.{has_of_append, has_any}

-- ---- what readings give

-- each value that is read has the property
abbrev Gives : {A : Type 0} → (A → Type 0) → Parser A → Type 0
Gives {A} Q p = (u : Walk) (x : A) (r : Walk) → p u ≡ Ok (x, r) → Q x

answer : {A E : Type 0} (o : Result A E) → ((x : A) × (o ≡ Ok x)) ⊎ ((e : E) × (o ≡ Err e))
answer (Ok x) = inl (x, refl)
answer (Err e) = inr (e, refl)

same_Ok : {A E : Type 0} {x y : A} → ◌≡◌ {A = Result A E} (Ok x) (Ok y) → x ≡ y
same_Ok e = cc

not_Err : {A E : Type 0} {x : A} {e : E} → ◌≡◌ {A = Result A E} (Err e) (Ok x) → ⊥
not_Err e = cc

gives_then : {A B : Type 0} (P : A → Type 0) (Q : B → Type 0) (p : Parser A) (f : A → Parser B) → Gives P p → ((x : A) → P x → Gives Q (f x)) → Gives Q (p >>= f)
gives_then P Q p f g h u y r e = elim (answer (p u)) [
  | inl o ↦ h o.0.0 (g u o.0.0 o.0.1 o.1) o.0.1 y r (sym (ap (λ o. then_read o f) o.1) ∙ e)
  | inr o ↦ absurd (not_Err (sym (ap (λ o. then_read o f) o.1) ∙ e))
]

gives_all : {A : Type 0} (p : Parser A) → Gives (λ x. Unit {0}) p
gives_all p u x r e = tt

gives_give : {A : Type 0} (Q : A → Type 0) (x : A) → Q x → Gives Q (give x)
gives_give Q x q u y r e = subst Q (ap (λ z. z.0) (same_Ok e)) q

gives_none : {A : Type 0} (Q : A → Type 0) (u : Walk) (fault : _) (x : A) (r : Walk) → refuse {A = A} fault u ≡ Ok (x, r) → ⊥
gives_none Q (finished place) fault x r e = not_Err e
gives_none Q (open_quote place) fault x r e = not_Err e
gives_none Q (word_then w u) fault x r e = not_Err e

gives_choose : {A : Type 0} (Q : A → Type 0) (test : Token → Bool) (p q : Parser A) → Gives Q p → Gives Q q → Gives Q (choose test p q)
gives_choose Q test p q g h u x r e = go (begins test u) e
  where
    go : (b : Bool) → (if b then p u else q u) ≡ Ok (x, r) → Q x
    go true f = g u x r f
    go false f = h u x r f

-- a name that isn't known yet
gives_new : (known : List ℕ → Bool) → Gives (λ w. known w.bytes ≡ false) (new_name known)
gives_new known (finished place) x r e = absurd (not_Err e)
gives_new known (open_quote place) x r e = absurd (not_Err e)
gives_new known (word_then w u) x r e = go (is_name w) e
  where
    named : (b : Bool) → known w.bytes ≡ b → (if b then refuse TwiceNamed (word_then w u) else any (word_then w u)) ≡ Ok (x, r) → known x.bytes ≡ false
    named true k f = absurd (not_Err f)
    named false k f = ap (λ z. known z.bytes) (sym (ap (λ z. z.0) (same_Ok f))) ∙ k

    go : (b : Bool) → (if b then choose (λ w. known w.bytes) (refuse TwiceNamed) any (word_then w u) else refuse BadStatement (word_then w u)) ≡ Ok (x, r) → known x.bytes ≡ false
    go true f = named (known w.bytes) refl f
    go false f = absurd (not_Err f)

-- ---- values one after another

-- no key stands twice
abbrev pub OneEach : {A : Type 0} → (A → List ℕ) → List A → Type 0
OneEach {A} key xs = AreDistinctNames (map key xs)

has_placed : {A : Type 0} (xs : List A) (i : ℕ) (x : A) → slice_get xs i ≡ Some x → Has xs x
has_placed [] i x e = absurd (not_None (sym e))
has_placed (y ∷ ys) zero x e = inl (same_Some e)
has_placed (y ∷ ys) (suc i) x e = inr (has_placed ys i x e)

placed_has : {A : Type 0} (xs : List A) (x : A) → Has xs x → (i : ℕ) × (slice_get xs i ≡ Some x)
placed_has [] x h = absurd h
placed_has (y ∷ ys) x (inl e) = (0, ap Some e)
placed_has (y ∷ ys) x (inr h) = let r = placed_has ys x h in (suc r.0, r.1)

one_more : {A : Type 0} (key : A → List ℕ) (xs : List A) (x : A) → OneEach key xs → is_among (map key xs) (key x) ≡ false → OneEach key (xs ++ x ∷ [])
one_more key xs x one new = subst AreDistinctNames (sym (map_push key xs x)) (apart_push (map key xs) (key x) one (λ i e.
    true≢false (sym (has_any (λ n. bytes_eq n (key x)) (map key xs) (key x) (has_placed (map key xs) i (key x) e) (names_same (key x) (key x) refl)) ∙ new)))

gives_many : {A : Type 0} (key : A → List ℕ) (goes : Token → Bool) (item : List A → Parser A) → ((xs : List A) → Gives (λ x. is_among (map key xs) (key x) ≡ false) (item xs)) →
    (n : ℕ) (front : List A) → OneEach key front → Gives (OneEach key) (many_for n goes item front)
gives_many key goes item each zero front one u x r e = absurd (gives_none (OneEach key) u BadStatement x r e)
gives_many {A = A} key goes item each (suc n) front one u xs r e = go (begins goes u) (λ x new. gives_many key goes item each n (front ++ x ∷ []) (one_more key front x one new)) e
  where
    go : (b : Bool) → ((x : A) → is_among (map key front) (key x) ≡ false → Gives (OneEach key) (many_for n goes item (front ++ x ∷ []))) →
        (if b then then_read (item front u) (λ x. many_for n goes item (front ++ x ∷ [])) else Ok (front, u)) ≡ Ok (xs, r) → OneEach key xs
    go true more f = gives_then (λ x. is_among (map key front) (key x) ≡ false) (OneEach key) (item front) (λ x. many_for n goes item (front ++ x ∷ [])) (each front) more u xs r f
    go false more f = subst (OneEach key) (ap (λ z. z.0) (same_Ok f)) one

-- each value has the property
gives_every : {A : Type 0} (P : A → Type 0) (goes : Token → Bool) (item : List A → Parser A) → ((xs : List A) → Gives P (item xs)) →
    (n : ℕ) (front : List A) → ((x : A) → Has front x → P x) → Gives (λ xs. (x : A) → Has xs x → P x) (many_for n goes item front)
gives_every P goes item each zero front all u x r e = absurd (gives_none (λ xs. Unit {0}) u BadStatement x r e)
gives_every {A = A} P goes item each (suc n) front all u xs r e = go (begins goes u) (λ x p. gives_every P goes item each n (front ++ x ∷ []) (more x p)) e
  where
    more : (x : A) → P x → (y : A) → Has (front ++ x ∷ []) y → P y
    more x p y h = ⊎_elim (λ i. all y i) (λ i. ⊎_elim (λ s. subst P s p) (λ z. absurd z) i) (has_of_append front (x ∷ []) y h)

    go : (b : Bool) → ((x : A) → P x → Gives (λ xs. (x : A) → Has xs x → P x) (many_for n goes item (front ++ x ∷ []))) →
        (if b then then_read (item front u) (λ x. many_for n goes item (front ++ x ∷ [])) else Ok (front, u)) ≡ Ok (xs, r) → (x : A) → Has xs x → P x
    go true further f = gives_then P (λ xs. (x : A) → Has xs x → P x) (item front) (λ x. many_for n goes item (front ++ x ∷ [])) (each front) further u xs r f
    go false further f = subst (λ ys. (x : A) → Has ys x → P x) (ap (λ z. z.0) (same_Ok f)) all

-- ---- components and top pins

abbrev comp_key : Comp → List ℕ
comp_key c = c.name.bytes

abbrev pin_key : TopPin → List ℕ
pin_key p = p.name.bytes

abbrev NewComp : (List ℕ → Bool) → Comp → Type 0
NewComp known c = known c.name.bytes ≡ false

abbrev NewPin : (List ℕ → Bool) → TopPin → Type 0
NewPin known p = known p.name.bytes ≡ false

gives_comp : (known : List ℕ → Bool) → Gives (NewComp known) (comp_new known)
unfolding comp_new_within
gives_comp known =
    gives_then (λ w. Unit {0}) (NewComp known) (word (codes "-")) _ (gives_all (word (codes "-"))) (λ dash t.
    gives_then (λ w. known w.bytes ≡ false) (NewComp known) (new_name known) _ (gives_new known) (λ n new.
    gives_then (λ w. Unit {0}) (NewComp known) name _ (gives_all name) (λ model t.
    gives_then (λ w. Unit {0}) (NewComp known) comp_place _ (gives_all comp_place) (λ at t.
    gives_then (λ w. Unit {0}) (NewComp known) (word (codes ";")) _ (gives_all (word (codes ";"))) (λ end t. gives_give (NewComp known) (record { name = n; model = model; place = at }) new)))))

pin_gives : (known : List ℕ → Bool) (n : Token) (clauses : List PinClause) (net : Option Token) → known n.bytes ≡ false → Gives (NewPin known) (pin_on n clauses net)
pin_gives known n clauses None new = λ u x r e. absurd (gives_none (λ p. Unit {0}) u BadStatement x r e)
pin_gives known n clauses (Some net) new = gives_give (NewPin known) (record { name = n; net = net; dir = dir_in clauses; supply = supply_in clauses }) new

gives_pin : (known : List ℕ → Bool) → Gives (NewPin known) (top_pin_new known)
unfolding top_pin_new_within pin_named
gives_pin known =
    gives_then (λ w. Unit {0}) (NewPin known) (word (codes "-")) _ (gives_all (word (codes "-"))) (λ dash t.
    gives_then (λ w. known w.bytes ≡ false) (NewPin known) (new_name known) _ (gives_new known) (λ n new.
    gives_then (NewPin known) (NewPin known) (pin_named n) _ (gives_then (λ w. Unit {0}) (NewPin known) pin_clauses _ (gives_all pin_clauses) (λ clauses t. pin_gives known n clauses (net_in clauses) new)) (λ pin is.
    gives_then (λ w. Unit {0}) (NewPin known) (word (codes ";")) _ (gives_all (word (codes ";"))) (λ end t. gives_give (NewPin known) pin is))))

-- ---- parts

-- the names of a section stand once
abbrev IsOnce : Part → Type 0
IsOnce Passed = Unit {0}
IsOnce (Units n) = Unit {0}
IsOnce (Comps cs) = OneEach comp_key cs
IsOnce (Pins ps) = OneEach pin_key ps
IsOnce (Special ss) = Unit {0}
IsOnce (Nets s) = Unit {0}

none_yet : {A : Type 0} (key : A → List ℕ) → OneEach key []
none_yet key = apart_nil

gives_comps : Gives IsOnce comp_section
unfolding comp_section_within
gives_comps =
    gives_then (λ w. Unit {0}) IsOnce (section_head (codes "COMPONENTS")) _ (gives_all (section_head (codes "COMPONENTS"))) (λ count t.
    gives_then (OneEach comp_key) IsOnce comps _ (λ u. gives_many comp_key (is_word (codes "-")) comp (λ xs. gives_comp (is_among (map comp_key xs))) (suc (size u)) [] (none_yet comp_key) u) (λ cs one.
    gives_then (λ w. Unit {0}) IsOnce (section_end (codes "COMPONENTS")) _ (gives_all (section_end (codes "COMPONENTS"))) (λ end t. gives_give IsOnce (Comps cs) one)))

gives_pins : Gives IsOnce pin_section
unfolding pin_section_within
gives_pins =
    gives_then (λ w. Unit {0}) IsOnce (section_head (codes "PINS")) _ (gives_all (section_head (codes "PINS"))) (λ count t.
    gives_then (OneEach pin_key) IsOnce (many (is_word (codes "-")) top_pin) _ (λ u. gives_many pin_key (is_word (codes "-")) top_pin (λ xs. gives_pin (is_among (map pin_key xs))) (suc (size u)) [] (none_yet pin_key) u) (λ ps one.
    gives_then (λ w. Unit {0}) IsOnce (section_end (codes "PINS")) _ (gives_all (section_end (codes "PINS"))) (λ end t. gives_give IsOnce (Pins ps) one)))

gives_units : Gives IsOnce units
unfolding units
gives_units =
    gives_then (λ w. Unit {0}) IsOnce (word (codes "UNITS")) _ (gives_all (word (codes "UNITS"))) (λ heading t.
    gives_then (λ w. Unit {0}) IsOnce (word (codes "DISTANCE")) _ (gives_all (word (codes "DISTANCE"))) (λ distance t.
    gives_then (λ w. Unit {0}) IsOnce (word (codes "MICRONS")) _ (gives_all (word (codes "MICRONS"))) (λ microns t.
    gives_then (λ w. Unit {0}) IsOnce (valued units_number) _ (gives_all (valued units_number)) (λ n t.
    gives_then (λ w. Unit {0}) IsOnce (word (codes ";")) _ (gives_all (word (codes ";"))) (λ end t. gives_give IsOnce (Units n) tt)))))

gives_special : Gives IsOnce special_section
unfolding special_section_within
gives_special =
    gives_then (λ w. Unit {0}) IsOnce (section_head (codes "SPECIALNETS")) _ (gives_all (section_head (codes "SPECIALNETS"))) (λ count t.
    gives_then (λ w. Unit {0}) IsOnce nets _ (gives_all nets) (λ ns t.
    gives_then (λ w. Unit {0}) IsOnce (section_end (codes "SPECIALNETS")) _ (gives_all (section_end (codes "SPECIALNETS"))) (λ end t. gives_give IsOnce (Special ns) tt)))

gives_nets : Gives IsOnce net_section
unfolding net_section_within
gives_nets =
    gives_then (λ w. Unit {0}) IsOnce (section_head (codes "NETS")) _ (gives_all (section_head (codes "NETS"))) (λ count t.
    gives_then (λ w. Unit {0}) IsOnce nets _ (gives_all nets) (λ ns t.
    gives_then (λ w. Unit {0}) IsOnce (section_end (codes "NETS")) _ (gives_all (section_end (codes "NETS"))) (λ end t. gives_give IsOnce (Nets (record { count = count; nets = ns; end = end })) tt)))

gives_passed : (p : Parser Token) → Gives IsOnce (p >>= λ end. give Passed)
gives_passed p = gives_then (λ w. Unit {0}) IsOnce p _ (gives_all p) (λ end t. gives_give IsOnce Passed tt)

gives_passed_section : Gives IsOnce passed_section
unfolding passed_section
gives_passed_section = gives_then (λ w. Unit {0}) IsOnce any _ (gives_all any) (λ heading t. gives_passed (pass_to_both (is_word (codes "END")) (is_word heading.bytes)))

gives_once : (seen : Kind → Bool) (kind : Kind) (section : Parser Part) → Gives IsOnce section → Gives IsOnce (once seen kind section)
gives_once seen kind section g u x r e = go (seen kind) e
  where
    go : (b : Bool) → (if b then refuse TwiceNamed u else section u) ≡ Ok (x, r) → IsOnce x
    go true f = absurd (gives_none IsOnce u TwiceNamed x r f)
    go false f = g u x r f

gives_part : (seen : Kind → Bool) → Gives IsOnce (part_new seen)
unfolding part_new_within
gives_part seen =
    gives_choose IsOnce (is_word (codes "UNITS")) units _ gives_units
    (gives_choose IsOnce (is_word (codes "COMPONENTS")) _ _ (gives_once seen CompKind comp_section gives_comps)
    (gives_choose IsOnce (is_word (codes "PINS")) _ _ (gives_once seen PinKind pin_section gives_pins)
    (gives_choose IsOnce (is_word (codes "SPECIALNETS")) _ _ (gives_once seen SpecialKind special_section gives_special)
    (gives_choose IsOnce (is_word (codes "NETS")) _ _ (gives_once seen NetKind net_section gives_nets)
    (gives_choose IsOnce (is_one_of passed_sections) _ _ gives_passed_section
    (gives_choose IsOnce (is_one_of passed_statements) _ _ (gives_passed (pass_to (is_word (codes ";"))))
    (gives_choose IsOnce (is_word (codes "BEGINEXT")) _ _ (gives_passed (pass_to (is_word (codes "ENDEXT")))) (λ u x r e. absurd (gives_none IsOnce u UnknownHeading x r e)))))))))

abbrev EachOnce : List Part → Type 0
EachOnce ps = (p : Part) → Has ps p → IsOnce p

gives_parts : Gives EachOnce parts
unfolding parts_within
gives_parts =
    gives_then EachOnce EachOnce (many_until (is_word (codes "END")) part) _
    (λ u. gives_every IsOnce (λ w. not (is_word (codes "END") w)) part (λ xs. gives_part (have xs)) (suc (size u)) [] (λ x h. absurd h) u)
    (λ ps each. gives_then (λ w. Unit {0}) EachOnce end_design _ (gives_all end_design) (λ end t. gives_give EachOnce ps each))

-- ---- the design

-- the first value there is, is some part's
first_of : {A : Type 0} (f : Part → Option A) (ps : List Part) (x : A) → first_some (map f ps) ≡ Some x → (p : Part) × Has ps p × (f p ≡ Some x)
first_of f [] x e = absurd (not_None (sym e))
first_of {A = A} f (p ∷ ps) x e = go (f p) refl (λ g. first_of f ps x g) e
  where
    go : (o : Option A) → f p ≡ o → (first_some (map f ps) ≡ Some x → (q : Part) × Has ps q × (f q ≡ Some x)) → first_some (o ∷ map f ps) ≡ Some x → (q : Part) × Has (p ∷ ps) q × (f q ≡ Some x)
    go None is rest g = let r = rest g in (r.0, inr r.1, r.2)
    go (Some y) is rest g = (p, inl refl, is ∙ g)

once_comps : (p : Part) (cs : List Comp) → IsOnce p → comps_of p ≡ Some cs → OneEach comp_key cs
once_comps Passed cs one e = absurd (not_None (sym e))
once_comps (Units n) cs one e = absurd (not_None (sym e))
once_comps (Comps ds) cs one e = subst (OneEach comp_key) (same_Some e) one
once_comps (Pins ps) cs one e = absurd (not_None (sym e))
once_comps (Special ss) cs one e = absurd (not_None (sym e))
once_comps (Nets s) cs one e = absurd (not_None (sym e))

once_pins : (p : Part) (qs : List TopPin) → IsOnce p → pins_of p ≡ Some qs → OneEach pin_key qs
once_pins Passed qs one e = absurd (not_None (sym e))
once_pins (Units n) qs one e = absurd (not_None (sym e))
once_pins (Comps ds) qs one e = absurd (not_None (sym e))
once_pins (Pins ps) qs one e = subst (OneEach pin_key) (same_Some e) one
once_pins (Special ss) qs one e = absurd (not_None (sym e))
once_pins (Nets s) qs one e = absurd (not_None (sym e))

pins_once : (o : Option (List TopPin)) → ((qs : List TopPin) → o ≡ Some qs → OneEach pin_key qs) → OneEach pin_key (or_none o)
pins_once None each = none_yet pin_key
pins_once (Some qs) each = each qs refl

abbrev Once : Design → Type 0
Once d = OneEach comp_key d.comps × OneEach pin_key d.pins

from_parts : (ps : List Part) → EachOnce ps → (d : Design) → parts_design ps ≡ Ok d → Once d
from_parts ps each d e = go (last_some (map units_of ps)) (first_some (map comps_of ps)) refl (first_some (map nets_of ps)) e
  where
    go : (u : Option ℕ) (cs : Option (List Comp)) → first_some (map comps_of ps) ≡ cs → (ns : Option NetSection) → design_from ps u cs ns ≡ Ok d → Once d
    go None cs is ns f = absurd (not_Err f)
    go (Some n) None is ns f = absurd (not_Err f)
    go (Some n) (Some cs) is None f = absurd (not_Err f)
    go (Some n) (Some cs) is (Some s) f =
        let c = first_of comps_of ps cs is in
        let pins = pins_once (first_some (map pins_of ps)) (λ qs g. let p = first_of pins_of ps qs g in once_pins p.0 qs (each p.0 p.1) p.2) in
        subst Once (same_Ok f) (once_comps c.0 cs (each c.0 c.1) c.2, pins)

design_once : (text : List ℕ) (d : Design) → design_of text ≡ Ok d → Once d
design_once text d e = elim (answer (parts (walk_of text))) [
  | inl o ↦ from_parts o.0.0 (gives_parts (walk_of text) o.0.0 o.0.1 o.1) d (sym (ap design_read o.1) ∙ e)
  | inr o ↦ absurd (not_Err (sym (ap design_read o.1) ∙ e))
]

-- no component is named twice, and no top pin is
pub comps_apart : (text : List ℕ) (d : Design) → design_of text ≡ Ok d → AreDistinctNames (map (λ c. c.name.bytes) d.comps)
comps_apart text d e = (design_once text d e).0

pub pins_apart : (text : List ℕ) (d : Design) → design_of text ≡ Ok d → AreDistinctNames (map (λ p. p.name.bytes) d.pins)
pins_apart text d e = (design_once text d e).1

-- by names
named_once : {A B : Type 0} (f : A → B) (key : A → List ℕ) (name : B → List ℕ) → ((x : A) → name (f x) ≡ key x) → (xs : List A) → OneEach key xs → (a b : B) → Has (map f xs) a → Has (map f xs) b → name a ≡ name b → a ≡ b
named_once {A = A} f key name is xs one a b h i e =
    let x = has_of_map f xs a h in
    let y = has_of_map f xs b i in
    let k = placed_has xs x.0 x.1 in
    let l = placed_has xs y.0 y.1 in
    let same_key : key x.0 ≡ key y.0 = sym (is x.0) ∙ ap name x.2 ∙ e ∙ ap name (sym y.2) ∙ is y.0 in
    let same : k.0 ≡ l.0 = one k.0 l.0 (key y.0) (keyed k.0 x.0 k.1 ∙ ap Some same_key) (keyed l.0 y.0 l.1) in
    sym x.2 ∙ ap f (same_Some (sym k.1 ∙ ap (slice_get xs) same ∙ l.1)) ∙ y.2
  where
    keyed : (i : ℕ) (x : A) → slice_get xs i ≡ Some x → slice_get (map key xs) i ≡ Some (key x)
    keyed i x e = slice_get-map key xs i ∙ ap (option_map key) e

pub read_once : ReadOnce
read_once text d e =
    let once = design_once text d e in
    record {
      comps = λ a b h i s. named_once comp_names comp_key (λ c. c.name) (λ c. refl) d.comps once.0 a b (has_from_contains (map comp_names d.comps) a h) (has_from_contains (map comp_names d.comps) b i) s;
      tops = λ p q h i s. named_once pin_names pin_key (λ p. p.name) (λ p. refl) d.pins once.1 p q (has_from_contains (map pin_names d.pins) p h) (has_from_contains (map pin_names d.pins) q i) s;
    }
