-- Components' names and the nets of top pins are names, and units and places are bounded.
use Rattle.std.proofs.Common.{◌≡◌, ℕ, ◌≤◌, ◌==◌, ◌^◌, ◌-◌, nat_le, ℤ, pos, neg_ℤ, Bool, true, false, not, List, [], ◌∷◌, map, Ok, Option, Some, None, IfSome, option_and_then, refl, ap, sym, ◌∙◌, subst, if◌then◌else◌, codes, arith}
use Rattle.std.proofs.lemmas.Bool.Decides.{nat_tests}
use Rattle.std.proofs.lemmas.Int.{ints}
use Rattle.std.specs.List.{AllByRecursion}
use Rattle.std.specs.Option.{option_or}
use Rattle.eco_common.specs.declared.limits.TheConstants.{MAX_UNITS}
use Rattle.eco_text.specs.Numbers.{at_most, natural_of, number_of, integer_of}
use Rattle.eco_text.specs.Words.{Token, Walk, between, walk_of}
use Rattle.eco_def.specs.declared.place.Place.{Place}
use Rattle.eco_def.specs.Parsing.{Parser, refuse, begins, any, choose, new_name, valued, valued_as, bytes_ahead}
use Rattle.eco_text.specs.Tokens.{is_word, is_name, is_one_of}
use Rattle.eco_common.specs.Options.{first_some}
use Rattle.eco_def.specs.Design.{Comp, TopPin, Part, Passed, Units, Comps, Pins, Special, Nets}
use Rattle.eco_def.specs.Grammar.{orient_of, place, some_place, comp_clause, comp_place, units_of, last_some, comp_new_within, comp_new, comp, dir_of, PinClause, OnNet, Directed, Used, Other, pin_net, pin_dir, pin_use, pin_clause, pin_clauses, net_in, pin_on, pin_named, top_pin_new_within, top_pin_new, top_pin, units_number, units, comp_section_within, comp_section, pin_section_within, pin_section, special_section_within, special_section, net_section_within, net_section, passed_section, passed_up_to, passed_sections, passed_statements, Kind, CompKind, PinKind, SpecialKind, NetKind, have, once, part_new_within, part_new, part, parts_within, parts, comps_of, pins_of, or_none}
use Rattle.eco_issued_laws.specs.Bounds.{IsCoordinate, HasCoordinates}
use Rattle.eco_issued_laws.proofs.Allowed.{IsName}
use Rattle.eco_issued_laws.proofs.Faults.{bad_statement, twice_named, unknown_heading}
use Rattle.eco_issued_laws.proofs.Rules.{tests_word, keeps_word, keeps_valued, keeps_new_name}
use Rattle.eco_issued_laws.proofs.Pieces.{AllGood, good}
use Rattle.eco_issued_laws.proofs.Ending.{chosen, refused, any_is}
use Rattle.eco_issued_laws.proofs.Making.{name_of, Makes, makes_keeps, makes_give, makes_refuse, makes_any, makes_name, makes_choose, makes_then, makes_many}
use Rattle.eco_issued_laws.proofs.Passing.{keeps_head, keeps_end, keeps_pass_to, keeps_pass_to_both}
use Rattle.eco_issued_laws.proofs.Statements.{UseOk}
use Rattle.eco_issued_laws.proofs.Whole.{keeps_nets, keeps_end_design}

-- ---- a component

abbrev pub CompOk : Comp → Type 0
CompOk c = IsName c.name.bytes × HasCoordinates c.place

-- a value of a word
valued_ok : {A : Type 0} (C : A → Type 0) (f : List ℕ → Option A) → ((w : List ℕ) (x : A) → f w ≡ Some x → C x) → Makes C (valued f)
valued_ok {A} C f each u x r g e = go (f (bytes_ahead u)) refl e
  where
    go : (o : Option A) → f (bytes_ahead u) ≡ o → valued_as o u ≡ Ok (x, r) → C x × AllGood r
    go None is e = absurd (refused bad_statement u x r e)
    go (Some y) is e = makes_then makes_any (λ w t. makes_give C {x = y} (each (bytes_ahead u) y is)) u x r g e

le_of : (a b : ℕ) → nat_le a b ≡ true → a ≤ b
le_of a b t = grind (arith, nat_tests)

at_most_ok : (C : ℕ → Type 0) (limit : ℕ) → ((n : ℕ) → n ≤ limit → C n) → (o : Option ℕ) (n : ℕ) → at_most limit o ≡ Some n → C n
at_most_ok C limit each None n e = absurd (cc)
at_most_ok C limit each (Some k) n e = go (nat_le k limit) refl e
  where
    go : (b : Bool) → nat_le k limit ≡ b → (if b then Some k else None) ≡ Some n → C n
    go true is e = let same : k ≡ n = cc in subst C same (each k (le_of k limit is))
    go false is e = absurd (cc)

signed_ok : (sign : ℕ → ℤ) (limit : ℕ) → ((n : ℕ) → n ≤ limit → IsCoordinate (sign n)) → (o : Option ℕ) (z : ℤ) → option_and_then (λ n. Some (sign n)) (at_most limit o) ≡ Some z → IsCoordinate z
signed_ok sign limit each o z e = go (at_most limit o) refl e
  where
    go : (m : Option ℕ) → at_most limit o ≡ m → option_and_then (λ n. Some (sign n)) m ≡ Some z → IsCoordinate z
    go None is e = absurd (cc)
    go (Some n) is e = let same : sign n ≡ z = cc in subst IsCoordinate same (at_most_ok (λ k. IsCoordinate (sign k)) limit each o n is)

integer_ok : (w : List ℕ) (z : ℤ) → integer_of w ≡ Some z → IsCoordinate z
integer_ok [] z e = absurd (cc)
integer_ok (c ∷ cs) z e = go (c == 45) e
  where
    go : (b : Bool) →
        (if b then option_and_then (λ n. Some (neg_ℤ (pos n))) (at_most (2 ^ 31) (natural_of cs)) else option_and_then (λ n. Some (pos n)) (at_most (2 ^ 31 - 1) (natural_of (c ∷ cs)))) ≡ Some z → IsCoordinate z
    go true e = signed_ok (λ n. neg_ℤ (pos n)) (2 ^ 31) (λ n le. (omega (arith, ints), omega (arith, ints))) (natural_of cs) z e
    go false e = signed_ok (λ n. pos n) (2 ^ 31 - 1) (λ n le. (omega (arith, ints), omega (arith, ints))) (natural_of (c ∷ cs)) z e

abbrev PlaceOk : Place → Type 0
PlaceOk p = IsCoordinate p.point.x × IsCoordinate p.point.y

place_ok : Makes PlaceOk place
unfolding place
place_ok =
    makes_then (makes_keeps (keeps_word (codes "("))) (λ o t.
    makes_then (valued_ok IsCoordinate integer_of integer_ok) (λ x first.
    makes_then (valued_ok IsCoordinate integer_of integer_ok) (λ y second.
    makes_then (makes_keeps (keeps_word (codes ")"))) (λ c t.
    makes_then (makes_keeps (keeps_valued orient_of)) (λ orient t. makes_give PlaceOk {x = record { point = record { x = x; y = y }; orient = orient }} (first, second))))))

comp_clause_ok : Makes HasCoordinates comp_clause
unfolding comp_clause some_place
comp_clause_ok =
    makes_choose (is_word (codes "+"))
    (makes_then makes_any (λ plus t. makes_choose (is_one_of (codes "PLACED" ∷ codes "FIXED" ∷ codes "COVER" ∷ []))
    (makes_then makes_any (λ kind t. makes_then place_ok (λ p ok. makes_give HasCoordinates {x = Some p} ok))) (makes_give HasCoordinates {x = None} tt)))
    (makes_then makes_any (λ other t. makes_give HasCoordinates {x = None} tt))

first_ok : (ps : List (Option Place)) → AllByRecursion HasCoordinates ps → HasCoordinates (first_some ps)
first_ok [] all = tt
first_ok (None ∷ ps) all = first_ok ps all.1
first_ok (Some p ∷ ps) all = all.0

comp_place_ok : Makes HasCoordinates comp_place
unfolding comp_place
comp_place_ok = makes_then (makes_many HasCoordinates (λ w. not (is_word (codes ";") w)) (λ before. comp_clause) (λ xs. comp_clause_ok)) (λ ps all. makes_give HasCoordinates {x = first_some ps} (first_ok ps all))

new_name_ok : (known : List ℕ → Bool) → Makes (λ w. IsName w.bytes) (new_name known)
new_name_ok known u x r g e =
    chosen is_name (choose (λ w. known w.bytes) (refuse twice_named) any) (refuse bad_statement) u x r e (IsName x.bytes × AllGood r)
    (λ i e. chosen (λ w. known w.bytes) (refuse twice_named) any u x r e (IsName x.bytes × AllGood r)
    (λ j e. absurd (refused twice_named u x r e))
    (λ j e. let is = any_is u x r e in (name_of x u r g is (ap (begins is_name) (sym is) ∙ i), (subst (λ k. AllGood k) is g).1)))
    (λ i e. absurd (refused bad_statement u x r e))

comp_ok : (known : List ℕ → Bool) → Makes CompOk (comp_new known)
unfolding comp_new_within
comp_ok known =
    makes_then (makes_keeps (keeps_word (codes "-"))) (λ d t.
    makes_then (new_name_ok known) (λ n ok.
    makes_then makes_name (λ m t.
    makes_then comp_place_ok (λ p placed.
    makes_then (makes_keeps (keeps_word (codes ";"))) (λ e t. makes_give CompOk (ok, placed))))))

-- ---- a pin

abbrev ClauseOk : PinClause → Type 0
ClauseOk (OnNet n) = IsName n.bytes
ClauseOk _ = Unit {0}

clause_ok : Makes ClauseOk pin_clause
unfolding pin_clause pin_net pin_dir pin_use
clause_ok =
    makes_choose (is_word (codes "+"))
    (makes_then makes_any (λ p t.
    makes_choose (is_word (codes "NET")) (makes_then makes_any (λ k t. makes_then makes_name (λ n ok. makes_give ClauseOk {x = OnNet n} ok)))
    (makes_choose (is_word (codes "DIRECTION")) (makes_then makes_any (λ k t. makes_then (makes_keeps (keeps_valued dir_of)) (λ d t. makes_give ClauseOk {x = Directed d} tt)))
    (makes_choose (is_word (codes "USE"))
    (makes_then makes_any (λ k t. makes_choose (is_one_of (codes "POWER" ∷ codes "GROUND" ∷ [])) (makes_then makes_any (λ w t. makes_give ClauseOk {x = Used true} tt)) (makes_give ClauseOk {x = Used false} tt)))
    (makes_give ClauseOk {x = Other} tt)))))
    (makes_then makes_any (λ o t. makes_give ClauseOk {x = Other} tt))

net_ok : (cs : List PinClause) → AllByRecursion ClauseOk cs → UseOk (net_in cs)
net_ok [] all = tt
net_ok (OnNet n ∷ cs) all = all.0
net_ok (Directed d ∷ cs) all = net_ok cs all.1
net_ok (Used b ∷ cs) all = net_ok cs all.1
net_ok (Other ∷ cs) all = net_ok cs all.1

clauses_ok : Makes (AllByRecursion ClauseOk) pin_clauses
unfolding pin_clauses
clauses_ok =
    makes_choose (is_one_of (codes "+" ∷ codes ";" ∷ [])) (makes_many ClauseOk (λ w. not (is_word (codes ";") w)) (λ before. pin_clause) (λ xs. clause_ok)) (makes_refuse (AllByRecursion ClauseOk) bad_statement)

abbrev pub PinOk : TopPin → Type 0
PinOk p = IsName p.net.bytes

on_ok : (n : Token) (cs : List PinClause) (o : Option Token) → UseOk o → Makes PinOk (pin_on n cs o)
on_ok n cs None ok = makes_refuse PinOk bad_statement
on_ok n cs (Some net) ok = makes_give PinOk ok

pin_ok : (known : List ℕ → Bool) → Makes PinOk (top_pin_new known)
unfolding top_pin_new_within pin_named
pin_ok known =
    makes_then (makes_keeps (keeps_word (codes "-"))) (λ d t.
    makes_then (makes_keeps (keeps_new_name known known refl)) (λ n t.
    makes_then (makes_then clauses_ok (λ cs all. on_ok n cs (net_in cs) (net_ok cs all))) (λ p ok.
    makes_then (makes_keeps (keeps_word (codes ";"))) (λ e t. makes_give PinOk ok))))

-- ---- a part

abbrev pub PartOk : Part → Type 0
PartOk (Comps cs) = AllByRecursion CompOk cs
PartOk (Pins ps) = AllByRecursion PinOk ps
PartOk (Units n) = n ≤ MAX_UNITS
PartOk _ = Unit {0}

units_number_ok : (w : List ℕ) (n : ℕ) → units_number w ≡ Some n → n ≤ MAX_UNITS
units_number_ok w n e = go (at_most 1000000 (number_of w)) refl e
  where
    go : (m : Option ℕ) → at_most 1000000 (number_of w) ≡ m → option_and_then (λ k. if nat_le 1 k then Some k else None) m ≡ Some n → n ≤ MAX_UNITS
    go None is e = absurd (cc)
    go (Some k) is e = inner (nat_le 1 k) e
      where
        inner : (b : Bool) → (if b then Some k else None) ≡ Some n → n ≤ MAX_UNITS
        inner true e = let same : k ≡ n = cc in subst (λ j. j ≤ MAX_UNITS) same (at_most_ok (λ j. j ≤ MAX_UNITS) 1000000 (λ j le. le) (number_of w) k is)
        inner false e = absurd (cc)

pins_ok : Makes PartOk pin_section
unfolding pin_section_within
pins_ok =
    makes_then (makes_keeps (keeps_head (codes "PINS"))) (λ c t.
    makes_then (makes_many PinOk (is_word (codes "-")) top_pin (λ xs. pin_ok _)) (λ ps all.
    makes_then (makes_keeps (keeps_end (codes "PINS"))) (λ e t. makes_give PartOk {x = Pins ps} all)))

units_ok : Makes PartOk units
unfolding units
units_ok =
    makes_then (makes_keeps (keeps_word (codes "UNITS"))) (λ a t. makes_then (makes_keeps (keeps_word (codes "DISTANCE"))) (λ a t. makes_then (makes_keeps (keeps_word (codes "MICRONS"))) (λ a t.
    makes_then (valued_ok (λ n. n ≤ MAX_UNITS) units_number units_number_ok) (λ n few. makes_then (makes_keeps (keeps_word (codes ";"))) (λ e t. makes_give PartOk {x = Units n} few)))))

comps_ok : Makes PartOk comp_section
unfolding comp_section_within
comps_ok =
    makes_then (makes_keeps (keeps_head (codes "COMPONENTS"))) (λ c t.
    makes_then (makes_many CompOk (is_word (codes "-")) comp (λ xs. comp_ok _)) (λ cs all.
    makes_then (makes_keeps (keeps_end (codes "COMPONENTS"))) (λ e t. makes_give PartOk {x = Comps cs} all)))

special_ok : Makes PartOk special_section
unfolding special_section_within
special_ok =
    makes_then (makes_keeps (keeps_head (codes "SPECIALNETS"))) (λ c t. makes_then (makes_keeps keeps_nets) (λ ns t. makes_then (makes_keeps (keeps_end (codes "SPECIALNETS"))) (λ e t. makes_give PartOk {x = Special ns} tt)))

nets_ok : Makes PartOk net_section
unfolding net_section_within
nets_ok =
    makes_then (makes_keeps (keeps_head (codes "NETS"))) (λ c t.
    makes_then (makes_keeps keeps_nets) (λ ns t. makes_then (makes_keeps (keeps_end (codes "NETS"))) (λ e t. makes_give PartOk {x = Nets (record { count = c; nets = ns; end = e })} tt)))

passed_section_ok : Makes PartOk passed_section
unfolding passed_section
passed_section_ok =
    makes_then makes_any (λ h t. makes_then (makes_keeps (keeps_pass_to_both (is_word (codes "END")) (is_word h.bytes) (tests_word (codes "END")) (tests_word h.bytes))) (λ e t. makes_give PartOk {x = Passed} tt))

passed_ok : (keyword : List ℕ) → Makes PartOk (passed_up_to keyword)
passed_ok keyword = makes_then (makes_keeps (keeps_pass_to (is_word keyword) (tests_word keyword))) (λ e t. makes_give PartOk {x = Passed} tt)

once_ok : (seen : Kind → Bool) (k : Kind) (p : Parser Part) → Makes PartOk p → Makes PartOk (once seen k p)
once_ok seen k p makes = go (seen k)
  where
    go : (b : Bool) → Makes PartOk (λ u. if b then refuse twice_named u else p u)
    go true = makes_refuse PartOk twice_named
    go false = makes

part_ok : (seen : Kind → Bool) → Makes PartOk (part_new seen)
unfolding part_new_within
part_ok seen =
    makes_choose (is_word (codes "UNITS")) units_ok
    (makes_choose (is_word (codes "COMPONENTS")) (once_ok seen CompKind comp_section comps_ok)
    (makes_choose (is_word (codes "PINS")) (once_ok seen PinKind pin_section pins_ok)
    (makes_choose (is_word (codes "SPECIALNETS")) (once_ok seen SpecialKind special_section special_ok)
    (makes_choose (is_word (codes "NETS")) (once_ok seen NetKind net_section nets_ok)
    (makes_choose (is_one_of passed_sections) passed_section_ok
    (makes_choose (is_one_of passed_statements) (passed_ok (codes ";"))
    (makes_choose (is_word (codes "BEGINEXT")) (passed_ok (codes "ENDEXT")) (makes_refuse PartOk unknown_heading))))))))

parts_ok : Makes (AllByRecursion PartOk) parts
unfolding parts_within
parts_ok =
    makes_then (makes_many PartOk (λ w. not (is_word (codes "END") w)) part (λ xs. part_ok (have xs))) (λ ps all. makes_then (makes_keeps keeps_end_design) (λ e t. makes_give (AllByRecursion PartOk) all))

pins_of_parts : (ps : List Part) → AllByRecursion PartOk ps → AllByRecursion PinOk (or_none (first_some (map pins_of ps)))
pins_of_parts [] all = tt
pins_of_parts (Passed ∷ ps) all = pins_of_parts ps all.1
pins_of_parts ((Units n) ∷ ps) all = pins_of_parts ps all.1
pins_of_parts ((Comps cs) ∷ ps) all = pins_of_parts ps all.1
pins_of_parts (Pins qs ∷ ps) all = all.0
pins_of_parts ((Special ss) ∷ ps) all = pins_of_parts ps all.1
pins_of_parts ((Nets s) ∷ ps) all = pins_of_parts ps all.1

comps_of_parts : (ps : List Part) → AllByRecursion PartOk ps → AllByRecursion CompOk (or_none (first_some (map comps_of ps)))
comps_of_parts [] all = tt
comps_of_parts (Passed ∷ ps) all = comps_of_parts ps all.1
comps_of_parts ((Units n) ∷ ps) all = comps_of_parts ps all.1
comps_of_parts (Comps cs ∷ ps) all = all.0
comps_of_parts ((Pins qs) ∷ ps) all = comps_of_parts ps all.1
comps_of_parts ((Special ss) ∷ ps) all = comps_of_parts ps all.1
comps_of_parts ((Nets s) ∷ ps) all = comps_of_parts ps all.1

-- each net that a top pin of a text names is a name
pub pin_nets_named : (text : List ℕ) (ps : List Part) (r : Walk) → parts (walk_of text) ≡ Ok (ps, r) → AllByRecursion PinOk (or_none (first_some (map pins_of ps)))
pin_nets_named text ps r e = pins_of_parts ps (parts_ok (walk_of text) ps r (good text between 0 tt) e).0

-- so is each component's name
pub comps_named : (text : List ℕ) (ps : List Part) (r : Walk) → parts (walk_of text) ≡ Ok (ps, r) → AllByRecursion CompOk (or_none (first_some (map comps_of ps)))
comps_named text ps r e = comps_of_parts ps (parts_ok (walk_of text) ps r (good text between 0 tt) e).0

units_of_parts : (ps : List Part) → AllByRecursion PartOk ps → IfSome (last_some (map units_of ps)) (λ n. n ≤ MAX_UNITS)
units_of_parts [] all = tt
units_of_parts (p ∷ ps) all = go (last_some (map units_of ps)) (units_of_parts ps all.1) p all.0
  where
    go : (later : Option ℕ) → IfSome later (λ n. n ≤ MAX_UNITS) → (p : Part) → PartOk p → IfSome (option_or later (units_of p)) (λ n. n ≤ MAX_UNITS)
    go (Some n) few p ok = few
    go None few Passed ok = tt
    go None few (Units n) ok = ok
    go None few (Comps cs) ok = tt
    go None few (Pins qs) ok = tt
    go None few (Special ss) ok = tt
    go None few (Nets s) ok = tt

-- the units of a text are bounded
pub units_bounded : (text : List ℕ) (ps : List Part) (r : Walk) → parts (walk_of text) ≡ Ok (ps, r) → IfSome (last_some (map units_of ps)) (λ n. n ≤ MAX_UNITS)
units_bounded text ps r e = units_of_parts ps (parts_ok (walk_of text) ps r (good text between 0 tt) e).0
