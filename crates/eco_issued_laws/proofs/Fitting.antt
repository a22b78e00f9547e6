-- The pins and nets that a design can get fit its text.
use Rattle.std.proofs.Common.{◌≡◌, ℕ, ◌&&◌, ◌||◌, Bool, true, false, not, List, [], ◌∷◌, ◌++◌, map, refl, sym, ap, ◌∙◌, if◌then◌else◌, codes}
use Rattle.std.specs.List.{AllByRecursion, IsDistinct, filter}
use Rattle.std.specs.Str.{bytes_eq}
use Rattle.std.proofs.lemmas.Bool.{and_parts, or_parts}
use Rattle.std.proofs.lemmas.List.Folds.{list_any-append}
use Rattle.eco_common.specs.NameBytes.{is_among}
use Rattle.eco_def.specs.Design.{TopPin, Net, Design, Nets}
use Rattle.eco_def.specs.Named.{NamedPin, NamedJoint, NamedDesign, pin_names, net_names, names_of}
use Rattle.eco_issued_laws.specs.Changes.{NewJoint, precedes, pin_precedes, in_order, stands, has_statement, pin_joint, new_pins, is_nil, once_each, stated_first, changes_of}
use Rattle.eco_text.specs.Tokens.{can_name}
use Rattle.eco_issued_laws.specs.ReadingBack.{can_stand, first_stated, CanGet}
use Rattle.eco_issued_laws.proofs.Allowed.{IsName, JointOk, AllJointsOk, FreshOk, ChangesOk, Allows}
use Rattle.eco_issued_laws.proofs.ReadNames.{PinOk}
use Rattle.eco_issued_laws.proofs.Sorting.{not_true, all_from, all_as, all_join, all_both, all_filter, all_once, all_in_order, distinct_in_order}
use Rattle.eco_issued_laws.proofs.Names.{name_when, decimal_word}

-- ---- new pins

printed_pins : (d : NamedDesign) (net : List ℕ) (joints : List NewJoint) → AllByRecursion (λ n. can_stand d n ≡ true) joints →
    AllJointsOk (map pin_joint (filter (λ n. bytes_eq n.net net && not (stands (d.special ++ d.nets) n)) joints))
printed_pins d net [] all = tt
printed_pins d net (n ∷ joints) all = go (bytes_eq n.net net) (stands (d.special ++ d.nets) n) all.0 (printed_pins d net joints all.1)
  where
    go : (b s : Bool) → (s || (can_name n.comp && can_name n.pin)) ≡ true → AllJointsOk (map pin_joint (filter (λ n. bytes_eq n.net net && not (stands (d.special ++ d.nets) n)) joints)) →
        AllJointsOk (map pin_joint (if b && not s then n ∷ filter (λ n. bytes_eq n.net net && not (stands (d.special ++ d.nets) n)) joints else filter (λ n. bytes_eq n.net net && not (stands (d.special ++ d.nets) n)) joints))
    go true false e rest = let p = and_parts (can_name n.comp) (can_name n.pin) e in ((name_when n.comp p.0, name_when n.pin p.1), rest)
    go true true e rest = rest
    go false s e rest = rest

new_pins_ok : (d : NamedDesign) (joints : List NewJoint) (net : List ℕ) → AllByRecursion (λ n. can_stand d n ≡ true) joints → AllJointsOk (new_pins d joints net)
new_pins_ok d joints net all =
    all_in_order JointOk pin_precedes (map pin_joint (filter (λ n. bytes_eq n.net net && not (stands (d.special ++ d.nets) n)) joints)) (printed_pins d net joints all)

pub changes_ok : (d : Design) (joints : List NewJoint) (nets : List (List ℕ)) → CanGet d joints nets → ChangesOk (changes_of (names_of d) joints nets)
changes_ok d joints nets can = record {
  added = λ special n. go n (special && has_statement (names_of d).nets n);
  numeral = decimal_word;
}
  where
    go : (n : List ℕ) (b : Bool) → AllJointsOk (if b then [] else new_pins (names_of d) joints n)
    go n true = tt
    go n false = new_pins_ok (names_of d) joints n (all_from (can_stand (names_of d)) joints can.pins)

-- ---- nets that get their first statement

-- a name that a net's first statement in NETS can have
record Free (d : Design) (n : List ℕ) : Type 0 where
  named : IsName n
  new : is_among (map (λ k. k.name.bytes) d.nets.nets) n ≡ false

statement_among : (ss : List Net) (n : List ℕ) → has_statement (map net_names ss) n ≡ is_among (map (λ k. k.name.bytes) ss) n
statement_among [] n = refl
statement_among (s ∷ ss) n = ap (λ b. bytes_eq s.name.bytes n || b) (statement_among ss n)

new_free : (d : Design) (nets : List (List ℕ)) → AllByRecursion (λ n. can_name n ≡ true) nets → AllByRecursion (λ n. not (has_statement (names_of d).nets n) ≡ true) nets → AllByRecursion (Free d) nets
new_free d nets named new =
    all_as (λ n. (can_name n ≡ true) × (not (has_statement (names_of d).nets n) ≡ true)) (Free d)
    (λ n e. record { named = name_when n e.0; new = sym (statement_among d.nets.nets n) ∙ not_true (has_statement (names_of d).nets n) e.1 }) nets (all_both (λ n. can_name n ≡ true) (λ n. not (has_statement (names_of d).nets n) ≡ true) nets named new)

named_pins : (ps : List TopPin) → AllByRecursion PinOk ps → AllByRecursion IsName (map (λ (p : NamedPin). p.net) (map pin_names ps))
named_pins [] all = tt
named_pins (p ∷ ps) all = (all.0, named_pins ps all.1)

stated_free : (d : Design) (joints : List NewJoint) → AllByRecursion PinOk d.pins → AllByRecursion (Free d) (stated_first (names_of d) joints)
stated_free d joints ok =
    all_as (λ n. IsName n × (gets n ≡ true)) (Free d)
    (λ n e. record { named = e.0; new = sym (statement_among d.nets.nets n) ∙ unstated n e.1 })
    (stated_first (names_of d) joints) (all_filter IsName gets (once_each (map (λ p. p.net) (names_of d).pins)) (all_once IsName (map (λ p. p.net) (names_of d).pins) (named_pins d.pins ok)))
  where
    gets : List ℕ → Bool
    gets net = not (has_statement ((names_of d).special ++ (names_of d).nets) net) && not (is_nil (new_pins (names_of d) joints net))

    unstated : (n : List ℕ) → gets n ≡ true → has_statement (names_of d).nets n ≡ false
    unstated n e =
        let none = not_true (has_statement ((names_of d).special ++ (names_of d).nets) n) (and_parts (not (has_statement ((names_of d).special ++ (names_of d).nets) n)) (not (is_nil (new_pins (names_of d) joints n))) e).0 in
        (or_parts (has_statement (names_of d).special n) (has_statement (names_of d).nets n) (sym (list_any-append (λ s. bytes_eq s.name n) (names_of d).special (names_of d).nets) ∙ none)).1

-- names that are free, plain and differ can be given one after another
given : (made : List ℕ → List NamedJoint) → ((n : List ℕ) → AllJointsOk (made n)) → (names ns : List (List ℕ)) → AllByRecursion IsName ns → AllByRecursion (λ n. not (bytes_eq n (codes "MUSTJOIN")) ≡ true) ns →
    AllByRecursion (λ n. is_among names n ≡ false) ns → IsDistinct bytes_eq ns → FreshOk names (map (λ n. record { name = n; joints = made n }) ns)
unfolding IsDistinct
given made ok names [] named plain new d = tt
given made ok names (n ∷ ns) named plain new d =
    (named.0, not_true (bytes_eq n (codes "MUSTJOIN")) plain.0, new.0, ok n, given made ok (names ++ n ∷ []) ns named.1 plain.1 (pushed ns new.1 d.0) d.1)
  where
    pushed : (ms : List (List ℕ)) → AllByRecursion (λ m. is_among names m ≡ false) ms → AllByRecursion (λ m. bytes_eq n m ≡ false) ms → AllByRecursion (λ m. is_among (names ++ n ∷ []) m ≡ false) ms
    pushed [] a b = tt
    pushed (m ∷ ms) a b = (list_any-append (λ k. bytes_eq k m) names (n ∷ []) ∙ rw (a.0, b.0) refl, pushed ms a.1 b.1)

pub allows : (d : Design) (joints : List NewJoint) (nets : List (List ℕ)) → CanGet d joints nets → AllByRecursion PinOk d.pins → Allows (changes_of (names_of d) joints nets) (Nets d.nets)
allows d joints nets can ok = (
  can.count,
  given (new_pins (names_of d) joints) (λ n. new_pins_ok (names_of d) joints n (all_from (can_stand (names_of d)) joints can.pins)) (map (λ k. k.name.bytes) d.nets.nets) ns
      (all_as (Free d) IsName (λ n f. f.named) ns (all_in_order (Free d) precedes firsts free))
      (all_in_order (λ n. not (bytes_eq n (codes "MUSTJOIN")) ≡ true) precedes firsts (all_from (λ n. not (bytes_eq n (codes "MUSTJOIN"))) firsts can.ordinary))
      (all_as (Free d) (λ n. is_among (map (λ k. k.name.bytes) d.nets.nets) n ≡ false) (λ n f. f.new) ns (all_in_order (Free d) precedes firsts free))
      (distinct_in_order precedes firsts can.distinct),
)
  where
    firsts : List (List ℕ)
    firsts = first_stated (names_of d) joints nets

    ns : List (List ℕ)
    ns = in_order precedes firsts

    free : AllByRecursion (Free d) firsts
    free = all_join (Free d) nets (stated_first (names_of d) joints) (new_free d nets (all_from can_name nets can.names) (all_from (λ n. not (has_statement (names_of d).nets n)) nets can.new)) (stated_free d joints ok)
