-- When a plain design can get pins and nets.
use Rattle.std.proofs.Common.{◌≡◌, ℕ, ◌&&◌, ◌||◌, Bool, true, false, not, List, [], ◌∷◌, ◌++◌, map, refl, sym, ap, ◌∙◌, if◌then◌else◌, codes}
use Rattle.std.specs.List.{AllByRecursion, IsDistinct, filter, list_all, list_any}
use Rattle.std.specs.Str.{bytes_eq}
use Rattle.std.proofs.lemmas.Bool.{or_parts}
use Rattle.std.proofs.lemmas.List.Folds.{list_any-append}
use Rattle.eco_def.specs.Design.{TopPin, Design}
use Rattle.eco_def.specs.Named.{NamedPin, NamedDesign, pin_names, names_of}
use Rattle.eco_issued_laws.specs.Changes.{NewJoint, stands, has_statement, has_net, new_pins, is_nil, once_each, stated_first}
use Rattle.eco_text.specs.Tokens.{can_name}
use Rattle.eco_issued_laws.specs.ReadingBack.{can_stand, first_stated, CanGet}
use Rattle.eco_issued_laws.proofs.Sorting.{not_true, all_as, all_join, all_filter, all_once, bytes_differ}

all_to : {A : Type 0} (p : A → Bool) (xs : List A) → AllByRecursion (λ x. p x ≡ true) xs → list_all p xs ≡ true
all_to p [] all = refl
all_to p (x ∷ xs) all = rw (all.0, all_to p xs all.1) refl

-- ---- nets that differ

distinct_join : (xs ys : List (List ℕ)) → IsDistinct bytes_eq xs → IsDistinct bytes_eq ys → AllByRecursion (λ x. AllByRecursion (λ y. bytes_eq x y ≡ false) ys) xs → IsDistinct bytes_eq (xs ++ ys)
unfolding IsDistinct
distinct_join [] ys dx dy apart = dy
distinct_join (x ∷ xs) ys dx dy apart = (all_join (λ y. bytes_eq x y ≡ false) xs ys dx.0 apart.0, distinct_join xs ys dx.1 dy apart.1)

distinct_filter : (p : List ℕ → Bool) (xs : List (List ℕ)) → IsDistinct bytes_eq xs → IsDistinct bytes_eq (filter p xs)
unfolding IsDistinct
distinct_filter p [] d = tt
distinct_filter p (x ∷ xs) d = go (p x) (distinct_filter p xs d.1)
  where
    go : (b : Bool) → IsDistinct bytes_eq (filter p xs) → IsDistinct bytes_eq (if b then x ∷ filter p xs else filter p xs)
    go true rest = (all_as (λ y. (bytes_eq x y ≡ false) × (p y ≡ true)) (λ y. bytes_eq x y ≡ false) (λ y e. e.0) (filter p xs) (all_filter (λ y. bytes_eq x y ≡ false) p xs d.0), rest)
    go false rest = rest

all_any : {A : Type 0} (xs : List A) → AllByRecursion (λ x. Unit {0}) xs
all_any [] = tt
all_any (x ∷ xs) = (tt, all_any xs)

distinct_once : (ns : List (List ℕ)) → IsDistinct bytes_eq (once_each ns)
unfolding IsDistinct
distinct_once [] = tt
distinct_once (n ∷ ns) = (
  all_as (λ m. Unit {0} × (not (bytes_eq m n) ≡ true)) (λ m. bytes_eq n m ≡ false) (λ m e. bytes_differ m n (not_true (bytes_eq m n) e.1)) (filter (λ m. not (bytes_eq m n)) (once_each ns))
      (all_filter (λ m. Unit {0}) (λ m. not (bytes_eq m n)) (once_each ns) (all_any (once_each ns))),
  distinct_filter (λ m. not (bytes_eq m n)) (once_each ns) (distinct_once ns),
)

-- what holds of each top pin's net holds of those that get their first statement
all_stated : (P : List ℕ → Type 0) (d : Design) (joints : List NewJoint) → AllByRecursion (λ p. P p.net.bytes) d.pins → AllByRecursion P (stated_first (names_of d) joints)
all_stated P d joints all =
    all_as (λ n. P n × (gets n ≡ true)) P (λ n e. e.0) (stated_first (names_of d) joints) (all_filter P gets (once_each (map (λ (p : NamedPin). p.net) (names_of d).pins)) (all_once P (map (λ (p : NamedPin). p.net) (names_of d).pins) (nets_of d.pins all)))
  where
    gets : List ℕ → Bool
    gets net = not (has_statement ((names_of d).special ++ (names_of d).nets) net) && not (is_nil (new_pins (names_of d) joints net))

    nets_of : (ps : List TopPin) → AllByRecursion (λ p. P p.net.bytes) ps → AllByRecursion P (map (λ (p : NamedPin). p.net) (map pin_names ps))
    nets_of [] all = tt
    nets_of (p ∷ ps) all = (all.0, nets_of ps all.1)

-- a net that the design hasn't is none of its top pins' nets
no_top_pin : (ps : List TopPin) (n : List ℕ) → list_any (λ (p : NamedPin). bytes_eq p.net n) (map pin_names ps) ≡ false → AllByRecursion (λ (p : TopPin). bytes_eq n p.net.bytes ≡ false) ps
no_top_pin [] n e = tt
no_top_pin (p ∷ ps) n e = let b = or_parts (bytes_eq p.net.bytes n) (list_any (λ (p : NamedPin). bytes_eq p.net n) (map pin_names ps)) e in (bytes_differ p.net.bytes n b.0, no_top_pin ps n b.1)

-- a net that the design hasn't, with a name that can be printed
abbrev pub IsNew : Design → List ℕ → Type 0
IsNew d n = (can_name n ≡ true) × (bytes_eq n (codes "MUSTJOIN") ≡ false) × (has_net (names_of d) n ≡ false)

-- Pins and nets whose names can be printed, and nets that differ and that the design hasn't, are what a design can get
-- whose count word of NETS isn't quoted and no top pin of which is on a net MUSTJOIN.
pub can_get : (d : Design) (joints : List NewJoint) (nets : List (List ℕ)) → d.nets.count.quoted ≡ false → AllByRecursion (λ p. bytes_eq p.net.bytes (codes "MUSTJOIN") ≡ false) d.pins →
    AllByRecursion (λ n. (can_name n.comp ≡ true) × (can_name n.pin ≡ true)) joints →
    AllByRecursion (IsNew d) nets → IsDistinct bytes_eq nets → CanGet d joints nets
can_get d joints nets count tops pins news distinct = record {
  count = count;
  pins = all_to (can_stand (names_of d)) joints (all_as (λ n. (can_name n.comp ≡ true) × (can_name n.pin ≡ true)) (λ n. can_stand (names_of d) n ≡ true) (λ n e. stand (stands ((names_of d).special ++ (names_of d).nets) n) (can_name n.comp) (can_name n.pin) e.0 e.1) joints pins);
  names = all_to can_name nets (all_as (IsNew d) (λ n. can_name n ≡ true) (λ n e. e.0) nets news);
  new = all_to (λ n. not (has_statement (names_of d).nets n)) nets (all_as (IsNew d) (λ n. not (has_statement (names_of d).nets n) ≡ true) (λ n e. ap not (unstated n e.2)) nets news);
  distinct = distinct_join nets (stated_first (names_of d) joints) distinct (distinct_filter _ (once_each (map (λ (p : NamedPin). p.net) (names_of d).pins)) (distinct_once (map (λ (p : NamedPin). p.net) (names_of d).pins)))
      (all_as (IsNew d) (λ n. AllByRecursion (λ m. bytes_eq n m ≡ false) (stated_first (names_of d) joints)) (λ n e. all_stated (λ m. bytes_eq n m ≡ false) d joints (no_top_pin d.pins n (untopped n e.2))) nets news);
  ordinary = all_to (λ n. not (bytes_eq n (codes "MUSTJOIN"))) (first_stated (names_of d) joints nets) (all_join (λ n. not (bytes_eq n (codes "MUSTJOIN")) ≡ true) nets (stated_first (names_of d) joints)
      (all_as (IsNew d) (λ n. not (bytes_eq n (codes "MUSTJOIN")) ≡ true) (λ n e. ap not e.1) nets news)
      (all_stated (λ n. not (bytes_eq n (codes "MUSTJOIN")) ≡ true) d joints (all_as (λ (p : TopPin). bytes_eq p.net.bytes (codes "MUSTJOIN") ≡ false) (λ (p : TopPin). not (bytes_eq p.net.bytes (codes "MUSTJOIN")) ≡ true) (λ p e. ap not e) d.pins tops)));
}
  where
    stand : (s c p : Bool) → c ≡ true → p ≡ true → (s || (c && p)) ≡ true
    stand true c p ec ep = refl
    stand false c p ec ep = rw (ec, ep) refl

    untopped : (n : List ℕ) → has_net (names_of d) n ≡ false → list_any (λ (p : NamedPin). bytes_eq p.net n) (names_of d).pins ≡ false
    untopped n e = (or_parts (has_statement ((names_of d).special ++ (names_of d).nets) n) (list_any (λ (p : NamedPin). bytes_eq p.net n) (names_of d).pins) e).1

    unstated : (n : List ℕ) → has_net (names_of d) n ≡ false → has_statement (names_of d).nets n ≡ false
    unstated n e =
        let none = (or_parts (has_statement ((names_of d).special ++ (names_of d).nets) n) (list_any (λ (p : NamedPin). bytes_eq p.net n) (names_of d).pins) e).0 in
        (or_parts (has_statement (names_of d).special n) (has_statement (names_of d).nets n) (sym (list_any-append (λ s. bytes_eq s.name n) (names_of d).special (names_of d).nets) ∙ none)).1
