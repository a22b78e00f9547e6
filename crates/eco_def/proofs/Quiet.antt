-- Readings that never answer Limit.
use Rattle.std.proofs.Common.{◌≡◌, ℕ, zero, suc, Bool, true, false, not, ◌&&◌, List, [], ◌∷◌, ◌++◌, Option, Some, None, is_some, Result, Ok, Err, codes, if◌then◌else◌}
use Rattle.eco_text.specs.Words.{Token, Walk, finished, open_quote, word_then}
use Rattle.eco_text.specs.Numbers.{integer_of}
use Rattle.eco_def.specs.declared.fault.DefFault.{DefFault}
use Rattle.eco_def.specs.declared.fault.DefFault.TheVariants.{BadStatement, UnknownHeading, Limit}
use Rattle.eco_def.specs.Parsing.{Parser, ◌>>=◌, then_read, give, refuse, begins, any, choose, word, name, valued_as, valued, bytes_ahead, pass_to, pass_to_both, many_for, many, size}
use Rattle.eco_text.specs.Tokens.{is_word, is_name, is_one_of}
use Rattle.eco_common.specs.Options.{first_some}
use Rattle.eco_def.specs.Grammar.{orient_of, place, gives_place, some_place, comp_clause, comp_place, section_head, section_end, dir_of, PinClause, pin_net, pin_dir, pin_use, pin_clause, pin_clauses, net_in, pin_on, pin_named, joint_end, joint, some_use, net_clause_new, net_clause, net_tail, units_number, units, passed_section, passed_up_to, end_design}

abbrev pub Quiet : {A : Type 0} → Parser A → Type 0
Quiet {A} p = (u : Walk) (at : ℕ) → p u ≡ Err (Limit at) → ⊥

-- a fault that isn't Limit
abbrev pub Other : (ℕ → DefFault) → Type 0
Other fault = (a b : ℕ) → fault a ≡ Limit b → ⊥

pub fault_same : {A : Type 0} (e f : DefFault) → (◌≡◌ {A = Result A DefFault} (Err e) (Err f)) → e ≡ f
fault_same e f is = cc

pub no_fault : {A : Type 0} {C : Type 0} (x : A) (e : DefFault) → Ok x ≡ Err e → C
no_fault x e is = cc

pub quiet_refuse : {A : Type 0} (fault : ℕ → DefFault) → Other fault → Quiet {A = A} (refuse fault)
quiet_refuse fault other (finished place) at is = cc
quiet_refuse fault other (open_quote place) at is = cc
quiet_refuse fault other (word_then w u) at is = other w.start at (fault_same (fault w.start) (Limit at) is)

pub bad : Other BadStatement
bad a b is = cc

pub quiet_any : Quiet any
quiet_any (finished place) at is = cc
quiet_any (open_quote place) at is = cc
quiet_any (word_then w u) at is = cc

pub quiet_give : {A : Type 0} (x : A) → Quiet (give x)
quiet_give x u at is = no_fault (x, u) (Limit at) is

pub quiet_then : {A B : Type 0} (p : Parser A) (f : A → Parser B) → Quiet p → ((x : A) → Quiet (f x)) → Quiet (p >>= f)
quiet_then {A} {B} p f on each u at is = go (p u) (on u at) is
  where
    go : (r : Result (A × Walk) DefFault) → (r ≡ Err (Limit at) → ⊥) → then_read r f ≡ Err (Limit at) → ⊥
    go (Ok x) on is = each x.0 x.1 at is
    go (Err e) on is = let same : e ≡ Limit at = fault_same e (Limit at) is in on (cc)

pub quiet_choose : {A : Type 0} (t : Token → Bool) (p q : Parser A) → Quiet p → Quiet q → Quiet (choose t p q)
quiet_choose t p q on off u at is = go (begins t u) is
  where
    go : (b : Bool) → (if b then p u else q u) ≡ Err (Limit at) → ⊥
    go true is = on u at is
    go false is = off u at is

pub quiet_many_for : {A : Type 0} (n : ℕ) (goes : Token → Bool) (item : List A → Parser A) (xs : List A) → ((xs : List A) → Quiet (item xs)) → Quiet (many_for n goes item xs)
quiet_many_for zero goes item xs each u at is = quiet_refuse BadStatement bad u at is
quiet_many_for (suc n) goes item xs each u at is = go (begins goes u) (λ x. quiet_many_for n goes item (xs ++ x ∷ []) each) is
  where
    go : (b : Bool) → ((x : _) → Quiet (many_for n goes item (xs ++ x ∷ []))) → (if b then then_read (item xs u) (λ x. many_for n goes item (xs ++ x ∷ [])) else Ok (xs, u)) ≡ Err (Limit at) → ⊥
    go true rec is = quiet_then (item xs) (λ x. many_for n goes item (xs ++ x ∷ [])) (each xs) rec u at is
    go false rec is = no_fault (xs, u) (Limit at) is

pub quiet_many : {A : Type 0} (goes : Token → Bool) (item : List A → Parser A) → ((xs : List A) → Quiet (item xs)) → Quiet (many goes item)
quiet_many goes item each u at is = quiet_many_for (suc (size u)) goes item [] each u at is

pub quiet_next : (t : Token → Bool) → Quiet (choose t any (refuse BadStatement))
quiet_next t = quiet_choose t any (refuse BadStatement) quiet_any (quiet_refuse BadStatement bad)

pub quiet_word : (keyword : List ℕ) → Quiet (word keyword)
quiet_word keyword = quiet_next (is_word keyword)

pub quiet_name : Quiet name
quiet_name = quiet_next is_name

pub quiet_valued : {A : Type 0} (f : List ℕ → Option A) → Quiet (valued f)
quiet_valued {A} f u at is = go (f (bytes_ahead u)) is
  where
    go : (o : Option A) → valued_as o u ≡ Err (Limit at) → ⊥
    go None is = quiet_refuse BadStatement bad u at is
    go (Some x) is = quiet_then any (λ w. give x) quiet_any (λ w. quiet_give x) u at is

pub quiet_pass_to : (t : Token → Bool) → Quiet (pass_to t)
quiet_pass_to t (finished place) at is = cc
quiet_pass_to t (open_quote place) at is = cc
quiet_pass_to t (word_then w u) at is = go (t w) (quiet_pass_to t u at) is
  where
    go : (b : Bool) → (pass_to t u ≡ Err (Limit at) → ⊥) → (if b then Ok (w, u) else pass_to t u) ≡ Err (Limit at) → ⊥
    go true rec is = no_fault (w, u) (Limit at) is
    go false rec is = rec is

pub quiet_pass_to_both : (s t : Token → Bool) → Quiet (pass_to_both s t)
quiet_pass_to_both s t (finished place) at is = cc
quiet_pass_to_both s t (open_quote place) at is = cc
quiet_pass_to_both s t (word_then w u) at is = go (s w && begins t u) (quiet_pass_to_both s t u at) is
  where
    go : (b : Bool) → (pass_to_both s t u ≡ Err (Limit at) → ⊥) → (if b then any u else pass_to_both s t u) ≡ Err (Limit at) → ⊥
    go true rec is = quiet_any u at is
    go false rec is = rec is

-- ---- what stands in statements

quiet_place : Quiet place
unfolding place
quiet_place =
    quiet_then (word (codes "(")) _ (quiet_word _) (λ o. quiet_then (valued integer_of) _ (quiet_valued integer_of) (λ x. quiet_then (valued integer_of) _ (quiet_valued integer_of) (λ y.
    quiet_then (word (codes ")")) _ (quiet_word _) (λ c. quiet_then (valued orient_of) _ (quiet_valued orient_of) (λ o. quiet_give _)))))

quiet_comp_clause : Quiet comp_clause
unfolding comp_clause some_place
quiet_comp_clause =
    quiet_choose (is_word (codes "+")) _ _
    (quiet_then any _ quiet_any (λ plus. quiet_choose gives_place _ _ (quiet_then any _ quiet_any (λ kind. quiet_then place _ quiet_place (λ p. quiet_give (Some p)))) (quiet_give None)))
    (quiet_then any _ quiet_any (λ other. quiet_give None))

pub quiet_comp_place : Quiet comp_place
unfolding comp_place
quiet_comp_place = quiet_then (many (λ w. not (is_word (codes ";") w)) (λ before. comp_clause)) _ (quiet_many _ (λ before. comp_clause) (λ before. quiet_comp_clause)) (λ clauses. quiet_give _)

pub quiet_head : (keyword : List ℕ) → Quiet (section_head keyword)
unfolding section_head
quiet_head keyword = quiet_then (word keyword) _ (quiet_word keyword) (λ h. quiet_then any _ quiet_any (λ c. quiet_then (word (codes ";")) _ (quiet_word _) (λ b. quiet_give c)))

pub quiet_end : (keyword : List ℕ) → Quiet (section_end keyword)
unfolding section_end
quiet_end keyword = quiet_then (word (codes "END")) _ (quiet_word _) (λ e. quiet_then (word keyword) _ (quiet_word keyword) (λ a. quiet_give e.start))

quiet_pin_clause : Quiet pin_clause
unfolding pin_clause pin_net pin_dir pin_use
quiet_pin_clause =
    quiet_choose (is_word (codes "+")) _ _
    (quiet_then any _ quiet_any (λ plus.
    quiet_choose (is_word (codes "NET")) _ _ (quiet_then any _ quiet_any (λ h. quiet_then name _ quiet_name (λ n. quiet_give _)))
    (quiet_choose (is_word (codes "DIRECTION")) _ _ (quiet_then any _ quiet_any (λ h. quiet_then (valued dir_of) _ (quiet_valued dir_of) (λ d. quiet_give _)))
    (quiet_choose (is_word (codes "USE")) _ _ (quiet_then any _ quiet_any (λ h. quiet_choose _ _ _ (quiet_then any _ quiet_any (λ w. quiet_give _)) (quiet_give _))) (quiet_give _)))))
    (quiet_then any _ quiet_any (λ other. quiet_give _))

quiet_pin_clauses : Quiet pin_clauses
unfolding pin_clauses
quiet_pin_clauses = quiet_choose (is_one_of (codes "+" ∷ codes ";" ∷ [])) _ _ (quiet_many _ (λ before. pin_clause) (λ before. quiet_pin_clause)) (quiet_refuse BadStatement bad)

quiet_pin_on : (n : Token) (clauses : List PinClause) (net : Option Token) → Quiet (pin_on n clauses net)
quiet_pin_on n clauses None = quiet_refuse BadStatement bad
quiet_pin_on n clauses (Some net) = quiet_give _

pub quiet_pin_named : (n : Token) → Quiet (pin_named n)
unfolding pin_named
quiet_pin_named n = quiet_then pin_clauses _ quiet_pin_clauses (λ clauses. quiet_pin_on n clauses (net_in clauses))

quiet_joint_end : Quiet joint_end
unfolding joint_end
quiet_joint_end = quiet_choose (is_word (codes "+")) _ _ (quiet_then (word (codes "+")) _ (quiet_word _) (λ p. quiet_then (word (codes "SYNTHESIZED")) _ (quiet_word _) (λ m. quiet_word (codes ")")))) (quiet_word (codes ")"))

pub quiet_joint : Quiet joint
unfolding joint
quiet_joint = quiet_then (word (codes "(")) _ (quiet_word _) (λ o. quiet_then name _ quiet_name (λ c. quiet_then name _ quiet_name (λ p. quiet_then joint_end _ quiet_joint_end (λ e. quiet_give _))))

quiet_net_clause : (used : Bool) → Quiet (net_clause_new used)
unfolding net_clause_new some_use
quiet_net_clause used = quiet_choose (is_word (codes "+")) _ _ (quiet_then any _ quiet_any (λ plus. clause used)) (quiet_then any _ quiet_any (λ other. quiet_give None))
  where
    clause : (b : Bool) → Quiet (if b then give None else choose (is_word (codes "USE")) some_use (give None))
    clause true = quiet_give None
    clause false = quiet_choose (is_word (codes "USE")) some_use (give None) (quiet_then any _ quiet_any (λ h. quiet_then name _ quiet_name (λ n. quiet_give (Some n)))) (quiet_give None)

pub quiet_net_tail : Quiet net_tail
unfolding net_tail
quiet_net_tail = quiet_choose (is_one_of (codes "+" ∷ codes ";" ∷ [])) _ _ (quiet_then (many (λ w. not (is_word (codes ";") w)) net_clause) _ (quiet_many _ net_clause (λ before. quiet_net_clause (is_some (first_some before)))) (λ clauses. quiet_give (first_some clauses))) (quiet_refuse BadStatement bad)

-- ---- what stands at the top level

pub quiet_units : Quiet units
unfolding units
quiet_units =
    quiet_then (word (codes "UNITS")) _ (quiet_word _) (λ h. quiet_then (word (codes "DISTANCE")) _ (quiet_word _) (λ d. quiet_then (word (codes "MICRONS")) _ (quiet_word _) (λ m.
    quiet_then (valued units_number) _ (quiet_valued units_number) (λ n. quiet_then (word (codes ";")) _ (quiet_word _) (λ e. quiet_give _)))))

pub quiet_passed_section : Quiet passed_section
unfolding passed_section
quiet_passed_section = quiet_then any _ quiet_any (λ heading. quiet_then (pass_to_both (is_word (codes "END")) (is_word heading.bytes)) _ (quiet_pass_to_both _ _) (λ end. quiet_give _))

pub quiet_passed_up_to : (keyword : List ℕ) → Quiet (passed_up_to keyword)
quiet_passed_up_to keyword = quiet_then (pass_to (is_word keyword)) _ (quiet_pass_to (is_word keyword)) (λ end. quiet_give _)

pub quiet_end_design : Quiet end_design
quiet_end_design (finished place) at is = cc
quiet_end_design (open_quote place) at is = cc
quiet_end_design (word_then end u) at is = quiet_choose (is_word (codes "DESIGN")) any (refuse (λ place. UnknownHeading end.start)) quiet_any (quiet_refuse (λ place. UnknownHeading end.start) (λ a b is. cc)) u at is
