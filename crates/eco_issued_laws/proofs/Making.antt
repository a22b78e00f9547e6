-- What a reading makes of the words of a text.
use Rattle.std.proofs.Common.{◌≡◌, ℕ, zero, suc, Bool, true, false, List, [], ◌∷◌, ◌++◌, drop, Ok, refl, ap, sym, ◌∙◌, subst, true≢false, if◌then◌else◌}
use Rattle.std.specs.List.{AllByRecursion}
use Rattle.eco_text.specs.Words.{Token, Walk, word_then, between, ◌+++◌}
use Rattle.eco_def.specs.Parsing.{Parser, then_read, ◌>>=◌, give, refuse, begins, any, choose, name, many, many_for, size}
use Rattle.eco_text.specs.Tokens.{is_name}
use Rattle.eco_issued_laws.proofs.Allowed.{bare, IsName}
use Rattle.eco_issued_laws.proofs.Faults.{Fault, bad_statement}
use Rattle.eco_issued_laws.proofs.Keeping.{Same, Keeps, SameNext, Ok_is, split}
use Rattle.eco_issued_laws.proofs.Rules.{tests_name}
use Rattle.eco_issued_laws.proofs.Pieces.{AllGood, good}
use Rattle.eco_issued_laws.proofs.Editing.{At}
use Rattle.eco_issued_laws.proofs.Ending.{Plainly, chosen, refused, any_is, next_is}

-- ---- names

pub plain_name : Plainly is_name
plain_name w e = go w.quoted refl e
  where
    go : (b : Bool) → w.quoted ≡ b → is_name w ≡ true → w.quoted ≡ false
    go false q e = q
    go true q e = absurd (true≢false (sym e ∙ rw q refl))

pub same_bare : (w : Token) → w.quoted ≡ false → Same w (bare w.bytes)
same_bare w q = record { bytes = refl; quoted = sym q }

pub at_good : (text : List ℕ) (q : ℕ) (u : Walk) → At text q u → AllGood u
at_good text q u at = subst (λ k. AllGood k) (sym at.is) (good (drop q text) between q tt)

pub name_of : (w : Token) (u r : Walk) → AllGood u → u ≡ word_then w r → is_name w ≡ true → IsName w.bytes
name_of w u r g is e =
    let here : AllGood (word_then w r) = subst (λ k. AllGood k) is g in
    (here.0 (plain_name w e), tests_name w (bare w.bytes) (same_bare w (plain_name w e)) ∙ e)

-- ---- readings

-- from words of a text each value has this property, and words of a text are left
abbrev pub Makes : {A : Type 0} → (A → Type 0) → Parser A → Type 0
Makes {A} C p = (u : Walk) (x : A) (r : Walk) → AllGood u → p u ≡ Ok (x, r) → C x × AllGood r

good_rest : (fs : List Token) (r : Walk) → AllGood (fs +++ r) → AllGood r
good_rest [] r g = g
good_rest (t ∷ fs) r g = good_rest fs r g.1

pub makes_keeps : {A B : Type 0} {n : ℕ} {V : A → B → Type 0} {p : Parser A} {q : Parser B} → Keeps n V SameNext p q → Makes (λ x. Unit {0}) p
makes_keeps keeps u x r g e = let one = keeps u x r e in (tt, good_rest one.front r (subst (λ k. AllGood k) one.is g))

pub makes_give : {A : Type 0} (C : A → Type 0) {x : A} → C x → Makes C (give x)
makes_give C c u z r g e = (subst (λ k. C k) (ap (λ k. k.0) (Ok_is e)) c, subst (λ k. AllGood k) (ap (λ k. k.1) (Ok_is e)) g)

pub makes_refuse : {A : Type 0} (C : A → Type 0) (fault : ℕ → Fault) → Makes C (refuse fault)
makes_refuse C fault u x r g e = absurd (refused fault u x r e)

pub makes_any : Makes (λ w. Unit {0}) any
makes_any u x r g e = (tt, (subst (λ k. AllGood k) (any_is u x r e) g).1)

pub makes_name : Makes (λ w. IsName w.bytes) name
makes_name u x r g e = let n = next_is is_name u x r e in (name_of x u r g n.is n.passes, (subst (λ k. AllGood k) n.is g).1)

pub makes_choose : {A : Type 0} {C : A → Type 0} (f : Token → Bool) {p q : Parser A} → Makes C p → Makes C q → Makes C (choose f p q)
makes_choose {A} {C} f {p} {q} yes' no' u x r g e = chosen f p q u x r e (C x × AllGood r) (λ i. yes' u x r g) (λ i. no' u x r g)

pub makes_then : {A B : Type 0} {C : A → Type 0} {D : B → Type 0} {p : Parser A} {f : A → Parser B} → Makes C p → ((x : A) → C x → Makes D (f x)) → Makes D (p >>= f)
makes_then {p} {f} first second u z r g e =
    let s = split p f u z r e in
    let one = first u s.first s.middle g s.first_is in
    second s.first one.0 s.middle z r one.1 s.then_is

all_push : {A : Type 0} (C : A → Type 0) (xs : List A) (x : A) → AllByRecursion C xs → C x → AllByRecursion C (xs ++ x ∷ [])
all_push C [] x all c = (c, tt)
all_push C (y ∷ xs) x all c = (all.0, all_push C xs x all.1 c)

module _ {A : Type 0} (C : A → Type 0) (f : Token → Bool) (item : List A → Parser A) (each : (xs : List A) → Makes C (item xs)) where
  makes_for : (n : ℕ) (xs : List A) → AllByRecursion C xs → (u : Walk) (zs : List A) (r : Walk) → AllGood u → many_for n f item xs u ≡ Ok (zs, r) → AllByRecursion C zs × AllGood r
  makes_for zero xs all u zs r g e = absurd (refused bad_statement u zs r e)
  makes_for (suc n) xs all u zs r g e = go (begins f u) e (λ x k a h. makes_for n (xs ++ x ∷ []) a k zs r h)
    where
      go : (b : Bool) → (if b then then_read (item xs u) (λ x. many_for n f item (xs ++ x ∷ [])) else Ok (xs, u)) ≡ Ok (zs, r) →
          ((x : A) (k : Walk) → AllByRecursion C (xs ++ x ∷ []) → AllGood k → many_for n f item (xs ++ x ∷ []) k ≡ Ok (zs, r) → AllByRecursion C zs × AllGood r) → AllByRecursion C zs × AllGood r
      go true e rec =
          let s = split (item xs) (λ x. many_for n f item (xs ++ x ∷ [])) u zs r e in
          let one = each xs u s.first s.middle g s.first_is in
          rec s.first s.middle (all_push C xs s.first all one.0) one.1 s.then_is
      go false e rec = (subst (λ k. AllByRecursion C k) (ap (λ k. k.0) (Ok_is e)) all, subst (λ k. AllGood k) (ap (λ k. k.1) (Ok_is e)) g)

  pub makes_many : Makes (AllByRecursion C) (many f item)
  makes_many u zs r g e = makes_for (suc (size u)) [] tt u zs r g e
