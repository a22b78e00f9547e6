-- A reading with limits beside the same reading without.
use Rattle.std.proofs.Common.{◌≡◌, ◌⊎◌, inl, inr, ℕ, zero, suc, Bool, true, false, List, [], ◌∷◌, ◌++◌, Result, Ok, Err, refl, ap, sym, subst, if◌then◌else◌}
use Rattle.eco_text.specs.Words.{Token, Walk, finished, open_quote, word_then}
use Rattle.eco_def.specs.declared.fault.DefFault.{DefFault}
use Rattle.eco_def.specs.declared.fault.DefFault.TheVariants.{BadStatement, Limit}
use Rattle.eco_def.specs.Parsing.{Parser, ◌>>=◌, then_read, give, begins, refuse, choose, many_for}

abbrev pub IsLimit : {A : Type 0} → Result (A × Walk) DefFault → Type 0
IsLimit {A} r = (place : ℕ) × (r ≡ Err (Limit place))

-- The reading with limits gives what the other gives, and each of its values keeps the limit; or it gives Limit, and no value of the other keeps it.
abbrev pub Limited : {A : Type 0} → (A → Type 0) → Result (A × Walk) DefFault → Result (A × Walk) DefFault → Type 0
Limited {A} In r s = ((r ≡ s) × ((x : A) (v : Walk) → s ≡ Ok (x, v) → In x)) ⊎ (IsLimit r × ((x : A) (v : Walk) → s ≡ Ok (x, v) → In x → ⊥))

-- no value keeps the limit
abbrev pub Never : {A : Type 0} → A → Type 0
Never x = ⊥

pub no_value : {A : Type 0} {C : Type 0} (e : DefFault) (x : A) → Err e ≡ Ok x → C
no_value e x is = cc

pub value_is : {A : Type 0} (x y : A × Walk) → (◌≡◌ {A = Result (A × Walk) DefFault} (Ok x) (Ok y)) → x ≡ y
value_is x y is = cc

pub fails_never : {A : Type 0} {C : Type 0} (fault : ℕ → DefFault) (u : Walk) (r : A × Walk) → refuse fault u ≡ Ok r → C
fails_never fault (finished place) r is = cc
fails_never fault (open_quote place) r is = cc
fails_never fault (word_then w u) r is = cc

pub same : {A : Type 0} (In : A → Type 0) (r : Result (A × Walk) DefFault) → ((x : A) (v : Walk) → r ≡ Ok (x, v) → In x) → Limited In r r
same In r each = inl (refl, each)

pub refusing : {A : Type 0} (In : A → Type 0) (fault : ℕ → DefFault) (u : Walk) → Limited In (refuse fault u) (refuse fault u)
refusing In fault u = same In (refuse fault u) (λ x v is. fails_never fault u (x, v) is)

-- another limit that the same values keep
pub as_well : {A : Type 0} (In In' : A → Type 0) (r s : Result (A × Walk) DefFault) → ((x : A) (v : Walk) → s ≡ Ok (x, v) → In x → In' x) → ((x : A) (v : Walk) → s ≡ Ok (x, v) → In' x → In x) → Limited In r s → Limited In' r s
as_well In In' r s there back (inl l) = inl (l.0, λ x v is. there x v is (l.1 x v is))
as_well In In' r s there back (inr l) = inr (l.0, λ x v is within. l.1 x v is (back x v is within))

-- the same start
pub then_after : {A B : Type 0} (In : B → Type 0) (r : Result (A × Walk) DefFault) (f g : A → Parser B) → ((x : A) (v : Walk) → Limited In (f x v) (g x v)) → Limited In (then_read r f) (then_read r g)
then_after In (Ok x) f g each = each x.0 x.1
then_after In (Err e) f g each = inl (refl, λ x v is. no_value e (x, v) is)

-- a start that has no room
pub then_never : {A B : Type 0} (r s : Result (A × Walk) DefFault) (f g : A → Parser B) → Limited Never r s → Limited Never (then_read r f) (then_read s g)
then_never {A} {B} r s f g (inl l) = go s l.0 l.1
  where
    go : (s : Result (A × Walk) DefFault) → r ≡ s → ((x : A) (v : Walk) → s ≡ Ok (x, v) → Never x) → Limited Never (then_read r f) (then_read s g)
    go (Ok x) is none = absurd (none x.0 x.1 refl)
    go (Err e) is none = inl (ap (λ r. then_read r f) is, λ x v is. no_value e (x, v) is)
then_never r s f g (inr l) = inr ((l.0.0, ap (λ r. then_read r f) l.0.1), λ x v is within. within)

-- the same end
pub then_before : {A B : Type 0} (In : A → Type 0) (In' : B → Type 0) (r s : Result (A × Walk) DefFault) (f : A → Parser B) → ((x : A) (v : Walk) (y : B) (w : Walk) → f x v ≡ Ok (y, w) → In x → In' y) → ((x : A) (v : Walk) (y : B) (w : Walk) → f x v ≡ Ok (y, w) → In' y → In x) →
    Limited In r s → Limited In' (then_read r f) (then_read s f)
then_before {A} {B} In In' r s f there back (inl l) = go s l.0 l.1
  where
    go : (s : Result (A × Walk) DefFault) → r ≡ s → ((x : A) (v : Walk) → s ≡ Ok (x, v) → In x) → Limited In' (then_read r f) (then_read s f)
    go (Ok x) is each = inl (ap (λ r. then_read r f) is, λ y w read. there x.0 x.1 y w read (each x.0 x.1 refl))
    go (Err e) is each = inl (ap (λ r. then_read r f) is, λ x v is. no_value e (x, v) is)
then_before {A} {B} In In' r s f there back (inr l) = inr ((l.0.0, ap (λ r. then_read r f) l.0.1), go s l.1)
  where
    go : (s : Result (A × Walk) DefFault) → ((x : A) (v : Walk) → s ≡ Ok (x, v) → In x → ⊥) → (y : B) (w : Walk) → then_read s f ≡ Ok (y, w) → In' y → ⊥
    go (Ok x) none y w read within = none x.0 x.1 refl (back x.0 x.1 y w read within)
    go (Err e) none y w read within = no_value e (y, w) read

pub choosing : {A : Type 0} (In : A → Type 0) (t : Token → Bool) (p q p' q' : Parser A) (u : Walk) → Limited In (p u) (p' u) → Limited In (q u) (q' u) → Limited In (choose t p q u) (choose t p' q' u)
choosing {A} In t p q p' q' u on off = go (begins t u)
  where
    go : (b : Bool) → Limited In (if b then p u else q u) (if b then p' u else q' u)
    go true = on
    go false = off

-- the same of two readings, whatever they read
abbrev pub Limits : {A : Type 0} → (A → Type 0) → Parser A → Parser A → Type 0
Limits {A} In p p' = (u : Walk) → Limited In (p u) (p' u)

pub limits_choose : {A : Type 0} (In : A → Type 0) (t : Token → Bool) (p q p' q' : Parser A) → Limits In p p' → Limits In q q' → Limits In (choose t p q) (choose t p' q')
limits_choose In t p q p' q' on off u = choosing In t p q p' q' u (on u) (off u)

-- the same values one after another, which keep the limit only where those before do
module _ (A : Type 0) (goes : Token → Bool) (p q : List A → Parser A) (In : List A → Type 0) (fewer : (xs : List A) (x : A) → In (xs ++ x ∷ []) → In xs) where
  pub all_shrink : (n : ℕ) (xs : List A) (u : Walk) (ys : List A) (w : Walk) → many_for n goes q xs u ≡ Ok (ys, w) → In ys → In xs
  all_shrink zero xs u ys w is within = fails_never BadStatement u (ys, w) is
  all_shrink (suc n) xs u ys w is within = go (begins goes u) (λ x v is. all_shrink n (xs ++ x ∷ []) v ys w is within) is
    where
      more : (r : Result (A × Walk) DefFault) → ((x : A) (v : Walk) → many_for n goes q (xs ++ x ∷ []) v ≡ Ok (ys, w) → In (xs ++ x ∷ [])) → then_read r (λ x. many_for n goes q (xs ++ x ∷ [])) ≡ Ok (ys, w) → In xs
      more (Ok x) rec is = fewer xs x.0 (rec x.0 x.1 is)
      more (Err e) rec is = no_value e (ys, w) is

      go : (b : Bool) → ((x : A) (v : Walk) → many_for n goes q (xs ++ x ∷ []) v ≡ Ok (ys, w) → In (xs ++ x ∷ [])) → (if b then then_read (q xs u) (λ x. many_for n goes q (xs ++ x ∷ [])) else Ok (xs, u)) ≡ Ok (ys, w) → In xs
      go true rec is = more (q xs u) rec is
      go false rec is = subst In (ap (λ k. k.0) (sym (value_is (xs, u) (ys, w) is))) within

  module _ (each : (xs : List A) (u : Walk) → begins goes u ≡ true → In xs → Limited (λ x. In (xs ++ x ∷ [])) (p xs u) (q xs u)) where
    pub all_limited : (n : ℕ) (xs : List A) (u : Walk) → In xs → Limited In (many_for n goes p xs u) (many_for n goes q xs u)
    all_limited zero xs u within = refusing In BadStatement u
    all_limited (suc n) xs u within = go (begins goes u) refl (λ x v within. all_limited n (xs ++ x ∷ []) v within)
      where
        kept : (r s : Result (A × Walk) DefFault) → ((x : A) (v : Walk) → In (xs ++ x ∷ []) → Limited In (many_for n goes p (xs ++ x ∷ []) v) (many_for n goes q (xs ++ x ∷ []) v)) → r ≡ s → ((x : A) (v : Walk) → s ≡ Ok (x, v) → In (xs ++ x ∷ [])) → Limited In (then_read r (λ x. many_for n goes p (xs ++ x ∷ []))) (then_read s (λ x. many_for n goes q (xs ++ x ∷ [])))
        kept r (Ok x) rec is each = subst (λ k. Limited In (then_read k (λ x. many_for n goes p (xs ++ x ∷ []))) (many_for n goes q (xs ++ x.0 ∷ []) x.1)) (sym is) (rec x.0 x.1 (each x.0 x.1 refl))
        kept r (Err e) rec is each = inl (ap (λ k. then_read k (λ x. many_for n goes p (xs ++ x ∷ []))) is, λ ys w is. no_value e (ys, w) is)

        past : (s : Result (A × Walk) DefFault) → ((x : A) (v : Walk) → s ≡ Ok (x, v) → In (xs ++ x ∷ []) → ⊥) → (ys : List A) (w : Walk) → then_read s (λ x. many_for n goes q (xs ++ x ∷ [])) ≡ Ok (ys, w) → In ys → ⊥
        past (Ok x) none ys w is within = none x.0 x.1 refl (all_shrink n (xs ++ x.0 ∷ []) x.1 ys w is within)
        past (Err e) none ys w is within = no_value e (ys, w) is

        one : ((x : A) (v : Walk) → In (xs ++ x ∷ []) → Limited In (many_for n goes p (xs ++ x ∷ []) v) (many_for n goes q (xs ++ x ∷ []) v)) → Limited (λ x. In (xs ++ x ∷ [])) (p xs u) (q xs u) → Limited In (then_read (p xs u) (λ x. many_for n goes p (xs ++ x ∷ []))) (then_read (q xs u) (λ x. many_for n goes q (xs ++ x ∷ [])))
        one rec (inl l) = kept (p xs u) (q xs u) rec l.0 l.1
        one rec (inr l) = inr ((l.0.0, ap (λ k. then_read k (λ x. many_for n goes p (xs ++ x ∷ []))) l.0.1), past (q xs u) l.1)

        go : (b : Bool) → begins goes u ≡ b → ((x : A) (v : Walk) → In (xs ++ x ∷ []) → Limited In (many_for n goes p (xs ++ x ∷ []) v) (many_for n goes q (xs ++ x ∷ []) v)) → Limited In (if b then then_read (p xs u) (λ x. many_for n goes p (xs ++ x ∷ [])) else Ok (xs, u)) (if b then then_read (q xs u) (λ x. many_for n goes q (xs ++ x ∷ [])) else Ok (xs, u))
        go true on rec = one rec (each xs u on within)
        go false off rec = inl (refl, λ ys w is. subst In (ap (λ k. k.0) (value_is (xs, u) (ys, w) is)) within)

-- ---- what each value of a reading is

abbrev pub Gives : {A : Type 0} → (A → Type 0) → Parser A → Type 0
Gives {A} P p = (u : Walk) (x : A) (v : Walk) → p u ≡ Ok (x, v) → P x

pub gives_then : {A B : Type 0} (P : B → Type 0) (p : Parser A) (f : A → Parser B) → ((x : A) → Gives P (f x)) → Gives P (p >>= f)
gives_then {A} {B} P p f each u y w is = go (p u) is
  where
    go : (r : Result (A × Walk) DefFault) → then_read r f ≡ Ok (y, w) → P y
    go (Ok x) is = each x.0 x.1 y w is
    go (Err e) is = no_value e (y, w) is

pub gives_give : {A : Type 0} (P : A → Type 0) (x : A) → P x → Gives P (give x)
gives_give P x holds u y w is = subst P (ap (λ k. k.0) (value_is (x, u) (y, w) is)) holds

pub gives_choose : {A : Type 0} (P : A → Type 0) (t : Token → Bool) (p q : Parser A) → Gives P p → Gives P q → Gives P (choose t p q)
gives_choose {A} P t p q on off u x v is = go (begins t u) is
  where
    go : (b : Bool) → (if b then p u else q u) ≡ Ok (x, v) → P x
    go true is = on u x v is
    go false is = off u x v is

pub gives_refuse : {A : Type 0} (P : A → Type 0) (fault : ℕ → DefFault) → Gives P (refuse fault)
gives_refuse P fault u x v is = fails_never fault u (x, v) is

-- values one after another keep what each of them keeps
pub gives_all : (A : Type 0) (goes : Token → Bool) (q : List A → Parser A) (P : List A → Type 0) → ((xs : List A) → P xs → Gives (λ x. P (xs ++ x ∷ [])) (q xs)) → (n : ℕ) (xs : List A) → P xs → Gives P (many_for n goes q xs)
gives_all A goes q P each zero xs holds u ys w is = fails_never BadStatement u (ys, w) is
gives_all A goes q P each (suc n) xs holds u ys w is = go (begins goes u) (λ x holds. gives_all A goes q P each n (xs ++ x ∷ []) holds) is
  where
    more : (r : Result (A × Walk) DefFault) → ((x : A) → P (xs ++ x ∷ []) → Gives P (many_for n goes q (xs ++ x ∷ []))) → q xs u ≡ r → then_read r (λ x. many_for n goes q (xs ++ x ∷ [])) ≡ Ok (ys, w) → P ys
    more (Ok x) rec first is = rec x.0 (each xs holds u x.0 x.1 first) x.1 ys w is
    more (Err e) rec first is = no_value e (ys, w) is

    go : (b : Bool) → ((x : A) → P (xs ++ x ∷ []) → Gives P (many_for n goes q (xs ++ x ∷ []))) → (if b then then_read (q xs u) (λ x. many_for n goes q (xs ++ x ∷ [])) else Ok (xs, u)) ≡ Ok (ys, w) → P ys
    go true rec is = more (q xs u) rec refl is
    go false rec is = subst P (ap (λ k. k.0) (value_is (xs, u) (ys, w) is)) holds
