-- Where nothing is found first.
use Rattle.std.proofs.Common.{◌≡◌, Bool, true, false, not, cond, List, [], ◌∷◌, map, Option, Some, None, refl, true≢false}
use Rattle.std.specs.List.{find, AllByRecursion}
use Rattle.std.specs.Option.{option_map}
use Rattle.eco_common.specs.Options.{first_some}

not_None : {A : Type 0} {x : A} → Some x ≡ None → ⊥
not_None e = cc

pub mapped_none : {A B : Type 0} (f : A → B) (o : Option A) → option_map f o ≡ None → o ≡ None
mapped_none f None e = refl
mapped_none f (Some x) e = absurd (not_None e)

pub first_none : {A : Type 0} (o : Option A) (os : List (Option A)) → first_some (o ∷ os) ≡ None → (o ≡ None) × (first_some os ≡ None)
first_none None os e = (refl, e)
first_none (Some x) os e = absurd (not_None e)

pub cond_none : {A : Type 0} (b : Bool) (x : A) (o : Option A) → cond b (Some x) o ≡ None → (b ≡ false) × (o ≡ None)
cond_none true x o e = absurd (not_None e)
cond_none false x o e = (refl, e)

pub not_false : (b : Bool) → not b ≡ false → b ≡ true
not_false true e = refl
not_false false e = absurd (true≢false e)

-- each passes the test where none is found that doesn't
pub all_pass : {A : Type 0} (p : A → Bool) (xs : List A) → find (λ x. not (p x)) xs ≡ None → AllByRecursion (λ x. p x ≡ true) xs
all_pass p [] e = tt
all_pass p (x ∷ xs) e =
    let h = cond_none (not (p x)) x (find (λ y. not (p y)) xs) e in
    (not_false (p x) h.0, all_pass p xs h.1)

-- what holds of a value of each item
pub all_of_map : {A B : Type 0} (f : A → B) (P : B → Type 0) (xs : List A) → AllByRecursion P (map f xs) → AllByRecursion (λ x. P (f x)) xs
all_of_map f P [] h = tt
all_of_map f P (x ∷ xs) h = (h.0, all_of_map f P xs h.1)
