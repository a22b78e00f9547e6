-- A fact of each item of a list, by place and by recursion.
use Rattle.std.proofs.Common.{◌≡◌, ℕ, zero, suc, ◌<◌, List, [], ◌∷◌, All, map, length, arith}
use Rattle.std.specs.List.{AllByRecursion}

pub all_down : {A : Type 0} (P : A → Type 0) (xs : List A) → All P xs → AllByRecursion P xs
all_down P [] h = tt
all_down P (x ∷ xs) h = (h 0 x (omega arith), all_down P xs (λ k d l. h (suc k) d (omega arith)))

pub all_up : {A : Type 0} (P : A → Type 0) (xs : List A) → AllByRecursion P xs → All P xs
all_up P [] h k d l = absurd (omega (arith, l))
all_up P (x ∷ xs) h zero d l = h.0
all_up P (x ∷ xs) h (suc k) d l = all_up P xs h.1 k d (omega (arith, l))

pub all_map : {A : Type 0} (P Q : A → Type 0) (xs : List A) → ((x : A) → P x → Q x) → AllByRecursion P xs → AllByRecursion Q xs
all_map P Q [] f h = tt
all_map P Q (x ∷ xs) f h = (f x h.0, all_map P Q xs f h.1)

pub all_both : {A : Type 0} (P Q R : A → Type 0) (xs : List A) → ((x : A) → P x → Q x → R x) → AllByRecursion P xs → AllByRecursion Q xs → AllByRecursion R xs
all_both P Q R [] f h i = tt
all_both P Q R (x ∷ xs) f h i = (f x h.0 i.0, all_both P Q R xs f h.1 i.1)
