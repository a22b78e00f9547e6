-- The first object of a name, and the lists without it.
use Rattle.std.specs.Str.{bytes_eq}
use Rattle.std.specs.List.{remove}
use Rattle.std.proofs.Common.{◌≡◌, ℕ, zero, suc, ◌+◌, ◌<◌, ◌≤◌, cond, not, Option, MatchOption, Bool, true, false, List, [], ◌∷◌, length, map, get_or, Some, None, position, refl, ap, sym, ◌∙◌, arith, if◌then◌else◌}
use Rattle.std.proofs.Math.Path.{fun_ext}
use Rattle.std.proofs.lemmas.List.Quantifiers.{position-Some}
use Rattle.std.specs.List.{position_or_len}
use Rattle.std.proofs.lemmas.Grind.{common_steps}
use Rattle.std.proofs.lemmas.Slice.Eq.{bytes_eq-Decides}
use Rattle.eco_text.specs.InMemory.{InMemory}
use Rattle.eco_cli.specs.Laid.{Laid, ready}
use Rattle.eco_cli.specs.Opens.{Ready, rest_of, without_first, IsFirst}

-- the object at the first place of a name is the first of that name
first_at : {A : Type 0} (view : A → Laid) (name : List ℕ) (ls : List A) (i : ℕ) (d : A) → i < length ls → bytes_eq (view (get_or ls i d)).name name ≡ true → ((k : ℕ) → k < i → bytes_eq (view (get_or ls k d)).name name ≡ false) →
    (others : List InMemory) × (ready (map view ls) name ≡ (view (get_or ls i d)).object ∷ others)
first_at view name [] i d lt found before = absurd (omega arith)
first_at view name (l ∷ ls) zero d lt found before = (ready (map view ls) name, ap (λ b. if b then (view l).object ∷ ready (map view ls) name else ready (map view ls) name) found)
first_at view name (l ∷ ls) (suc i) d lt found before =
    let rest = first_at view name ls i d (omega arith) found (λ k h. before (suc k) (omega arith)) in
    (rest.0, ap (λ b. if b then (view l).object ∷ ready (map view ls) name else ready (map view ls) name) (before 0 (omega arith)) ∙ rest.1)

here : (x : InMemory) (xs : List InMemory) (a b : Bool) → a ≡ b → xs ≡ (if b then rest_of (if a then x ∷ xs else xs) else (if a then x ∷ xs else xs))
here x xs true true same = refl
here x xs false false same = refl
here x xs true false same = cc
here x xs false true same = cc

there : (x : InMemory) (xs ys : List InMemory) (a b : Bool) → (b ≡ true → a ≡ false) → ys ≡ (if b then rest_of xs else xs) → (if a then x ∷ ys else ys) ≡ (if b then rest_of (if a then x ∷ xs else xs) else (if a then x ∷ xs else xs))
there x xs ys true true apart is = let off : true ≡ false = apart refl in cc
there x xs ys false true apart is = is
there x xs ys true false apart is = ap (λ k. x ∷ k) is
there x xs ys false false apart is = is

-- the lists without that object
without_at : {A : Type 0} (view : A → Laid) (name : List ℕ) (ls : List A) (i : ℕ) (d : A) → i < length ls → bytes_eq (view (get_or ls i d)).name name ≡ true → ((k : ℕ) → k < i → bytes_eq (view (get_or ls k d)).name name ≡ false) → (other : List ℕ) →
    ready (map view (remove ls i)) other ≡ (if bytes_eq name other then rest_of (ready (map view ls) other) else ready (map view ls) other)
without_at view name [] i d lt found before other = absurd (omega arith)
without_at view name (l ∷ ls) zero d lt found before other =
    here (view l).object (ready (map view ls) other) (bytes_eq (view l).name other) (bytes_eq name other) (ap (λ k. bytes_eq k other) ((bytes_eq-Decides (view l).name name).0 found))
without_at view name (l ∷ ls) (suc i) d lt found before other =
    there (view l).object (ready (map view ls) other) (ready (map view (remove ls i)) other) (bytes_eq (view l).name other) (bytes_eq name other)
    (λ on. ap (bytes_eq (view l).name) (sym ((bytes_eq-Decides name other).0 on)) ∙ before 0 (omega arith))
    (without_at view name ls i d (omega arith) found (λ k h. before (suc k) (omega arith)) other)

-- an open of the first object of a name
pub opened : {A : Type 0} (view : A → Laid) (name : List ℕ) (ls ms : List A) (i : ℕ) (x : A) → position (λ l. bytes_eq (view l).name name) ls ≡ Some i → x ≡ get_or ls i x → ms ≡ remove ls i →
    IsFirst name (Some (ready (map view ls))) (view x).object × (Some (ready (map view ms)) ≡ without_first name (Some (ready (map view ls))))
opened view name ls ms i x at is removed =
    let p = position-Some (λ l. bytes_eq (view l).name name) ls i x at in
    let f = first_at view name ls i x p.0 p.1 p.2 in (
      (λ lists told. (f.0, ap (λ g. of g name) (sym told) ∙ f.1 ∙ ap (λ k. (view k).object ∷ f.0) (sym is))),
      ap Some (ap (λ k. ready (map view k)) removed ∙ fun_ext (without_at view name ls i x p.0 p.1 p.2)),
    )
  where
    of : Ready InMemory → List ℕ → List InMemory
    of None n = []
    of (Some g) n = g n

here_none : (b : Bool) (n m : ℕ) (x : InMemory) (xs : List InMemory) → suc n ≤ cond (not b) (1 + m) 0 → (n ≤ m → xs ≡ []) → (if b then x ∷ xs else xs) ≡ []
here_none true n m x xs end rest = absurd (omega arith)
here_none false n m x xs end rest = rest (omega arith)

none_up_to : {A : Type 0} (view : A → Laid) (name : List ℕ) (ls : List A) → length ls ≤ position_or_len (λ l. bytes_eq (view l).name name) ls → ready (map view ls) name ≡ []
none_up_to view name [] end = refl
none_up_to view name (l ∷ ls) end =
    here_none (bytes_eq (view l).name name) (length ls) (position_or_len (λ k. bytes_eq (view k).name name) ls) (view l).object (ready (map view ls) name) end (none_up_to view name ls)

-- no place has the name
pub none_laid : {A : Type 0} (view : A → Laid) (name : List ℕ) (ls : List A) → position (λ l. bytes_eq (view l).name name) ls ≡ None → ready (map view ls) name ≡ []
none_laid view name ls none = none_up_to view name ls (end (λ l. bytes_eq (view l).name name) ls none)
  where
    end : {A : Type 0} (p : A → Bool) (ls : List A) → position p ls ≡ None → length ls ≤ position_or_len p ls
    end p ls none = grind (arith, common_steps)

-- the first place of a name, and that there is none
pub place_of : {A : Type 0} (view : A → Laid) (name : List ℕ) (ls : List A) (r : Option ℕ) → r ≡ position (λ l. bytes_eq (view l).name name) ls →
    MatchOption r (ready (map view ls) name ≡ []) (λ i. position (λ l. bytes_eq (view l).name name) ls ≡ Some i)
place_of view name ls None is = none_laid view name ls (sym is)
place_of view name ls (Some i) is = sym is
