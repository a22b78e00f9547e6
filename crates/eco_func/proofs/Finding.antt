-- A binary search among names that ascend.
use Rattle.std.proofs.Common.{◌≡◌, ℕ, zero, suc, ◌+◌, ◌<◌, true, false, List, [], ◌∷◌, length, map, get_or, Some, None, Ordering, Less, Equal, Greater, nat_cmp, is_eq, refl, ap, ◌∙◌, sym, subst, arith, ⊎_elim}
use Rattle.std.specs.Ordering.{is_lt, ordering_reverse, ordering_index}
use Rattle.std.proofs.lemmas.Bool.{cases_lt}
use Rattle.std.proofs.lemmas.List.Sorted.{searchable_from_sorted}
use Rattle.std.specs.Cmp.Lexicographic.{slice_cmp}
use Rattle.std.specs.Str.{bytes_eq}
use Rattle.std.specs.List.{AllByRecursion}
use Rattle.std.specs.List.Sorted.{IsStrictlySortedBy, IsNonDecreasingBy, IsPartitionPoint}
use Rattle.std.proofs.lemmas.Cmp.{nat_list_cmp_total}
use Rattle.std.proofs.lemmas.Map.Text.{is_eq-slice_cmp}
use Rattle.std.proofs.lemmas.Slice.Eq.{bytes_eq-Decides}
use Rattle.eco_func.specs.Masters.{MasterTables}
use Rattle.eco_func.specs.FunctionsFile.{IsByName, find_master}

-- a name before the others is before each of them
before_each : (n : List ℕ) (ms : List MasterTables) → AllByRecursion (λ y. slice_cmp nat_cmp n y ≡ Less) (map (λ m. m.name) ms) → (i : ℕ) (d : MasterTables) → i < length ms → slice_cmp nat_cmp n (get_or ms i d).name ≡ Less
before_each n [] h i d lt = absurd (omega arith)
before_each n (m ∷ ms) h zero d lt = h.0
before_each n (m ∷ ms) h (suc i) d lt = before_each n ms h.1 i d (omega arith)

same_name : (a b : List ℕ) → slice_cmp nat_cmp a b ≡ Equal → bytes_eq a b ≡ true
same_name a b e = sym (is_eq-slice_cmp a b) ∙ ap is_eq e

pub other_name : (a b : List ℕ) → slice_cmp nat_cmp a b ≡ Less → bytes_eq a b ≡ false
other_name a b e = sym (is_eq-slice_cmp a b) ∙ ap is_eq e

find_here : (name : List ℕ) (m : MasterTables) (ms : List MasterTables) → bytes_eq m.name name ≡ true → Some m ≡ find_master name (m ∷ ms)
find_here name m ms e = rw e refl

find_later : (name : List ℕ) (m : MasterTables) (ms : List MasterTables) → bytes_eq m.name name ≡ false → find_master name ms ≡ find_master name (m ∷ ms)
find_later name m ms e = rw e refl

-- the master at a place is found by its name
pub found : (name : List ℕ) (ms : List MasterTables) → IsByName ms → (i : ℕ) (d : MasterTables) → i < length ms → slice_cmp nat_cmp (get_or ms i d).name name ≡ Equal → Some (get_or ms i d) ≡ find_master name ms
unfolding IsStrictlySortedBy
found name [] h i d lt e = absurd (omega arith)
found name (m ∷ ms) h zero d lt e = find_here name m ms (same_name m.name name e)
found name (m ∷ ms) h (suc i) d lt e =
    let here = get_or ms i d in
    let same : here.name ≡ name = (bytes_eq-Decides here.name name).0 (same_name here.name name e) in
    let less = subst (λ n. slice_cmp nat_cmp m.name n ≡ Less) same (before_each m.name ms h.0 i d (omega arith)) in
    found name ms h.1 i d (omega arith) e ∙ find_later name m ms (other_name m.name name less)

-- a name that no master has isn't found
pub missing : (name : List ℕ) (ms : List MasterTables) → ((k : ℕ) (d : MasterTables) → k < length ms → is_eq (slice_cmp nat_cmp (get_or ms k d).name name) ≡ false) → None ≡ find_master name ms
missing name [] h = refl
missing name (m ∷ ms) h =
    missing name ms (λ k d lt. h (suc k) d (omega arith))
    ∙ find_later name m ms (sym (is_eq-slice_cmp m.name name) ∙ h zero m (omega arith))

-- neighbours stand in order
pub neighbours : (ms : List MasterTables) → IsByName ms → (k : ℕ) (d : MasterTables) → k + 1 < length ms → is_lt (slice_cmp nat_cmp (get_or ms (k + 1) d).name (get_or ms k d).name) ≡ false
unfolding IsStrictlySortedBy
neighbours [] h k d lt = absurd (omega arith)
neighbours (m ∷ ms) h zero d lt =
    ap is_lt (nat_list_cmp_total.antisymm (get_or ms 0 d).name m.name ∙ ap ordering_reverse (before_each m.name ms h.0 0 d (omega arith)))
neighbours (m ∷ ms) h (suc k) d lt =
    let e : suc k + 1 ≡ suc (k + 1) = omega arith in
    subst (λ n. is_lt (slice_cmp nat_cmp (get_or (m ∷ ms) n d).name (get_or ms k d).name) ≡ false) (sym e) (neighbours ms h.1 k d (omega arith))

module _ (name : List ℕ) (ms : List MasterTables) where
  abbrev order : MasterTables → Ordering
  order m = slice_cmp nat_cmp m.name name

  -- names that ascend can be searched
  pub searchable : IsByName ms → IsNonDecreasingBy (λ m. ordering_index (order m)) ms
  searchable h = searchable_from_sorted nat_list_cmp_total (λ m. m.name) ms name (λ k d _ lt. neighbours ms h k d lt)

  -- a place between the lesser and the greater names: none is the one that is looked for
  pub none_between : (i : ℕ) → IsPartitionPoint (λ m. order m ≡ Less) (λ m. order m ≡ Greater) ms i → None ≡ find_master name ms
  none_between i point =
      missing name ms (λ k d lt. ⊎_elim (λ below. ap is_eq (point.0 k d (omega arith) below)) (λ above. ap is_eq (point.1 k d above lt)) (cases_lt k i))
