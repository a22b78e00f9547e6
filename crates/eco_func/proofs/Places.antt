-- Where a test first passes.
use Rattle.std.proofs.Common.{◌≡◌, ℕ, ◌<◌, ◌≤◌, nat_lt, not, Bool, true, false, cond, List, length, Some, None, refl, sym, arith}
use Rattle.std.specs.List.{position, position_or_len}
use Rattle.std.proofs.lemmas.Bool.Decides.{nat_tests}
use Rattle.std.proofs.lemmas.List.Sums.{prefix_len-le-length}

module _ {X : Type 0} (p : X → Bool) (xs : List X) where
  by_test : (b : Bool) (i : ℕ) → nat_lt (position_or_len p xs) (length xs) ≡ b → cond b (Some (position_or_len p xs)) None ≡ Some i → (i ≡ position_or_len p xs) × (i < length xs)
  by_test true i e h = let same : position_or_len p xs ≡ i = cc in (sym same, less same)
    where
      less : position_or_len p xs ≡ i → i < length xs
      less same = grind (arith, nat_tests)
  by_test false i e h = absurd (cc)

  -- a place is the first at which the test passes
  pub place_is : (i : ℕ) → position p xs ≡ Some i → (i ≡ position_or_len p xs) × (i < length xs)
  place_is i h = by_test (nat_lt (position_or_len p xs) (length xs)) i refl h

  none_by : (b : Bool) → nat_lt (position_or_len p xs) (length xs) ≡ b → cond b (Some (position_or_len p xs)) None ≡ None → length xs ≤ position_or_len p xs
  none_by true e h = absurd (cc)
  none_by false e h = grind (arith, nat_tests)

  -- where it passes nowhere, the first place is the length
  pub no_place : position p xs ≡ None → length xs ≡ position_or_len p xs
  no_place h = omega (arith, none_by (nat_lt (position_or_len p xs) (length xs)) refl h, prefix_len-le-length (λ x. not (p x)) xs)
