use Rattle.std.proofs.Common.{◌≡◌, ℕ, ◌+◌, Bool, List, length, Option, Some, None, unwrap_or, position, refl, arith}
use Rattle.std.specs.List.{position_or_len}
use Rattle.std.proofs.lemmas.List.Sums.{prefix_len-le-length}
use Rattle.std.proofs.lemmas.Grind.{common_steps}
use Rattle.eco_text.specs.Bytes.{option_add}

pub unwrap_or_position : (p : ℕ → Bool) (xs : List ℕ) → unwrap_or (position p xs) (length xs) ≡ position_or_len p xs
unwrap_or_position p xs = grind (arith, common_steps, prefix_len-le-length)

pub option_add_zero : (o : Option ℕ) → option_add 0 o ≡ o
option_add_zero None = refl
option_add_zero (Some n) = grind arith

pub option_add_twice : (m n : ℕ) (o : Option ℕ) → option_add (m + n) o ≡ option_add m (option_add n o)
option_add_twice m n None = refl
option_add_twice m n (Some k) = grind arith
