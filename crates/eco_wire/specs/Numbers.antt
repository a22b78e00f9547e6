-- Numbers in decimal digits.
use Rattle.std.specs.Prelude.{ℕ, Bool, false, ◌&&◌, ◌==◌, nat_lt, nat_le, List, [], ◌∷◌, length, Option, Some, None, if◌then◌else◌}
use Rattle.std.specs.Char.{is_ascii_digit}
use Rattle.std.specs.List.{list_all}
use Rattle.std.specs.Str.Parse.{digits_value}

-- 1 to 20 digits, and nothing else: the form of Content-Length (RFC 9110, section 8.6), with a limit of 20 digits
abbrev pub are_digits : List ℕ → Bool
are_digits text = nat_lt 0 (length text) && nat_le (length text) 20 && list_all is_ascii_digit text

-- the number that 1 to 20 digits write
abbrev pub number_of_digits : List ℕ → Option ℕ
number_of_digits text = if are_digits text then Some (digits_value 10 text) else None

-- a zero that isn't the only digit stands in front
abbrev pub leads_with_zero : List ℕ → Bool
leads_with_zero [] = false
leads_with_zero (d ∷ []) = false
leads_with_zero (d ∷ _ ∷ _) = d == 48
