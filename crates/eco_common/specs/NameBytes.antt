-- The bytes of names: LEF/DEF 5.8, "Typographic and syntax conventions".
use Rattle.std.specs.Prelude.{ℕ, nat_le, ◌&&◌, ◌||◌, ◌==◌, Bool, false, List, [], ◌∷◌, length}
use Rattle.std.specs.List.{list_all, list_any}
use Rattle.std.specs.Str.{bytes_eq, byte}
use Rattle.eco_common.specs.declared.limits.TheConstants.{MAX_NAME_BYTES}

-- a byte that a name may have: printable and no blank
abbrev pub is_name_byte : ℕ → Bool
is_name_byte b = nat_le 33 b && nat_le b 126

-- 1 to 1,024 such bytes
abbrev pub is_name : List ℕ → Bool
is_name bytes = nat_le 1 (length bytes) && nat_le (length bytes) MAX_NAME_BYTES && list_all is_name_byte bytes

-- one of the five words that stand for themselves: ; ( ) + -
abbrev pub is_mark : List ℕ → Bool
is_mark [] = false
is_mark (b ∷ []) = b == byte ";" || b == byte "(" || b == byte ")" || b == byte "+" || b == byte "-"
is_mark (b ∷ c ∷ bs) = false

-- the bytes are one of these names
abbrev pub is_among : List (List ℕ) → List ℕ → Bool
is_among names bytes = list_any (λ n. bytes_eq n bytes) names
