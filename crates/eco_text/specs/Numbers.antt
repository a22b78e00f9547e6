-- Numbers in decimal digits.
use Rattle.std.specs.Prelude.{ℕ, ◌+◌, ◌-◌, ◌*◌, ◌^◌, ◌==◌, ◌&&◌, nat_le, ℤ, pos, neg_ℤ, Bool, List, [], ◌∷◌, ◌++◌, take, drop, codes, Option, Some, None, option_and_then, if◌then◌else◌}
use Rattle.std.specs.Char.{is_ascii_digit, digit_value}
use Rattle.std.specs.List.{list_all, list_any, position_or_len}
use Rattle.eco_common.specs.declared.limits.TheConstants.{MAX_MILLIONTHS}

-- the number of these digits after those of n; none where one isn't a digit
abbrev pub digits_behind : ℕ → List ℕ → Option ℕ
digits_behind n [] = Some n
digits_behind n (d ∷ ds) = if is_ascii_digit d then digits_behind (10 * n + digit_value d) ds else None

-- the number that at least one digit makes
abbrev pub natural_of : List ℕ → Option ℕ
natural_of [] = None
natural_of (d ∷ ds) = digits_behind 0 (d ∷ ds)

-- a number without a leading zero
abbrev pub number_of : List ℕ → Option ℕ
number_of [] = None
number_of (d ∷ []) = natural_of (d ∷ [])
number_of (d ∷ e ∷ ds) = if d == 48 then None else natural_of (d ∷ e ∷ ds)

-- a number up to a limit
abbrev pub at_most : ℕ → Option ℕ → Option ℕ
at_most limit number = option_and_then (λ n. if nat_le n limit then Some n else None) number

-- a number after an optional minus, within 32 bits and a sign
abbrev pub integer_of : List ℕ → Option ℤ
integer_of [] = None
integer_of (c ∷ cs) =
    if c == 45 then option_and_then (λ n. Some (neg_ℤ (pos n))) (at_most (2 ^ 31) (natural_of cs))
    else option_and_then (λ n. Some (pos n)) (at_most (2 ^ 31 - 1) (natural_of (c ∷ cs)))

abbrev pub is_point : ℕ → Bool
is_point b = b == 46

-- what stands before the first point of a word, and what stands after it
abbrev pub whole_part : List ℕ → List ℕ
whole_part word = take (position_or_len is_point word) word

abbrev pub decimals : List ℕ → List ℕ
decimals word = drop (position_or_len is_point word + 1) word

-- six decimals: what is missing is 0, and what stands after them is dropped
abbrev pub six_of : List ℕ → List ℕ
six_of digits = take 6 (digits ++ codes "000000")

-- A length in millionths of a micron, up to 10,000 microns: LEF/DEF 5.8, a number with decimals. It has at least one
-- digit, and at most one point before, among or after the digits.
abbrev pub microns_of : List ℕ → Option ℕ
microns_of word =
    if list_any is_ascii_digit word && list_all is_ascii_digit (decimals word)
    then at_most MAX_MILLIONTHS (digits_behind 0 (whole_part word ++ six_of (decimals word))) else None
