-- How far bytes of a text reach.
use Rattle.std.specs.Prelude.{ℕ, ◌+◌, ◌==◌, ◌&&◌, not, Bool, List, [], ◌∷◌, Option, Some, None, if◌then◌else◌}
use Rattle.eco_text.specs.Words.{is_blank}

abbrev pub is_line_feed : ℕ → Bool
is_line_feed b = b == 10

-- neither white space nor a comment begins here
abbrev pub begins_word : ℕ → Bool
begins_word b = not (is_blank b) && not (b == 35)

abbrev pub option_add : ℕ → Option ℕ → Option ℕ
option_add n None = None
option_add n (Some k) = Some (n + k)

-- How many bytes there are up to the first quote that no backslash stands before, with that quote.
abbrev pub quoted_len : Bool → List ℕ → Option ℕ
quoted_len escaped [] = None
quoted_len escaped (b ∷ bs) = if (b == 34) && not escaped then Some 1 else option_add 1 (quoted_len (b == 92) bs)
