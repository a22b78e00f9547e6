-- Tests of words.
use Rattle.std.specs.Prelude.{◌==◌, ◌&&◌, ◌||◌, not, ℕ, Bool, false, List, [], ◌∷◌}
use Rattle.std.specs.List.{list_any}
use Rattle.std.specs.Str.{bytes_eq}
use Rattle.eco_common.specs.NameBytes.{is_name as is_name_of, is_mark}
use Rattle.eco_text.specs.Words.{Token, plain_word}

-- the word is this one, and not quoted
abbrev pub is_word : List ℕ → Token → Bool
is_word keyword w = not w.quoted && bytes_eq w.bytes keyword

abbrev pub is_one_of : List (List ℕ) → Token → Bool
is_one_of keywords w = list_any (λ keyword. is_word keyword w) keywords

-- a name: neither quoted nor one of the five words that stand for themselves
abbrev pub is_name : Token → Bool
is_name w = not w.quoted && not (is_mark w.bytes) && is_name_of w.bytes

-- The bytes are read as a word that is a name: they begin neither a comment nor a quoted word.
abbrev pub can_name : List ℕ → Bool
can_name [] = false
can_name (b ∷ bs) = not (b == 35 || b == 34) && is_name (plain_word 0 (b ∷ bs) 0)
