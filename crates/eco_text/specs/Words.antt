-- The words of a LEF or DEF text: LEF/DEF 5.8 Language Reference, "Typographic and syntax conventions", in this project's profile (docs/FORMATS.md).
use Rattle.std.specs.Prelude.{ℕ, ◌+◌, ◌==◌, ◌&&◌, ◌||◌, not, Bool, true, false, List, [], ◌∷◌, ◌++◌, if◌then◌else◌}

-- a word: its bytes, and where it stands
pub record Token : Type 0 where
  pub bytes : List ℕ
  pub quoted : Bool
  pub start : ℕ
  pub end : ℕ

-- The words up to the end of a text, or up to a quoted word that doesn't end.
pub data Walk : Type 0 where
  finished : (place : ℕ) → Walk
  open_quote : (place : ℕ) → Walk
  word_then : (first : Token) → (others : Walk) → Walk

-- Where a byte stands: between words, in a comment, or in a word of which some bytes have gone by.
-- In a quoted word: whether a backslash stands before the byte.
pub data Mode : Type 0 where
  between : Mode
  comment : Mode
  plain : (start : ℕ) → (bytes : List ℕ) → Mode
  quote : (escaped : Bool) → (start : ℕ) → (bytes : List ℕ) → Mode

-- tab, line feed, carriage return and blank
abbrev pub is_blank : ℕ → Bool
is_blank b = (b == 9) || (b == 10) || (b == 13) || (b == 32)

abbrev pub plain_word : ℕ → List ℕ → ℕ → Token
plain_word start bytes end = record { bytes = bytes; quoted = false; start = start; end = end }

abbrev pub quoted_word : ℕ → List ℕ → ℕ → Token
quoted_word start bytes end = record { bytes = bytes; quoted = true; start = start; end = end }

-- the mode after a byte at a place
abbrev pub step : Mode → ℕ → ℕ → Mode
step between place b =
    if is_blank b then between
    else if b == 35 then comment
    else if b == 34 then quote false place (b ∷ [])
    else plain place (b ∷ [])
step comment place b = if b == 10 then between else comment
step (plain start bytes) place b = if is_blank b then between else plain start (bytes ++ b ∷ [])
step (quote escaped start bytes) place b = if (b == 34) && not escaped then between else quote (b == 92) start (bytes ++ b ∷ [])

-- the word that the byte ends: white space ends a plain word before it, and a quote ends a quoted word with it
abbrev pub ends : Mode → ℕ → ℕ → List Token
ends between place b = []
ends comment place b = []
ends (plain start bytes) place b = if is_blank b then plain_word start bytes place ∷ [] else []
ends (quote escaped start bytes) place b = if (b == 34) && not escaped then quoted_word start (bytes ++ b ∷ []) (place + 1) ∷ [] else []

infixr 20 ◌+++◌
abbrev pub ◌+++◌ : List Token → Walk → Walk
[] +++ others = others
(w ∷ ws) +++ others = word_then w (ws +++ others)

-- the end of a text
abbrev pub at_end : Mode → ℕ → Walk
at_end between place = finished place
at_end comment place = finished place
at_end (plain start bytes) place = word_then (plain_word start bytes place) (finished place)
at_end (quote escaped start bytes) place = open_quote start

-- the words of bytes, of which the first stands at a place
abbrev pub walk : Mode → ℕ → List ℕ → Walk
walk mode place [] = at_end mode place
walk mode place (b ∷ bs) = ends mode place b +++ walk (step mode place b) (place + 1) bs

abbrev pub walk_of : List ℕ → Walk
walk_of text = walk between 0 text
