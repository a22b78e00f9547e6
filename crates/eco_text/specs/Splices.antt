-- Laws of words.
use Rattle.std.specs.Prelude.{◌≡◌, ℕ, ◌+◌, List, [], ◌∷◌, ◌++◌, length}
use Rattle.eco_text.specs.Words.{Token, Mode, walk, step, ends, ◌+++◌}

-- the mode after some bytes, and the words that ended in them
abbrev pub mode_after : Mode → ℕ → List ℕ → Mode
mode_after mode place [] = mode
mode_after mode place (b ∷ bs) = mode_after (step mode place b) (place + 1) bs

abbrev pub ended : Mode → ℕ → List ℕ → List Token
ended mode place [] = []
ended mode place (b ∷ bs) = ends mode place b ++ ended (step mode place b) (place + 1) bs

abbrev pub Splices : Type 0
Splices = (mode : Mode) (place : ℕ) (a b : List ℕ) → walk mode place (a ++ b) ≡ ended mode place a +++ walk (mode_after mode place a) (place + length a) b
