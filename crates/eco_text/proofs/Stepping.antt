-- A walk one byte on.
use Rattle.std.proofs.Common.{◌≡◌, ℕ, ◌+◌, true, List, [], ◌∷◌, refl, ap, ◌∙◌}
use Rattle.eco_text.specs.Words.{Token, word_then, Mode, between, plain, is_blank, plain_word, step, ends, walk, ◌+++◌}

-- a word ends before these bytes
abbrev pub Closes : List ℕ → Type 0
Closes [] = Unit {0}
Closes (b ∷ bs) = is_blank b ≡ true

pub flush : (s p : ℕ) (w z : List ℕ) → Closes z → walk (plain s w) p z ≡ word_then (plain_word s w p) (walk between p z)
flush s p w [] c = refl
flush s p w (b ∷ bs) c = rw c refl

-- the mode after a byte, and the words that it ends, give the walk
pub stepped : (m : Mode) (p b : ℕ) (bs : List ℕ) (k : Mode) (es : List Token) → step m p b ≡ k → ends m p b ≡ es → walk m p (b ∷ bs) ≡ es +++ walk k (p + 1) bs
stepped m p b bs k es to gives = ap (λ l. l +++ walk (step m p b) (p + 1) bs) gives ∙ ap (λ l. es +++ walk l (p + 1) bs) to
