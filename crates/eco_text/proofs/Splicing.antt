-- Words of texts in parts.
use Rattle.std.proofs.Common.{◌≡◌, ℕ, ◌+◌, List, [], ◌∷◌, ◌++◌, length, refl, ap, sym, ◌∙◌, arith}
use Rattle.eco_text.specs.Words.{Token, Walk, word_then, Mode, walk, step, ends, ◌+++◌}
use Rattle.eco_text.specs.Splices.{mode_after, ended, Splices}

pub join : (a b : List Token) (u : Walk) → (a ++ b) +++ u ≡ a +++ (b +++ u)
join [] b u = refl
join (t ∷ a) b u = ap (word_then t) (join a b u)

splice_at : (m : Mode) (p : ℕ) (a b : List ℕ) (k : ℕ) → k ≡ p + length a → walk m p (a ++ b) ≡ ended m p a +++ walk (mode_after m p a) k b
splice_at m p [] b k e = let h : p ≡ k = omega (arith, e) in ap (λ j. walk m j b) h
splice_at m p (x ∷ a) b k e =
    let h : k ≡ p + 1 + length a = omega (arith, e) in
    ap (λ u. ends m p x +++ u) (splice_at (step m p x) (p + 1) a b k h) ∙ sym (join (ends m p x) (ended (step m p x) (p + 1) a) (walk (mode_after (step m p x) (p + 1) a) k b))

pub splice : Splices
splice m p a b = splice_at m p a b (p + length a) refl
