-- Pieces of a line, and its end.
use Rattle.std.proofs.Common.{◌≡◌, ℕ, List, ◌++◌, ap, sym, ◌∙◌}
use Rattle.std.proofs.lemmas.List.{append_assoc}

pub two : (a b e : List ℕ) → a ++ (b ++ e) ≡ (a ++ b) ++ e
two a b e = sym (append_assoc a b e)

pub four : (a b c d e : List ℕ) → a ++ (b ++ (c ++ (d ++ e))) ≡ (a ++ (b ++ (c ++ d))) ++ e
four a b c d e =
    ap (λ l. a ++ l) (ap (λ l. b ++ l) (two c d e) ∙ two b (c ++ d) e) ∙ two a (b ++ (c ++ d)) e

pub six : (a b c d f g e : List ℕ) → a ++ (b ++ (c ++ (d ++ (f ++ (g ++ e))))) ≡ (a ++ (b ++ (c ++ (d ++ (f ++ g))))) ++ e
six a b c d f g e =
    ap (λ l. a ++ l) (ap (λ l. b ++ l) (four c d f g e) ∙ two b (c ++ (d ++ (f ++ g))) e) ∙ two a (b ++ (c ++ (d ++ (f ++ g)))) e
