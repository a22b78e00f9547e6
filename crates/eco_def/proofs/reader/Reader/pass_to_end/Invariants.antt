use Rattle.std.proofs.Common.{◌≡◌, ◌≤◌, ℕ, codes}
use Rattle.eco_text.specs.Tokens.{is_word}
use Rattle.eco_def.specs.Parsing.{pass_to_both, size}
use Rattle.eco_def.specs.Reading.{left, IsInOrder}
use Rattle.eco_def.proofs.PassedOver.{pass_on_from}
use Rattle.eco_def.proofs.reader.Reader.pass_to_end.Given as goal

-- the same words are looked for from here on, of which the first may have gone by
abbrev pub invariant-words : goal.invariant-words
invariant-words l =
    (l.self.words.text ≡ l.initial.self.words.text) × (size (left l.self.words) ≤ size (left l.initial.self.words))
    × ((lo hi : ℕ) → IsInOrder lo hi (left l.initial.self.words) → IsInOrder lo hi (left l.self.words))
    × (pass_on_from l.behind_end (is_word (codes "END")) (is_word l.keyword) (left l.self.words) ≡ pass_to_both (is_word (codes "END")) (is_word l.keyword) (left l.initial.self.words))

abbrev pub decreases-words : goal.decreases-words
decreases-words l = size (left l.self.words)
