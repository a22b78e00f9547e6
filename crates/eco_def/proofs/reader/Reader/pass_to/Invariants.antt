use Rattle.std.proofs.Common.{◌≡◌, ◌≤◌, ℕ}
use Rattle.eco_text.specs.Tokens.{is_word}
use Rattle.eco_def.specs.Parsing.{pass_to, size}
use Rattle.eco_def.specs.Reading.{left, IsInOrder}
use Rattle.eco_def.proofs.reader.Reader.pass_to.Given as goal

-- the same word is looked for from here on
abbrev pub invariant-words : goal.invariant-words
invariant-words l =
    (l.self.words.text ≡ l.initial.self.words.text) × (size (left l.self.words) ≤ size (left l.initial.self.words))
    × ((lo hi : ℕ) → IsInOrder lo hi (left l.initial.self.words) → IsInOrder lo hi (left l.self.words))
    × (pass_to (is_word l.keyword) (left l.self.words) ≡ pass_to (is_word l.keyword) (left l.initial.self.words))

abbrev pub decreases-words : goal.decreases-words
decreases-words l = size (left l.self.words)
