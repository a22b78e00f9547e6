use Rattle.std.proofs.Common.{◌≡◌, ◌≤◌, ℕ}
use Rattle.eco_text.specs.Tokens.{is_word}
use Rattle.eco_lef.specs.Parsing.{pass_to, word_count}
use Rattle.eco_lef.specs.Reading.{left}
use Rattle.eco_text.specs.Reading.{IsInOrder}
use Rattle.eco_lef.proofs.reader.Reader.pass_to.Given as goal

-- the same word is looked for from here on
abbrev pub invariant-words : goal.invariant-words
invariant-words l =
    (l.self.words.text ≡ l.initial.self.words.text) × (word_count (left l.self.words) ≤ word_count (left l.initial.self.words))
    × ((lo hi : ℕ) → IsInOrder lo hi (left l.initial.self.words) → IsInOrder lo hi (left l.self.words))
    × (pass_to l.inside (is_word l.keyword) (left l.self.words) ≡ pass_to l.inside (is_word l.keyword) (left l.initial.self.words))

abbrev pub decreases-words : goal.decreases-words
decreases-words l = word_count (left l.self.words)
