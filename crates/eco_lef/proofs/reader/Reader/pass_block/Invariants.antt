use Rattle.std.proofs.Common.{◌≡◌, ℕ, ◌+◌, ◌≤◌}
use Rattle.eco_lef.specs.Parsing.{any, choose, word_count}
use Rattle.eco_text.specs.Tokens.{is_word}
use Rattle.eco_lef.specs.Grammar.{pass_block}
use Rattle.eco_lef.specs.Reading.{left}
use Rattle.eco_text.specs.Reading.{IsInOrder}
use Rattle.eco_lef.proofs.reader.Reader.pass_block.Given as goal

-- an END was read: the block ends here, or is passed over from here on
abbrev pub invariant-ends : goal.invariant-ends
invariant-ends l =
    (l.self.words.text ≡ l.fn.self.words.text) × (word_count (left l.self.words) + 1 ≤ word_count (left l.fn.self.words))
    × ((lo hi : ℕ) → IsInOrder lo hi (left l.fn.self.words) → IsInOrder lo hi (left l.self.words))
    × (choose (is_word l.block) (any l.block) (pass_block l.block) (left l.self.words) ≡ pass_block l.block (left l.fn.self.words))

abbrev pub decreases-ends : goal.decreases-ends
decreases-ends l = word_count (left l.self.words)
