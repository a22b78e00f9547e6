use Rattle.std.proofs.Common.{◌≡◌, ℕ, List, map, codes, Some}
use Rattle.eco_common.specs.declared.limits.TheConstants.{MAX_TOP_PINS}
use Rattle.eco_def.specs.Parsing.{size}
use Rattle.eco_def.specs.Grammar.{top_pin_within}
use Rattle.eco_text.specs.Tokens.{is_word}
use Rattle.eco_common.specs.NameBytes.{is_among}
use Rattle.eco_common.specs.KnownNames.{knows}
use Rattle.eco_def.specs.View.{pin_in}
use Rattle.eco_def.specs.Reading.{left}
use Rattle.eco_def.proofs.Loops.{Loops}
use Rattle.eco_def.proofs.reader.Reader.top_pins.Given as goal

-- the top pins that were read, whose names are known
abbrev pub invariant-pins : goal.invariant-pins
invariant-pins l =
    ((q : List ℕ) → knows l.names q ≡ is_among (map (λ p. p.name.bytes) (map (pin_in l.initial.self.words.text) l.pins)) q)
    × Loops (is_word (codes "-")) (top_pin_within (Some MAX_TOP_PINS)) l.initial.self.words (map (pin_in l.initial.self.words.text) l.pins) l.self.words

abbrev pub decreases-pins : goal.decreases-pins
decreases-pins l = size (left l.self.words)
