use Rattle.std.proofs.Common.{◌≡◌, ℕ, List, map, codes, Some}
use Rattle.eco_def.specs.Parsing.{size}
use Rattle.eco_def.specs.Grammar.{net_within, room_after}
use Rattle.eco_text.specs.Tokens.{is_word}
use Rattle.eco_common.specs.NameBytes.{is_among}
use Rattle.eco_common.specs.KnownNames.{knows}
use Rattle.eco_def.specs.View.{net_in}
use Rattle.eco_def.specs.Reading.{left}
use Rattle.eco_def.specs.Sections.{ArePlacedBetween, AreOfKind}
use Rattle.eco_def.proofs.Loops.{Loops}
use Rattle.eco_def.proofs.reader.Reader.nets.Given as goal

-- the statements that were read, whose names are known, and which lie one after another
abbrev pub invariant-statements : goal.invariant-statements
invariant-statements l =
    ((q : List ℕ) → knows l.names q ≡ is_among (map (λ n. n.name.bytes) (map (net_in l.initial.self.words.text) l.nets)) q)
    × Loops (is_word (codes "-")) (net_within (Some l.fn.room)) l.initial.self.words (map (net_in l.initial.self.words.text) l.nets) l.self.words
    × ArePlacedBetween l.initial.self.words l.self.words l.nets
    × AreOfKind l.fn.special l.nets
    × (l.room_left ≡ room_after l.fn.room (map (net_in l.initial.self.words.text) l.nets))

abbrev pub decreases-statements : goal.decreases-statements
decreases-statements l = size (left l.self.words)
