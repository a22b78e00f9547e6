use Rattle.std.proofs.Common.{List, Some, codes, not}
use Rattle.eco_def.specs.Design.{Part}
use Rattle.eco_def.specs.Parsing.{size}
use Rattle.eco_def.specs.Grammar.{whole_room, part_within}
use Rattle.eco_text.specs.Tokens.{is_word}
use Rattle.eco_def.specs.Reading.{left}
use Rattle.eco_def.specs.Sections.{AreOf, SectionsLie}
use Rattle.eco_def.proofs.Loops.{Loops}
use Rattle.eco_def.proofs.reader.Reader.sections.Given as goal

-- some parts were read, and these are their sections
abbrev pub invariant-parts : goal.invariant-parts
invariant-parts l =
    (ps : List Part) × AreOf l.initial.self.words.text l.sections ps
    × Loops (λ w. not (is_word (codes "END") w)) (part_within (Some whole_room)) l.initial.self.words ps l.self.words
    × SectionsLie l.initial.self.words l.self.words l.sections

abbrev pub decreases-parts : goal.decreases-parts
decreases-parts l = size (left l.self.words)
