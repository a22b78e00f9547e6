use Rattle.std.proofs.Common.{◌≡◌, ℕ, List, map, codes, Some}
use Rattle.eco_common.specs.declared.limits.TheConstants.{MAX_COMPS}
use Rattle.eco_def.specs.Parsing.{size}
use Rattle.eco_def.specs.Grammar.{comp_within}
use Rattle.eco_text.specs.Tokens.{is_word}
use Rattle.eco_common.specs.NameBytes.{is_among}
use Rattle.eco_common.specs.KnownNames.{knows}
use Rattle.eco_def.specs.View.{comp_in}
use Rattle.eco_def.specs.Reading.{left}
use Rattle.eco_def.proofs.Loops.{Loops}
use Rattle.eco_def.proofs.reader.Reader.comps.Given as goal

-- the components that were read, whose names are known
abbrev pub invariant-comps : goal.invariant-comps
invariant-comps l =
    ((q : List ℕ) → knows l.names q ≡ is_among (map (λ c. c.name.bytes) (map (comp_in l.initial.self.words.text) l.comps)) q)
    × Loops (is_word (codes "-")) (comp_within (Some MAX_COMPS)) l.initial.self.words (map (comp_in l.initial.self.words.text) l.comps) l.self.words

abbrev pub decreases-comps : goal.decreases-comps
decreases-comps l = size (left l.self.words)
