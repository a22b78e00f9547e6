use Rattle.std.proofs.Common.{◌≡◌, List, Option, codes, not}
use Rattle.eco_text.specs.Tokens.{is_word}
use Rattle.eco_common.specs.Options.{first_some}
use Rattle.eco_def.specs.Parsing.{size}
use Rattle.eco_def.specs.Grammar.{comp_clause}
use Rattle.eco_def.specs.Reading.{left}
use Rattle.eco_def.specs.declared.place.Place.{Place}
use Rattle.eco_def.proofs.Loops.{Loops}
use Rattle.eco_def.proofs.reader.Reader.comp_place.Given as goal

-- some clauses were read, and this is their first place
abbrev pub invariant-clauses : goal.invariant-clauses
invariant-clauses l = (clauses : List (Option Place)) × (l.place ≡ first_some clauses) × Loops (λ w. not (is_word (codes ";") w)) (λ before. comp_clause) l.initial.self.words clauses l.self.words

abbrev pub decreases-clauses : goal.decreases-clauses
decreases-clauses l = size (left l.self.words)
