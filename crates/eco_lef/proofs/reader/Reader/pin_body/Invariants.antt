use Rattle.std.proofs.Common.{◌≡◌, List}
use Rattle.eco_lef.specs.declared.statement.PinStatement.{PinStatement}
use Rattle.eco_lef.specs.Parsing.{word_count}
use Rattle.eco_lef.specs.Grammar.{pin_statement, pin_said}
use Rattle.eco_lef.specs.Reading.{left}
use Rattle.eco_lef.proofs.Loops.{Loops}
use Rattle.eco_lef.proofs.reader.Reader.pin_body.Given as goal

-- some statements were read, and this is what they said
abbrev pub invariant-statements : goal.invariant-statements
invariant-statements l = (ss : List PinStatement) × (l.body ≡ pin_said ss) × Loops l.inside (λ before. pin_statement l.inside) l.initial.self.words ss l.self.words

abbrev pub decreases-statements : goal.decreases-statements
decreases-statements l = word_count (left l.self.words)
