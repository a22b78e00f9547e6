use Rattle.std.proofs.Common.{◌≡◌, List}
use Rattle.eco_lef.specs.declared.statement.MacroStatement.{MacroStatement}
use Rattle.eco_lef.specs.Parsing.{word_count}
use Rattle.eco_lef.specs.Grammar.{macro_statement, macro_said}
use Rattle.eco_lef.specs.Reading.{left}
use Rattle.eco_lef.proofs.Loops.{Loops}
use Rattle.eco_lef.proofs.reader.Reader.macro_body.Given as goal

-- some statements were read, and this is what they said
abbrev pub invariant-statements : goal.invariant-statements
invariant-statements l = (ss : List MacroStatement) × (l.body ≡ macro_said ss) × Loops l.inside (macro_statement l.inside) l.initial.self.words ss l.self.words

abbrev pub decreases-statements : goal.decreases-statements
decreases-statements l = word_count (left l.self.words)
