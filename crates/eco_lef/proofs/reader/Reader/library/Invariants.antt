use Rattle.std.proofs.Common.{◌≡◌, List, [], nat_le}
use Rattle.eco_common.specs.declared.limits.TheConstants.{MAX_MASTERS}
use Rattle.eco_lef.specs.declared.statement.LibraryStatement.{LibraryStatement}
use Rattle.eco_lef.specs.Parsing.{word_count}
use Rattle.eco_lef.specs.Grammar.{library_statement, masters_of}
use Rattle.eco_lef.specs.Reading.{left}
use Rattle.eco_lef.proofs.Loops.{Loops}
use Rattle.eco_lef.proofs.reader.Reader.library.Given as goal

-- some statements were read, and these are their masters
abbrev pub invariant-statements : goal.invariant-statements
invariant-statements l = (ss : List LibraryStatement) × (l.library ≡ masters_of ss) × Loops [] (library_statement (nat_le MAX_MASTERS)) l.initial.self.words ss l.self.words

abbrev pub decreases-statements : goal.decreases-statements
decreases-statements l = word_count (left l.self.words)
