use Rattle.std.proofs.Common.{◌≡◌, List, Option, codes, not}
use Rattle.eco_text.specs.Words.{Token}
use Rattle.eco_text.specs.Tokens.{is_word}
use Rattle.eco_common.specs.Options.{first_some}
use Rattle.eco_def.specs.Parsing.{size}
use Rattle.eco_def.specs.Grammar.{net_clause}
use Rattle.eco_def.specs.View.{usage_in}
use Rattle.eco_def.specs.Reading.{left}
use Rattle.eco_def.proofs.Loops.{Loops}
use Rattle.eco_def.proofs.reader.Reader.usage.Given as goal

-- some clauses were read, and this is their first use
abbrev pub invariant-clauses : goal.invariant-clauses
invariant-clauses l = (clauses : List (Option Token)) × (usage_in l.initial.self.words.text l.usage ≡ first_some clauses) × Loops (λ w. not (is_word (codes ";") w)) net_clause l.initial.self.words clauses l.self.words

abbrev pub decreases-clauses : goal.decreases-clauses
decreases-clauses l = size (left l.self.words)
