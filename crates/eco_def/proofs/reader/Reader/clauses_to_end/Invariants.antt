use Rattle.std.proofs.Common.{List, codes, not}
use Rattle.eco_def.specs.Grammar.{PinClause, pin_clause}
use Rattle.eco_text.specs.Tokens.{is_word}
use Rattle.eco_def.specs.Parsing.{size}
use Rattle.eco_def.specs.Reading.{left}
use Rattle.eco_def.specs.TopPins.{AreKept}
use Rattle.eco_def.proofs.Loops.{Loops}
use Rattle.eco_def.proofs.reader.Reader.clauses_to_end.Given as goal

-- some clauses were read, and what they give first is kept
abbrev pub invariant-clauses : goal.invariant-clauses
invariant-clauses l = (clauses : List PinClause) × AreKept l.initial.self.words.text l.kept clauses × Loops (λ w. not (is_word (codes ";") w)) (λ before. pin_clause) l.initial.self.words clauses l.self.words

abbrev pub decreases-clauses : goal.decreases-clauses
decreases-clauses l = size (left l.self.words)
