use Rattle.std.proofs.Common.{[], List, ℕ, sym, ◌∙◌, codes}
use Rattle.eco_def.specs.declared.pin_clause.PinClauses.{PinClauses}
use Rattle.eco_def.specs.Grammar.{PinClause, pin_clause, pin_clauses}
use Rattle.eco_text.specs.Tokens.{is_word}
use Rattle.eco_def.specs.Parsing.{many_until}
use Rattle.eco_def.specs.Reading.{left}
use Rattle.eco_def.proofs.PassedOver.{reads_as, stays_refused}
use Rattle.eco_def.proofs.PinClauses.{clauses_refused, clauses_read}
use Rattle.eco_def.proofs.reader.Reader.pin_clauses.Goals as goal

pub returns-then-not-next_is_one_of : goal.returns-then-not-next_is_one_of
returns-then-not-next_is_one_of c =
    let none : List ℕ → PinClauses → List PinClause = λ text kept. [] in
    record {
      clauses = [];
      reads = stays_refused 0 none pin_clauses c.args.self.now.words c.bad_statement.result (clauses_refused (left c.args.self.now.words) c.bad_statement.result (sym c.next_is_one_of.ensures ∙ c.if-not-next_is_one_of.true) c.bad_statement.ensures);
      kept = tt;
    }

pub returns : goal.returns
returns c =
    let e = c.clauses_to_end.ensures in
    let all : List ℕ → PinClauses → List PinClause = λ text kept. e.clauses in
    record {
      clauses = e.clauses;
      reads = reads_as 0 all (many_until (is_word (codes ";")) (λ before. pin_clause)) pin_clauses c.args.self.now.words c.clauses_to_end.new.self.words c.clauses_to_end.result (clauses_read (left c.args.self.now.words) (sym c.next_is_one_of.ensures ∙ c.if-not-next_is_one_of.false)) e.reads;
      kept = e.kept;
    }
