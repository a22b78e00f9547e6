use Rattle.std.proofs.lemmas.Result.{err_from_is_err_and}
use Rattle.eco_text.specs.Cursor.{token}
use Rattle.eco_def.proofs.PinClauses.{named_stuck, named_read, named_refused}
use Rattle.eco_def.proofs.reader.Reader.pin_named.Goals as goal

pub returns-in_err-kept-clause-reads : goal.returns-in_err-kept-clause-reads
returns-in_err-kept-clause-reads c =
    let p = err_from_is_err_and c.from_residual.result c.from_residual.ensures.1 in
    rw (p.1, p.2) (named_stuck (token c.args.self.now.words.text c.args.name) c.args.self.now.words c.pin_clauses.new.self.words c.in_err-kept.field-0.0 c.in_err-kept.ensures)

pub returns-in-Some-clause-reads : goal.returns-in-Some-clause-reads
returns-in-Some-clause-reads c =
    rw (c.unwrap_or.ensures, c.unwrap_or-in-Some.ensures) (named_read c.args.name c.in-Some.net c.in_ok-kept.kept c.args.self.now.words c.pin_clauses.new.self.words c.in-Some.is c.in_ok-kept.ensures)

pub returns-in-None-clause-reads : goal.returns-in-None-clause-reads
returns-in-None-clause-reads c =
    named_refused (token c.args.self.now.words.text c.args.name) c.in_ok-kept.kept c.args.self.now.words c.pin_clauses.new.self.words c.bad_statement.result c.in-None.is c.in_ok-kept.ensures c.bad_statement.ensures
