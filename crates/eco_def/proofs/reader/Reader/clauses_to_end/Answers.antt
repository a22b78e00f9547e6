use Rattle.std.proofs.Common.{[], ◌∷◌, ◌++◌, refl, not, codes, List, ℕ}
use Rattle.std.proofs.lemmas.Result.{err_from_is_err_and}
use Rattle.eco_def.specs.declared.pin_clause.PinClauses.{PinClauses}
use Rattle.eco_def.specs.Grammar.{PinClause, pin_clause}
use Rattle.eco_text.specs.Tokens.{is_word}
use Rattle.eco_def.specs.TopPins.{clause_in}
use Rattle.eco_def.proofs.Loops.{begun, one_more, stuck, ended}
use Rattle.eco_def.proofs.PinClauses.{kept_more}
use Rattle.eco_def.proofs.reader.Reader.clauses_to_end.Goals as goal

pub clauses-init : goal.clauses-init
clauses-init c = ([], record { net = refl; dir = refl; supply = refl }, begun (λ w. not (is_word (codes ";") w)) (λ before. pin_clause) c.args.self.now.words)

pub clauses-preserved : goal.clauses-preserved
clauses-preserved c =
    let i = c.clauses.invariant in
    let text = c.args.self.now.words.text in
    let seen = clause_in text c.in_ok-clause.clause in (
      i.0 ++ seen ∷ [],
      kept_more text c.clauses.kept c.add.new.self i.0 c.in_ok-clause.clause i.1 c.add.ensures.net c.add.ensures.dir c.add.ensures.supply,
      rw i.2.text at (one_more (λ w. not (is_word (codes ";") w)) (λ before. pin_clause) clause_in c.args.self.now.words i.0 c.clauses.self.words c.pin_clause.new.self.words c.in_ok-clause.clause i.2 c.clauses-test.ensures c.in_ok-clause.ensures),
    )

pub returns-in_err-clause : goal.returns-in_err-clause
returns-in_err-clause c =
    let i = c.clauses.invariant in
    let p = err_from_is_err_and c.from_residual.result c.from_residual.ensures.1 in
    let none : List ℕ → PinClauses → List PinClause = λ text kept. [] in
    rw (p.1, p.2) (record {
      clauses = [];
      reads = stuck (λ w. not (is_word (codes ";") w)) (λ before. pin_clause) clause_in none c.args.self.now.words i.0 c.clauses.self.words c.pin_clause.new.self.words c.in_err-clause.field-0.0 i.2 c.clauses-test.ensures c.in_err-clause.ensures;
      kept = tt;
    })

pub returns : goal.returns
returns c =
    let i = c.clauses.invariant in
    let all : List ℕ → PinClauses → List PinClause = λ text kept. i.0 in
    record {
      clauses = i.0;
      reads = ended (λ w. not (is_word (codes ";") w)) (λ before. pin_clause) all c.args.self.now.words c.clauses.kept c.clauses.self.words i.2 c.clauses-test.ensures;
      kept = i.1;
    }
