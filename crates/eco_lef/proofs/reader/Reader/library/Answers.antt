use Rattle.std.proofs.Common.{◌≡◌, ◌+◌, ◌≤◌, IsSome, List, [], ◌∷◌, ◌++◌, length, nat_le, Option, Some, Ok, refl, ap, sym, subst, ◌∙◌}
use Rattle.std.proofs.lemmas.Result.{err_from_is_err_and}
use Rattle.eco_common.specs.declared.limits.TheConstants.{MAX_MASTERS}
use Rattle.eco_lef.specs.declared.master.Master.{Master}
use Rattle.eco_lef.specs.declared.statement.LibraryStatement.{LibraryStatement}
use Rattle.eco_lef.specs.declared.statement.LibraryStatement.TheVariants.{Defined, Other}
use Rattle.eco_lef.specs.Known.{names_of}
use Rattle.eco_common.specs.NameBytes.{is_among}
use Rattle.eco_lef.specs.Parsing.{give, word_count}
use Rattle.eco_lef.specs.Reading.{left, Refuses, as_is}
use Rattle.eco_lef.specs.Grammar.{library_statement, library_statement_new, masters_of}
use Rattle.eco_lef.proofs.Loops.{begun, one_more, stuck}
use Rattle.eco_lef.proofs.Saying.{masters_more, same_masters}
use Rattle.eco_lef.proofs.reader.Reader.library.Goals as goal

pub statements-init : goal.statements-init
statements-init c = ([], c.new-library.ensures, begun [] (library_statement (nat_le MAX_MASTERS)) c.args.self.now.words)

pub returns-in_err-statement : goal.returns-in_err-statement
returns-in_err-statement c =
    let i = c.statements.invariant in
    let e = c.in_err-statement.field-0.0 in
    let refused = subst (λ (ms : List Master). Refuses (library_statement_new (is_among (names_of ms)) (nat_le MAX_MASTERS (length ms)) (left c.statements.self.words)) e) i.1 c.in_err-statement.ensures.reads.value in
    let p = err_from_is_err_and c.from_residual.result c.from_residual.ensures.1 in
    rw (p.1, p.2)
    (stuck [] (library_statement (nat_le MAX_MASTERS)) (λ ss. give (masters_of ss)) as_is c.args.self.now.words i.0 c.statements.self.words c.library_statement.new.self.words e i.2 c.in_err-statement.ensures.reads.text refused)

pub statements-preserved-in-Defined : goal.statements-preserved-in-Defined
statements-preserved-in-Defined c =
    let i = c.statements.invariant in
    let m = c.in-Defined.master in
    let e = c.in_ok-statement.ensures in
    let new = c.library_statement.new.self.words in
    let is = c.in-Some.is ∙ ap Some c.in-Defined.is in
    let value = subst (λ (ms : List Master). library_statement_new (is_among (names_of ms)) (nat_le MAX_MASTERS (length ms)) (left c.statements.self.words) ≡ Ok (c.in_ok-statement.field-0, left new)) i.1 e.reads.value in
    let goes = subst (λ (o : Option LibraryStatement). IsSome o → word_count (left new) + 1 ≤ word_count (left c.statements.self.words)) is e.goes_on in (
      i.0 ++ Defined m ∷ [],
      c.in_ok-library.ensures ∙ ap (λ ms. ms ++ m ∷ []) i.1 ∙ sym (masters_more i.0 (Defined m)),
      one_more [] (library_statement (nat_le MAX_MASTERS)) c.args.self.now.words i.0 c.statements.self.words new (Defined m) i.2 e.reads.text (goes refl) e.reads.order (value ∙ ap (λ o. Ok (o, left new)) is),
    )

pub statements-preserved : goal.statements-preserved
statements-preserved c =
    let i = c.statements.invariant in
    let e = c.in_ok-statement.ensures in
    let new = c.library_statement.new.self.words in
    let is = c.in-Some.is ∙ ap Some c.in_default-statement.is in
    let value = subst (λ (ms : List Master). library_statement_new (is_among (names_of ms)) (nat_le MAX_MASTERS (length ms)) (left c.statements.self.words) ≡ Ok (c.in_ok-statement.field-0, left new)) i.1 e.reads.value in
    let goes = subst (λ (o : Option LibraryStatement). IsSome o → word_count (left new) + 1 ≤ word_count (left c.statements.self.words)) is e.goes_on in (
      i.0 ++ Other ∷ [],
      i.1 ∙ sym (same_masters i.0),
      one_more [] (library_statement (nat_le MAX_MASTERS)) c.args.self.now.words i.0 c.statements.self.words new Other i.2 e.reads.text (goes refl) e.reads.order (value ∙ ap (λ o. Ok (o, left new)) is),
    )
