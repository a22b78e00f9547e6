use Rattle.std.proofs.Common.{◌≡◌, List, [], ◌∷◌, ◌++◌, None, Ok, ap, sym, subst, ◌∙◌}
use Rattle.std.proofs.lemmas.Result.{err_from_is_err_and}
use Rattle.eco_lef.specs.declared.master.MasterPin.{MasterPin}
use Rattle.eco_lef.specs.declared.macro_statements.MacroBody.{MacroBody}
use Rattle.eco_lef.specs.Known.{pin_names}
use Rattle.eco_common.specs.NameBytes.{is_among}
use Rattle.eco_lef.specs.Parsing.{give}
use Rattle.eco_lef.specs.Reading.{left, Refuses, as_is}
use Rattle.eco_lef.specs.Grammar.{macro_statement, macro_statement_new, macro_said}
use Rattle.eco_lef.specs.Collected.{also_in_macro}
use Rattle.eco_lef.proofs.Loops.{begun, one_more, stuck}
use Rattle.eco_lef.proofs.Saying.{macro_more}
use Rattle.eco_lef.proofs.reader.Reader.macro_body.Goals as goal

pub statements-init : goal.statements-init
statements-init c = ([], ap (λ ps. let b : MacroBody = record { size = None; pins = ps } in b) c.new.ensures, begun c.args.inside.now (macro_statement c.args.inside.now) c.args.self.now.words)

pub returns-in_err-statement : goal.returns-in_err-statement
returns-in_err-statement c =
    let i = c.statements.invariant in
    let inside = c.args.inside.now in
    let e = c.in_err-statement.field-0.0 in
    let refused = subst (λ (ps : List MasterPin). Refuses (macro_statement_new inside (is_among (pin_names ps)) (left c.statements.self.words)) e) (ap (λ b. b.pins) i.1) c.in_err-statement.ensures.value in
    let p = err_from_is_err_and c.from_residual.result c.from_residual.ensures.1 in
    rw (p.1, p.2)
    (stuck inside (macro_statement inside) (λ ss. give (macro_said ss)) as_is c.args.self.now.words i.0 c.statements.self.words c.macro_statement.new.self.words e i.2 c.in_err-statement.ensures.text refused)

pub statements-preserved : goal.statements-preserved
statements-preserved c =
    let i = c.statements.invariant in
    let s = c.in-Some.statement in
    let inside = c.args.inside.now in
    let e = c.in_ok-statement.ensures in
    let new = c.macro_statement.new.self.words in
    let value = subst (λ (ps : List MasterPin). macro_statement_new inside (is_among (pin_names ps)) (left c.statements.self.words) ≡ Ok (c.in_ok-statement.field-0, left new)) (ap (λ b. b.pins) i.1) e.value in (
      i.0 ++ s ∷ [],
      c.in_ok-body.ensures ∙ ap (λ b. also_in_macro b s) i.1 ∙ sym (macro_more i.0 s),
      one_more inside (macro_statement inside) c.args.self.now.words i.0 c.statements.self.words new s i.2 e.text e.shorter e.order (value ∙ ap (λ o. Ok (o, left new)) c.in-Some.is),
    )
