use Rattle.std.proofs.Common.{[], ◌∷◌, ◌++◌, Ok, ap, sym, ◌∙◌}
use Rattle.eco_lef.specs.Reading.{left}
use Rattle.eco_lef.specs.Grammar.{pin_statement}
use Rattle.eco_lef.specs.Collected.{also_in_pin}
use Rattle.eco_lef.proofs.Loops.{one_more}
use Rattle.eco_lef.proofs.Saying.{pin_more}
use Rattle.eco_lef.proofs.reader.Reader.pin_body.Goals as goal

pub statements-preserved : goal.statements-preserved
statements-preserved c =
    let i = c.statements.invariant in
    let s = c.in-Some.statement in
    let inside = c.args.inside.now in
    let e = c.in_ok-statement.ensures in (
      i.0 ++ s ∷ [],
      c.with-body.ensures ∙ ap (λ b. also_in_pin b s) i.1 ∙ sym (pin_more i.0 s),
      one_more inside (λ before. pin_statement inside) c.args.self.now.words i.0 c.statements.self.words c.pin_statement.new.self.words s i.2 e.text e.shorter e.order (e.value ∙ ap (λ o. Ok (o, left c.pin_statement.new.self.words)) c.in-Some.is),
    )
