use Rattle.std.proofs.Common.{[], ◌∷◌, subst}
use Rattle.eco_text.specs.Writing.{Writes}
use Rattle.eco_cli.proofs.Lines.{four}
use Rattle.eco_cli.proofs.line.print_two.Goals as goal

pub returns : goal.returns
returns g c =
    subst (Writes g.O.Sink.taken g.O.Sink.faults c.args.out.now c.write_pieces.new.sink c.write_pieces.result)
    (four c.args.head.now c.args.first.now c.args.word.now c.args.second.now (10 ∷ [])) c.write_pieces.ensures
