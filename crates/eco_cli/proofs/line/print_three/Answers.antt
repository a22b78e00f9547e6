use Rattle.std.proofs.Common.{[], ◌∷◌, subst}
use Rattle.eco_text.specs.Writing.{Writes}
use Rattle.eco_cli.proofs.Lines.{six}
use Rattle.eco_cli.proofs.line.print_three.Goals as goal

pub returns : goal.returns
returns g c =
    subst (Writes g.O.Sink.taken g.O.Sink.faults c.args.out.now c.write_pieces.new.sink c.write_pieces.result)
    (six c.args.head.now c.args.first.now c.args.word.now c.args.second.now c.args.last_word.now c.args.third.now (10 ∷ [])) c.write_pieces.ensures
