use Rattle.std.proofs.Common.{append-nil}
use Rattle.eco_text.proofs.Sequence.{then}
use Rattle.eco_cli.specs.Steps.{bytes_of}
use Rattle.eco_cli.proofs.Writing.{finishes}
use Rattle.eco_cli.proofs.output.fill.Goals as goal

pub returns : goal.returns
returns g c =
    let first = rw c.in_ok-write_plan.was at c.write_plan.ensures in
    let last = finishes g.K.Sink.taken g.K.Sink.faults c.write_plan.new.sink c.finish.new.self c.finish.result c.finish.ensures.bytes c.finish.ensures.cause in
    rw (append-nil (bytes_of c.args.plan.now)) at (then first last)
