use Rattle.std.proofs.Common.{ap}
use Rattle.eco_cli.specs.Laid.{laid_sink}
use Rattle.eco_cli.proofs.Opening.{opened}
use Rattle.eco_cli.proofs.memory.MemoryHostHost.sink.Goals as goal

pub returns-clause-given : goal.returns-clause-given
returns-clause-given c =
    let p = opened laid_sink c.args.name.now c.self.inside.sinks.items c.remove-sink.new.self.items c.in-Some.place c.remove-sink.result
    (rw c.deref.ensures.value at c.in-Some.ensures) c.remove-sink.ensures.value c.remove-sink.ensures.items in
    rw (ap (λ h. h.sinks) c.self.view_is) at p
