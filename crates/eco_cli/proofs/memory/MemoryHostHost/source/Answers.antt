use Rattle.std.proofs.Common.{ap}
use Rattle.eco_cli.specs.Laid.{laid_source}
use Rattle.eco_cli.proofs.Opening.{opened}
use Rattle.eco_cli.proofs.memory.MemoryHostHost.source.Goals as goal

pub returns-clause-given : goal.returns-clause-given
returns-clause-given c =
    let p = opened laid_source c.args.name.now c.self.inside.sources.items c.remove-source.new.self.items c.in-Some.place c.remove-source.result
    (rw c.deref.ensures.value at c.in-Some.ensures) c.remove-source.ensures.value c.remove-source.ensures.items in
    rw (ap (λ h. h.sources) c.self.view_is) at p
