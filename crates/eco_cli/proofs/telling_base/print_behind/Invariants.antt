use Rattle.std.proofs.Common.{◌∷◌, take, Ok}
use Rattle.std.specs.List.{flat_map}
use Rattle.eco_common.specs.declared.failed.Failed.{Failed}
use Rattle.eco_text.specs.Writing.{Writes}
use Rattle.eco_cli.proofs.telling_base.print_behind.Given as goal

abbrev pub invariant-loop-name : goal.invariant-loop-name
invariant-loop-name g l = Writes {T = Unit {0}} {E = Failed} g.O.Sink.taken g.O.Sink.faults l.initial.out l.out (Ok tt) (flat_map (λ n. 44 ∷ n) (take l.name-index l.names))
