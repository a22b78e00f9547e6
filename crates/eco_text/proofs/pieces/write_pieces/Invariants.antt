use Rattle.std.proofs.Common.{take, Ok}
use Rattle.eco_common.specs.declared.failed.Failed.{Failed}
use Rattle.eco_text.specs.Writing.{joined}
use Rattle.eco_text.specs.Writing.{Writes}
use Rattle.eco_text.proofs.pieces.write_pieces.Given as goal

abbrev pub invariant-loop-piece : goal.invariant-loop-piece
invariant-loop-piece g l = Writes {T = Unit {0}} {E = Failed} g.K.Sink.taken g.K.Sink.faults l.initial.sink l.sink (Ok tt) (joined (take l.piece-index l.pieces))
