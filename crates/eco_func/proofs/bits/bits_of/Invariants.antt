use Rattle.eco_func.proofs.BitText.{Read}
use Rattle.eco_func.proofs.bits.bits_of.Given as goal

abbrev pub invariant-loop-place : goal.invariant-loop-place
invariant-loop-place l = Read l.text l.bits l.place
