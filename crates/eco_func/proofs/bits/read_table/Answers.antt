use Rattle.std.proofs.Common.{arith}
use Rattle.std.proofs.lemmas.Nat.{one_shl}
use Rattle.eco_func.proofs.Powers.{few_rows}
use Rattle.eco_func.proofs.bits.read_table.Goals as goal

pub bits_of-requires : goal.bits_of-requires
bits_of-requires c = omega (arith, few_rows c.args.inputs c.requires, one_shl c.args.inputs 64 (omega arith), c.if-text-inputs.false)
