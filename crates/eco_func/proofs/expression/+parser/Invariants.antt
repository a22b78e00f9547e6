use Rattle.std.proofs.Common.{◌+◌, ◌*◌, length}
use Rattle.eco_func.specs.Expressions.{part_of, operand as operand_of}
use Rattle.eco_func.proofs.Chains.{rank, InChain}
use Rattle.eco_func.proofs.expression.+parser.Given as goal

abbrev pub decreases-operand : goal.decreases-operand
decreases-operand l = 8 * l.depth

abbrev pub decreases-part : goal.decreases-part
decreases-part l = 8 * l.depth + 2 * rank l.operator + 1

abbrev pub decreases-chain : goal.decreases-chain
decreases-chain l = 8 * l.depth + 2 * rank l.operator + 2

abbrev pub invariant-chain-loop-more : goal.invariant-chain-loop-more
invariant-chain-loop-more l = InChain l.inputs l.operator (part_of l.operator (operand_of l.depth)) l.text l.left l.rest

abbrev pub decreases-chain-loop-more : goal.decreases-chain-loop-more
decreases-chain-loop-more l = length l.rest
