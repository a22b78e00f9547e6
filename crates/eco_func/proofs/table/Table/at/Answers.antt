use Rattle.std.proofs.Common.{arith, ap}
use Rattle.eco_func.proofs.Powers.{few_rows}
use Rattle.eco_func.proofs.table.Table.at.Goals as goal

pub overflow_shr-result : goal.overflow_shr-result
overflow_shr-result c =
    let same = ap (λ t. t.inputs) c.self.view_is in
    omega (arith, few_rows c.args.self.now.inputs (omega (arith, same, c.self.invariant.few)))
