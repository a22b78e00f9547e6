use Rattle.std.proofs.Common.{arith, ◌≡◌, ◌^◌}
use Rattle.std.proofs.lemmas.Bool.Decides.{nat_tests}
use Rattle.eco_func.proofs.Powers.{few_rows, rows_shifted, all_rows, tested}
use Rattle.eco_func.proofs.table.fits_rows.Goals as goal

pub overflow_shr-result : goal.overflow_shr-result
overflow_shr-result c = omega (arith, few_rows c.args.inputs c.requires, rows_shifted c.args.inputs c.requires)

pub returns-then-rows-eq-MAX_ROWS : goal.returns-then-rows-eq-MAX_ROWS
returns-then-rows-eq-MAX_ROWS c =
    let e : 2 ^ c.args.inputs ≡ 64 = omega (arith, rows_shifted c.args.inputs c.requires) in
    (λ _. all_rows c.args.inputs c.args.bits e (omega arith), λ _. grind (arith, nat_tests))

pub returns-else-rows-eq-MAX_ROWS : goal.returns-else-rows-eq-MAX_ROWS
returns-else-rows-eq-MAX_ROWS c = tested c.args.inputs c.args.bits c.requires
