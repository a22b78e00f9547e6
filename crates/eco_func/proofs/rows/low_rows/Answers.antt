use Rattle.std.proofs.Common.{◌≡◌, ◌-◌, ◌^◌, ◌/◌, ◌∙◌, ap, arith}
use Rattle.std.proofs.lemmas.Nat.Bits.{ones_shr}
use Rattle.eco_func.proofs.Powers.{few_rows, rows_shifted}
use Rattle.eco_func.proofs.rows.low_rows.Goals as goal

pub overflow_sub-result : goal.overflow_sub-result
overflow_sub-result c = omega (arith, few_rows c.args.inputs c.requires, rows_shifted c.args.inputs c.requires)

pub returns : goal.returns
returns c =
    let i = c.args.inputs in
    let back : 64 - (64 - 2 ^ i) ≡ 2 ^ i = omega (arith, few_rows i c.requires) in
    ap (λ n. 18446744073709551615 / 2 ^ (64 - n)) (rows_shifted i c.requires) ∙ ones_shr 64 (64 - 2 ^ i) (omega arith) ∙ ap (λ k. 2 ^ k - 1) back
