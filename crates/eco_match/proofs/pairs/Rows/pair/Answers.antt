use Rattle.std.proofs.Common.{ap, ◌∙◌, ℕ, Option}
use Rattle.eco_match.proofs.pairs.Rows.pair.Goals as goal

pub returns : goal.returns
returns c = c.pair_of.ensures ∙ ap (λ (costs : ℕ → ℕ → Option ℕ). costs c.args.gate c.args.spare) c.table.ensures.costs
