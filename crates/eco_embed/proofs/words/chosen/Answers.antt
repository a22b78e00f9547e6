use Rattle.eco_func.proofs.RowBits.{mixed}
use Rattle.eco_embed.proofs.words.chosen.Goals as goal

pub returns : goal.returns
returns c = mixed c.args.zero c.args.column c.args.one
