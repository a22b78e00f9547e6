use Rattle.std.proofs.Common.{◌∙◌, sym}
use Rattle.eco_func.proofs.Columns.{ones}
use Rattle.eco_embed.proofs.words.all_rows.Goals as goal

pub returns-then-value : goal.returns-then-value
returns-then-value c = λ r h. ones r h ∙ sym c.if-value.true
