use Rattle.std.proofs.Common.{◌∙◌, ap, sym}
use Rattle.eco_embed.specs.Feeds.{feed_bit}
use Rattle.eco_func.proofs.Columns.{ones}
use Rattle.eco_embed.proofs.words.column.Goals as goal

pub returns-in-One : goal.returns-in-One
returns-in-One c = λ r h. ones r h ∙ ap (feed_bit r) (sym c.in-One.is)
