use Rattle.toml.proofs.Views.{table_get}
use Rattle.eco_desk_file.proofs.document.field_at.Goals as goal

pub returns : goal.returns
returns c = table_get c.get.result c.args.field.now c.args.document.now.entries c.get.ensures.value
