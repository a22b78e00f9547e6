use Rattle.std.proofs.Common.{arith}
use Rattle.std.proofs.lemmas.Grind.{common_steps}
use Rattle.serde_json.proofs.Views.{items_len-items_view}
use Rattle.eco_order_file.proofs.values.few.Goals as goal

pub returns-then-few-clause-value : goal.returns-then-few-clause-value
returns-then-few-clause-value c = grind (arith, common_steps, items_len-items_view)

pub returns-else-few-clause-value : goal.returns-else-few-clause-value
returns-else-few-clause-value c = grind (arith, common_steps, items_len-items_view)
