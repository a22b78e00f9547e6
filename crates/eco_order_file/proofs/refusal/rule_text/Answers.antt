use Rattle.serde_json.specs.View.{view}
use Rattle.eco_order_file.proofs.Plain.{text_of_rule}
use Rattle.eco_order_file.proofs.refusal.rule_text.Goals as goal

pub returns : goal.returns
returns c = text_of_rule c.args.front c.args.rule.now (view c.in_ok-value.value) c.in_ok-to_vec.field-0.items c.in_ok-value.ensures c.in_ok-to_vec.ensures.text
