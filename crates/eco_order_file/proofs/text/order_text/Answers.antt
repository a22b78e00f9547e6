use Rattle.serde_json.specs.View.{view}
use Rattle.eco_order_file.proofs.Written.{text_of_order, order_of_text}
use Rattle.eco_order_file.proofs.text.order_text.Goals as goal

pub returns : goal.returns
returns c = record {
  text = text_of_order c.args.order.now (view c.in_ok-value.value) c.in_ok-to_vec.field-0.items c.in_ok-value.ensures.value c.in_ok-to_vec.ensures.text;
  reads_back = order_of_text c.args.order.now (view c.in_ok-value.value) c.in_ok-to_vec.field-0.items c.in_ok-value.ensures.value c.in_ok-to_vec.ensures.utf8 c.in_ok-to_vec.ensures.reads_back c.in_ok-value.ensures.whole;
}
