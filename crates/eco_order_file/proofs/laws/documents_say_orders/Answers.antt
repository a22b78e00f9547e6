use Rattle.eco_order_file.proofs.Exact.{order_said}
use Rattle.eco_order_file.proofs.Inverted.{order_ok}
use Rattle.eco_order_file.proofs.laws.documents_say_orders.Goals as goal

pub returns : goal.returns
returns c d o = (order_ok d o, order_said d o)
