use Rattle.eco_order_file.proofs.ReadBack.{order_back}
use Rattle.eco_order_file.proofs.laws.written_is_read.Goals as goal

pub returns : goal.returns
returns c = order_back
