use Rattle.eco_base.proofs.Rest.{stock_spare}
use Rattle.eco_base.proofs.stock_laws.stock_drives_nothing.Goals as goal

pub returns : goal.returns
returns c = stock_spare
