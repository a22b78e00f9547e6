use Rattle.eco_base.proofs.OpenBases.{open_is_base}
use Rattle.eco_base.proofs.laws.open_is_base.Goals as goal

pub returns : goal.returns
returns c = open_is_base
