use Rattle.eco_issued_laws.proofs.Within.{outside as within}
use Rattle.eco_issued_laws.proofs.laws.outside.Goals as goal

pub returns : goal.returns
returns c = within
