use Rattle.eco_base.proofs.TieLaws.{ties_constant, ties_stay}
use Rattle.eco_base.proofs.stock_laws.tie_nets_are_constant.Goals as goal

pub returns-clause-whole : goal.returns-clause-whole
returns-clause-whole c = ties_constant

pub returns-clause-without : goal.returns-clause-without
returns-clause-without c = ties_stay
