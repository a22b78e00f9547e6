use Rattle.eco_wire.proofs.OneRoute.{routes_are_one}
use Rattle.eco_wire.proofs.router.routes_are_one.Goals as goal

pub returns : goal.returns
returns c = routes_are_one
