use Rattle.std.proofs.Common.{refl}
use Rattle.eco_patch_laws.proofs.Fold.{free_stock_rests}
use Rattle.eco_patch_laws.proofs.Pins.{concrete_is}
use Rattle.eco_patch_laws.proofs.Together.{base_takes_live, live_nets_new}
use Rattle.eco_patch_laws.proofs.laws.live_joints_join.Goals as goal

pub returns-clause-joints : goal.returns-clause-joints
returns-clause-joints c = concrete_is

pub returns-clause-rests : goal.returns-clause-rests
returns-clause-rests c = free_stock_rests

pub returns-clause-none : goal.returns-clause-none
returns-clause-none c base = refl

pub returns-clause-takes : goal.returns-clause-takes
returns-clause-takes c base live is a = base_takes_live base live is a

pub returns-clause-nets : goal.returns-clause-nets
returns-clause-nets c base live is a = live_nets_new base live a
