use Rattle.std.proofs.Common.{◌≡◌, drop}
use Rattle.eco_order_file.specs.Rules.{no_new_net}
use Rattle.eco_order_file.proofs.keeping.bad_net.Given as goal

abbrev pub invariant-loop-net : goal.invariant-loop-net
invariant-loop-net l = no_new_net l.nets ≡ no_new_net (drop l.net-index l.nets)
