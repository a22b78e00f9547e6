use Rattle.std.proofs.Common.{◌≡◌, ℕ, List, take}
use Rattle.eco_elaborate.specs.Stated.{named_nets, supply_among}
use Rattle.eco_elaborate.specs.Stages.{supply_value}
use Rattle.eco_elaborate.proofs.supplies.first_supplies.Given as goal

-- the values by the statements so far
abbrev pub invariant-loop-net : goal.invariant-loop-net
invariant-loop-net l = (n : List ℕ) → supply_value l.supplies n ≡ supply_among (named_nets l.text (take l.net-index l.nets)) n
