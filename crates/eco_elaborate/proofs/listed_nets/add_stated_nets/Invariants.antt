use Rattle.std.proofs.Common.{◌+◌, ◌≤◌, length, map, take}
use Rattle.eco_elaborate.specs.Stated.{named_net}
use Rattle.eco_elaborate.specs.Stages.{supply_value, AddsNets}
use Rattle.eco_elaborate.proofs.listed_nets.add_stated_nets.Given as goal

-- the nets of the statements so far are added
abbrev pub invariant-loop-net : goal.invariant-loop-net
invariant-loop-net l = record {
  adds : AddsNets (supply_value l.supplies) (map (λ s. (named_net l.text s).name) (take l.net-index l.nets)) l.initial.maker l.maker;
  few : length l.maker.nets ≤ length l.initial.maker.nets + l.net-index;
}
