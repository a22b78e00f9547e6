use Rattle.std.proofs.Common.{◌+◌, ◌≤◌, length, map, take}
use Rattle.eco_elaborate.specs.Stated.{named_pin}
use Rattle.eco_elaborate.specs.Stages.{supply_value, AddsNets}
use Rattle.eco_elaborate.proofs.listed_nets.add_pin_nets.Given as goal

-- the nets of the pins so far are added
abbrev pub invariant-loop-pin : goal.invariant-loop-pin
invariant-loop-pin l = record {
  adds : AddsNets (supply_value l.supplies) (map (λ p. (named_pin l.text p).net) (take l.pin-index l.pins)) l.initial.maker l.maker;
  few : length l.maker.nets ≤ length l.initial.maker.nets + l.pin-index;
}
