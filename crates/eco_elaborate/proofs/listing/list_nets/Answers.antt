use Rattle.std.proofs.Common.{◌≡◌, ◌+◌, ◌≤◌, List, length, map, ap, subst, arith}
use Rattle.eco_def.specs.declared.design.NetStatement.{NetStatement}
use Rattle.eco_def.specs.declared.design.TopPin.{TopPin}
use Rattle.std.proofs.lemmas.List.{length-map}
use Rattle.eco_net.specs.Netlist.{Name}
use Rattle.eco_net.specs.Listing.{Listing}
use Rattle.eco_elaborate.specs.Stated.{named_net, named_pin}
use Rattle.eco_elaborate.specs.Stages.{supply_value, AddsNets}
use Rattle.eco_elaborate.proofs.Limited.{few_nets, few_pins}
use Rattle.eco_elaborate.proofs.Whole.{nets_listed}
use Rattle.eco_elaborate.proofs.listing.list_nets.Goals as goal

stated : (c : goal.After-as_slice-2) → AddsNets (supply_value c.args.supplies.now) (map (λ s. (named_net c.args.text.now s).name) c.args.design.now.nets) c.in_ok-maker.maker c.add_stated_nets.new.maker
stated c = subst (λ (ss : List NetStatement). AddsNets (supply_value c.args.supplies.now) (map (λ s. (named_net c.args.text.now s).name) ss) c.in_ok-maker.maker c.add_stated_nets.new.maker) c.as_slice-nets.ensures c.in_ok-add_stated_nets.ensures

pub add_stated_nets-requires : goal.add_stated_nets-requires
add_stated_nets-requires c =
    let none = ap (λ (m : Listing). length m.nets) c.in_ok-maker.ensures.rows in
    let few = few_nets c.args.text.now c.args.design.now c.requires.limits in
    let all = ap length c.as_slice-nets.ensures in
    record { few = omega (arith, none, few, all) }

pub add_pin_nets-requires : goal.add_pin_nets-requires
add_pin_nets-requires c =
    let none = ap (λ (m : Listing). length m.nets) c.in_ok-maker.ensures.rows in
    let nets = few_nets c.args.text.now c.args.design.now c.requires.limits in
    let pins = few_pins c.args.text.now c.args.design.now c.requires.limits in
    let all = ap length c.as_slice-2.ensures in
    let names : List Name = map (λ s. (named_net c.args.text.now s).name) c.args.design.now.nets in
    let as_many : length names ≡ length c.args.design.now.nets = length-map c.args.design.now.nets (λ (s : NetStatement). (named_net c.args.text.now s).name) in
    let more : length c.add_stated_nets.new.maker.nets ≤ length c.in_ok-maker.maker.nets + length names = (stated c).few in
    record { few = omega (arith, none, nets, pins, all, as_many, more) }

pub returns : goal.returns
returns c =
    nets_listed (supply_value c.args.supplies.now) c.args.text.now c.args.design.now c.in_ok-maker.maker c.add_stated_nets.new.maker c.add_pin_nets.new.maker c.in_ok-maker.ensures.rows c.in_ok-maker.ensures.named
    (subst (λ (ss : List NetStatement). AddsNets (supply_value c.args.supplies.now) (map (λ s. (named_net c.args.text.now s).name) ss) c.in_ok-maker.maker c.add_stated_nets.new.maker) c.as_slice-nets.ensures c.in_ok-add_stated_nets.ensures)
    (subst (λ (ps : List TopPin). AddsNets (supply_value c.args.supplies.now) (map (λ p. (named_pin c.args.text.now p).net) ps) c.add_stated_nets.new.maker c.add_pin_nets.new.maker) c.as_slice-2.ensures c.in_ok-add_pin_nets.ensures)
