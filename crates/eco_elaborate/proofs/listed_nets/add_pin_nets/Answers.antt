use Rattle.std.proofs.Common.{[], ◌∷◌, List, get_or, sym, subst, arith}
use Rattle.eco_def.specs.declared.design.TopPin.{TopPin}
use Rattle.eco_net.specs.Netlist.{Name}
use Rattle.eco_elaborate.specs.Stated.{named_pin}
use Rattle.eco_elaborate.specs.Stages.{supply_value, AddsNets}
use Rattle.eco_elaborate.proofs.Adding.{mapped_at, nets_added}
use Rattle.eco_elaborate.proofs.Fillers.{no_pin}
use Rattle.eco_elaborate.proofs.listed_nets.add_pin_nets.Goals as goal

pub loop-pin-preserved : goal.loop-pin-preserved
loop-pin-preserved c =
    let value = supply_value c.args.supplies.now in
    let name : TopPin → Name = λ p. (named_pin c.args.text.now p).net in
    let pin : TopPin = get_or c.args.pins.now c.loop-pin.pin-index no_pin in
    let step : AddsNets value (name pin ∷ []) c.loop-pin.maker c.add_net.new.maker =
    subst (λ (n : Name). AddsNets value (n ∷ []) c.loop-pin.maker c.add_net.new.maker) c.bytes_at-name.ensures (c.in_ok-add_net.ensures value (sym c.supply_of.ensures)) in
    record {
      adds = subst (λ (ns : List Name). AddsNets value ns c.args.maker.now c.add_net.new.maker) (sym (mapped_at name c.args.pins.now c.loop-pin.pin-index no_pin c.loop-pin-test.true))
          (nets_added value _ _ _ _ _ c.loop-pin.invariant.adds step);
      few = let f = step.few in omega (arith, f, c.loop-pin.invariant.few);
    }
