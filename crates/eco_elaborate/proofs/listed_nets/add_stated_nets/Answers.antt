use Rattle.std.proofs.Common.{[], ◌∷◌, List, sym, subst, arith}
use Rattle.eco_def.specs.declared.design.NetStatement.{NetStatement}
use Rattle.eco_net.specs.Netlist.{Name}
use Rattle.eco_elaborate.specs.Stated.{named_net}
use Rattle.eco_elaborate.specs.Stages.{supply_value, AddsNets}
use Rattle.eco_elaborate.proofs.Adding.{mapped_more, nets_added}
use Rattle.eco_elaborate.proofs.listed_nets.add_stated_nets.Goals as goal

pub loop-net-preserved : goal.loop-net-preserved
loop-net-preserved c =
    let value = supply_value c.args.supplies.now in
    let name : NetStatement → Name = λ s. (named_net c.args.text.now s).name in
    let step : AddsNets value (name c.net-item.result ∷ []) c.loop-net.maker c.add_net.new.maker =
    subst (λ (n : Name). AddsNets value (n ∷ []) c.loop-net.maker c.add_net.new.maker) c.bytes_at-name.ensures (c.in_ok-add_net.ensures value (sym c.supply_of.ensures)) in
    record {
      adds = subst (λ (ns : List Name). AddsNets value ns c.args.maker.now c.add_net.new.maker) (sym (mapped_more name c.args.nets.now c.loop-net.net-index c.net-item.result c.loop-net-test.true c.net-item.is))
          (nets_added value _ _ _ _ _ c.loop-net.invariant.adds step);
      few = let f = step.few in omega (arith, f, c.loop-net.invariant.few);
    }
