use Rattle.std.proofs.Common.{Bool}
use Rattle.eco_net.specs.Netlist.{Name}
use Rattle.eco_elaborate.specs.Stated.{named_comps}
use Rattle.eco_elaborate.specs.Stages.{has_supply_pin}
use Rattle.eco_elaborate.proofs.Waiting.{settles_all}
use Rattle.eco_elaborate.proofs.found_pins.settle_many.Goals as goal

pub returns-clause-ok : goal.returns-clause-ok
returns-clause-ok g c =
    let powered : Name → Name → Bool = has_supply_pin (g.M.Macros.powers c.args.lookup.now.macros.now) (named_comps c.args.lookup.now.text.now c.args.lookup.now.comps.now) in
    settles_all powered c.args.lookup.now.text.now c.args.lookup.now.maker.now c.args.pins.now.items c.settle.new.pins.items c.args.waiting.now.items c.settle.new.waiting.items c.settle.result c.settle.ensures.none c.settle.ensures.ok
