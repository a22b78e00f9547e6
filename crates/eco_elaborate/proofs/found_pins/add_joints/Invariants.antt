use Rattle.std.proofs.Common.{take}
use Rattle.eco_elaborate.specs.Stated.{named_comps}
use Rattle.eco_elaborate.specs.Stages.{has_supply_pin, stated_joints, FindsPins}
use Rattle.eco_elaborate.proofs.found_pins.add_joints.Given as goal

-- the pins of the joints so far are found
abbrev pub invariant-loop-at : goal.invariant-loop-at
invariant-loop-at g l = FindsPins (has_supply_pin (g.M.Macros.powers l.lookup.macros.now) (named_comps l.lookup.text.now l.lookup.comps.now)) l.lookup.maker.now (stated_joints l.lookup.text.now l.lookup.maker.now.nets (take l.at l.joints)) l.initial.pins.items l.pins.items
