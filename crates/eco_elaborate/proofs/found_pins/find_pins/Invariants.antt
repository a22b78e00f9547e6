use Rattle.std.proofs.Common.{take}
use Rattle.eco_elaborate.specs.Stated.{named_comps, named_nets, all_pins_on}
use Rattle.eco_elaborate.specs.Stages.{has_supply_pin, FindsOrWaits}
use Rattle.eco_elaborate.proofs.found_pins.find_pins.Given as goal

-- of the joints of the statements so far, some pins are found, and the others wait
abbrev pub invariant-loop-net : goal.invariant-loop-net
invariant-loop-net g l = FindsOrWaits (has_supply_pin (g.M.Macros.powers l.macros) (named_comps l.text l.comps)) l.text l.maker (all_pins_on (named_nets l.text (take l.net-index l.nets))) l.pins.items l.waiting.items
