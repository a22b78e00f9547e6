-- How many pins of components are on a net, and how many are unconnected (LEF/DEF 5.8, "Nets").
use Rattle.std.specs.Prelude.{ℕ, ◌-◌, length}
use Rattle.std.specs.List.{sum_by}
use Rattle.std.specs.FinMap.{len, values}
use Rattle.eco_net.specs.Netlist.{Netlist, pins_of}

-- over the components, how many pins of each are on a net; pins of the chip are not counted
abbrev pub joined_pins : Netlist → ℕ
joined_pins N = sum_by (λ x. len x.joined) (values N.comps)

-- over the components, how many of each one's pins are unconnected
abbrev pub unconnected_pins : Netlist → ℕ
unconnected_pins N = sum_by (λ x. length (pins_of x.kind) - len x.joined) (values N.comps)
