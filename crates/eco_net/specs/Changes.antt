-- Changes of a netlist by names, one at a time: what the calls of its maker do (LEF/DEF 5.8, "Components", "Pins", "Nets").
use Rattle.std.specs.Prelude.{Bool, Option, Some, None}
use Rattle.std.specs.FinMap.{FinMap, get, insert, remove, empty}
use Rattle.std.specs.FinSet as set
use Rattle.eco_common.specs.declared.geometry.Dir.{Dir}
use Rattle.eco_common.specs.declared.geometry.Point.{Point}
use Rattle.eco_net.specs.Netlist.{Name, name_cmp, Netlist, Component, Kind, Pin, TopPin, CompPin}

abbrev pub empty_netlist : Netlist
empty_netlist = record { nets = empty; comps = empty; tops = empty; ties = set.empty; reserved = set.empty }

-- with a net, and its value if it is a supply
abbrev pub with_net : Netlist → Name → Option Bool → Netlist
with_net N name supply = record N { nets = insert N.nets name supply }

-- with a component whose pins are unconnected
abbrev pub with_comp : Netlist → Name → Kind → Option Point → Netlist
with_comp N name kind place = record N { comps = insert N.comps name (record { kind = kind; place = place; joined = empty }) }

-- with a top pin on a net
abbrev pub with_top : Netlist → Name → Dir → Name → Netlist
with_top N name dir net = record N { tops = insert N.tops name (record { dir = dir; net = net }) }

abbrev pub with_tie_net : Netlist → Name → Netlist
with_tie_net N net = record N { ties = set.insert N.ties net }

abbrev pub with_reserved : Netlist → Name → Netlist
with_reserved N name = record N { reserved = set.insert N.reserved name }

abbrev pub on_net : FinMap name_cmp Component → Name → Name → Name → Option Component → FinMap name_cmp Component
on_net comps c pin net None = comps
on_net comps c pin net (Some x) = insert comps c (record x { joined = insert x.joined pin net })

abbrev pub on_none : FinMap name_cmp Component → Name → Name → Option Component → FinMap name_cmp Component
on_none comps c pin None = comps
on_none comps c pin (Some x) = insert comps c (record x { joined = remove x.joined pin })

-- with a component's pin on a net, whichever net it was on before
abbrev pub with_pin_on : Netlist → Pin → Name → Netlist
with_pin_on N (TopPin t) net = N
with_pin_on N (CompPin c pin) net = record N { comps = on_net N.comps c pin net (get N.comps c) }

-- with a component's pin unconnected
abbrev pub with_pin_off : Netlist → Pin → Netlist
with_pin_off N (TopPin t) = N
with_pin_off N (CompPin c pin) = record N { comps = on_none N.comps c pin (get N.comps c) }
