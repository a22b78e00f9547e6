-- The base of a netlist: its stock is set apart, and its tie nets are marked.
use Rattle.std.specs.Prelude.{List, [], ◌∷◌, map}
use Rattle.std.specs.FinSet.{from_list}
use Rattle.eco_net.specs.Netlist.{Name, Netlist}
use Rattle.eco_net.specs.Bases.{Base, bare}
use Rattle.eco_desk_file.specs.Desk.{Desk}
use Rattle.eco_base.specs.declared.stock.Spare.{Spare}

abbrev pub spare_names : List Spare → List Name
spare_names spares = map (λ s. s.name) spares

abbrev pub base_of : Netlist → Desk → List Name → Base
base_of N desk names = record { full = N; stock = names; low = desk.low; high = desk.high }

-- the netlist with the desk file's tie nets marked, and no other
abbrev pub with_ties : Netlist → Desk → Netlist
with_ties N desk = record N { ties = from_list (desk.low ∷ desk.high ∷ []) }

-- the base without its stock, whose names are reserved, and with its tie nets marked
abbrev pub without_spares : Netlist → Desk → List Name → Netlist
without_spares N desk names = with_ties (bare (base_of N desk names)) desk
