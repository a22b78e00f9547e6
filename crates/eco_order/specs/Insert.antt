-- What an order does to a netlist.
use Rattle.std.specs.Prelude.{◌≡◌, map, None}
use Rattle.std.specs.FinMap.{get}
use Rattle.eco_net.specs.Netlist.{Name, Netlist}
use Rattle.eco_net.specs.Listing.{bits_of}
use Rattle.eco_order_file.specs.Orders.{Gate, Move, Order}
use Rattle.eco_patch_laws.specs.Orders.{PatchGate, Move as PatchMove, Order as Patch}
use Rattle.eco_patch_laws.specs.Insertion.{patch_name}
use Rattle.eco_patch_laws.specs.Live.{under_test}

abbrev pub patch_gate : Gate → PatchGate
patch_gate g = record { name = g.name; table = bits_of g.table; inputs = g.inputs; output = g.output }

abbrev pub patch_move : Move → PatchMove
patch_move m = record { comp = m.comp; pin = m.pin; from = m.from; to = m.to }

-- the order as the laws of patches speak of it
abbrev pub patch : Order → Patch
patch o = record { name = o.name; nets = o.nets; gates = map patch_gate o.gates; moves = map patch_move o.moves }

-- the patched netlist: with the order's new nets, its moves made, and its gates in it, unplaced
abbrev pub patched : Netlist → Order → Netlist
patched N o = under_test N (patch o)

-- no component has the name of a gate under this label
abbrev pub IsFreeLabel : Netlist → Name → Type 0
IsFreeLabel N label = (gate : Name) → get N.comps (patch_name label gate) ≡ None
