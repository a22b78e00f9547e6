-- The rules 6 to 11 of orders, which an order can break on a netlist. Each is tested on the whole order before the next one: on
-- its nets, on its gates with inputs before the output, and on its moves.
use Rattle.std.specs.Prelude.{Bool, true, false, not, ◌||◌, List, [], ◌∷◌, ◌++◌, map, Option, Some, None}
use Rattle.std.specs.Option.{option_map}
use Rattle.std.specs.List.{find, filter, flat_map}
use Rattle.std.specs.FinMap.{get, contains_key}
use Rattle.std.specs.FinSet.{contains}
use Rattle.std.specs.Str.{bytes_eq}
use Rattle.eco_common.specs.NameBytes.{is_among}
use Rattle.eco_common.specs.declared.geometry.Dir.{Dir}
use Rattle.eco_common.specs.declared.geometry.Dir.TheVariants.{Input, Output, Inout}
use Rattle.eco_net.specs.Netlist.{Name, Netlist, Component, CompPin, role_of}
use Rattle.eco_net.specs.Drivers.{dir_of_role, net_of}
use Rattle.eco_order_file.specs.declared.rule.Rule.{Rule}
use Rattle.eco_order_file.specs.declared.rule.Rule.TheVariants.{UnknownNet, UnknownPin, WrongFrom, StockPin, SupplyDriven, NetNameTaken}
use Rattle.eco_order_file.specs.Orders.{Gate, Move, Order}

-- ---- 6: each net that the order names is one of the netlist or a new one

abbrev pub is_known : Netlist → List Name → Name → Bool
is_known N new n = contains_key N.nets n || is_among new n

abbrev pub gate_nets : Gate → List Name
gate_nets g = g.inputs ++ g.output ∷ []

-- the nets of its gates, and those that its moves go to
abbrev pub named_nets : Order → List Name
named_nets o = flat_map gate_nets o.gates ++ map (λ m. m.to) o.moves

abbrev pub unknown_net : Netlist → Order → Option Rule
unknown_net N o = option_map UnknownNet (find (λ n. not (is_known N o.nets n)) (named_nets o))

-- ---- 7: each moved pin is an INPUT or OUTPUT pin of a component. Of a stock component the name alone is known

abbrev pub dir_at : Option Component → Name → Option Dir
dir_at None p = None
dir_at (Some x) p = option_map dir_of_role (role_of x p)

abbrev pub is_one_way : Option Dir → Bool
is_one_way None = false
is_one_way (Some Input) = true
is_one_way (Some Output) = true
is_one_way (Some Inout) = false

abbrev pub is_stock : Netlist → Move → Bool
is_stock N m = contains N.reserved m.comp

abbrev pub can_move : Netlist → Move → Bool
can_move N m = is_stock N m || is_one_way (dir_at (get N.comps m.comp) m.pin)

abbrev pub unknown_pin : Netlist → Order → Option Rule
unknown_pin N o = option_map (λ m. UnknownPin m.comp m.pin) (find (λ m. not (can_move N m)) o.moves)

-- ---- 8: each moved pin is on the net that the move says, unless it is stock

abbrev pub present_net : Netlist → Move → Option Name
present_net N m = net_of N (CompPin m.comp m.pin)

abbrev pub is_same : Option Name → Option Name → Bool
is_same None None = true
is_same None (Some n) = false
is_same (Some n) None = false
is_same (Some n) (Some m) = bytes_eq n m

abbrev pub is_from : Netlist → Move → Bool
is_from N m = is_stock N m || is_same (present_net N m) m.from

abbrev pub wrong_from : Netlist → Order → Option Rule
wrong_from N o = option_map (λ m. WrongFrom m.comp m.pin (present_net N m)) (find (λ m. not (is_from N m)) o.moves)

-- ---- 9: no moved pin is stock

abbrev pub stock_pin : Netlist → Order → Option Rule
stock_pin N o = option_map (λ m. StockPin m.comp m.pin) (find (is_stock N) o.moves)

-- ---- 10: no supply and no tie net is driven

abbrev pub is_output : Option Dir → Bool
is_output None = false
is_output (Some Input) = false
is_output (Some Output) = true
is_output (Some Inout) = false

abbrev pub moves_output : Netlist → Move → Bool
moves_output N m = is_output (dir_at (get N.comps m.comp) m.pin)

abbrev pub ends_from : Option Name → Name → List Name
ends_from None to = to ∷ []
ends_from (Some from) to = from ∷ to ∷ []

-- the net that a moved pin leaves, if it is on one, and the net that it goes to
abbrev pub ends : Move → List Name
ends m = ends_from m.from m.to

-- the nets whose driving pins the order changes: its gates' outputs, and where its moved OUTPUT pins come from and go to
abbrev pub redriven : Netlist → Order → List Name
redriven N o = map (λ g. g.output) o.gates ++ flat_map ends (filter (moves_output N) o.moves)

abbrev pub is_supply : Option (Option Bool) → Bool
is_supply None = false
is_supply (Some None) = false
is_supply (Some (Some value)) = true

-- a supply or a tie net
abbrev pub is_fixed : Netlist → Name → Bool
is_fixed N n = is_supply (get N.nets n) || contains N.ties n

abbrev pub supply_driven : Netlist → Order → Option Rule
supply_driven N o = option_map SupplyDriven (find (is_fixed N) (redriven N o))

-- ---- 11: new nets are new

abbrev pub net_name_taken : Netlist → Order → Option Rule
net_name_taken N o = option_map NetNameTaken (find (contains_key N.nets) o.nets)
