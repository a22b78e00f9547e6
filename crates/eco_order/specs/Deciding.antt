-- What inner functions of rule 12 decide.
use Rattle.std.specs.Prelude.{Bool, true, false, ◌&&◌, Some}
use Rattle.eco_net.specs.Netlist.{Name, Netlist}
use Rattle.eco_order.specs.Rules.{moves_output, is_same}
use Rattle.eco_order_file.specs.Orders.{Move}

-- the answer says whether it holds
abbrev pub Tells : Bool → Type 0 → Type 0
Tells true X = X
Tells false X = X → ⊥

-- an OUTPUT pin is moved from the net
abbrev pub leaves : Netlist → Name → Move → Bool
leaves N n m = moves_output N m && is_same m.from (Some n)
