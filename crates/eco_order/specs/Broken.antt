-- The first rule that an order breaks on a netlist.
use Rattle.std.specs.Prelude.{◌≡◌, List, [], ◌∷◌, Option, Some, None}
use Rattle.eco_common.specs.Options.{first_some}
use Rattle.eco_net.specs.Netlist.{Netlist}
use Rattle.eco_net.specs.Walks.{IsLoopFree, IsClosedWalk}
use Rattle.eco_order_file.specs.declared.rule.Rule.{Rule}
use Rattle.eco_order_file.specs.declared.rule.Rule.TheVariants.{NotOneDriver, Loop}
use Rattle.eco_order_file.specs.Orders.{Order}
use Rattle.eco_order_file.specs.Rules.{broken_alone}
use Rattle.eco_order.specs.Insert.{patched}
use Rattle.eco_order.specs.Rules.{unknown_net, unknown_pin, wrong_from, stock_pin, supply_driven, net_name_taken}
use Rattle.eco_order.specs.DrivenOnce.{AreDrivenOnce, BreaksDriving}

-- what breaks each of the rules 3 to 11, in turn
abbrev pub broken_each : Netlist → Order → List (Option Rule)
broken_each N o =
    broken_alone o
    ∷ unknown_net N o
    ∷ unknown_pin N o
    ∷ wrong_from N o
    ∷ stock_pin N o
    ∷ supply_driven N o
    ∷ net_name_taken N o
    ∷ []

-- the first broken rule of 3 to 11
abbrev pub broken_before : Netlist → Order → Option Rule
broken_before N o = first_some (broken_each N o)

-- The first broken rule of 3 to 13, or none. Rule 13: the patched netlist has no closed walk of computed nets. Any closed walk
-- may be reported.
abbrev pub FirstBroken : Netlist → Order → Option Rule → Type 0
FirstBroken N o None = (broken_before N o ≡ None) × AreDrivenOnce N o × IsLoopFree (patched N o)
FirstBroken N o (Some (NotOneDriver net count)) = (broken_before N o ≡ None) × BreaksDriving N o net count
FirstBroken N o (Some (Loop nets)) = (broken_before N o ≡ None) × AreDrivenOnce N o × IsClosedWalk (patched N o) nets
FirstBroken N o (Some rule) = broken_before N o ≡ Some rule

-- rule 13 on a patched netlist: a closed walk, or none
abbrev pub IsWalkOrNone : Netlist → Option Rule → Type 0
IsWalkOrNone P None = IsLoopFree P
IsWalkOrNone P (Some (Loop nets)) = IsClosedWalk P nets
IsWalkOrNone P (Some rule) = ⊥
