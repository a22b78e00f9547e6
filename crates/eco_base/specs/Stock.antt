-- The stock of spare cells, by names.
use Rattle.std.specs.Prelude.{◌≡◌, Bool, true, false, not, ◌&&◌, ◌||◌, ◌⊎◌, List, Option, Some, None, is_some}
use Rattle.std.specs.List.{list_all}
use Rattle.std.specs.Str.{bytes_eq}
use Rattle.std.specs.FinMap.{get}
use Rattle.eco_common.specs.declared.geometry.Dir.{Dir}
use Rattle.eco_common.specs.declared.geometry.Point.{Point}
use Rattle.eco_common.specs.declared.geometry.Dir.TheVariants.{Input, Output, Inout}
use Rattle.eco_net.specs.Netlist.{Name, Kind, Gate, Boxed, Component, GateInput, GateOutput, pins_of, role_of}
use Rattle.eco_net.specs.Drivers.{dir_of_role}
use Rattle.eco_desk_file.specs.Desk.{Desk, is_spare_named}

-- on one of the two tie nets
abbrev pub is_on_tie : Desk → Option Name → Bool
is_on_tie desk None = false
is_on_tie desk (Some n) = bytes_eq desk.high n || bytes_eq desk.low n

-- An input is at rest on a tie net, and an output where it is unconnected. No gate has a pin of another direction.
abbrev pub is_at_rest : Desk → Dir → Option Name → Bool
is_at_rest desk Input n = is_on_tie desk n
is_at_rest desk Output n = not (is_some n)
is_at_rest desk Inout n = false

abbrev pub is_gate : Kind → Bool
is_gate (Gate inputs outputs) = true
is_gate (Boxed pins) = false

-- a gate with every input on one of the tie nets and every output unconnected
abbrev pub is_idle : Desk → Component → Bool
is_idle desk x = is_gate x.kind && list_all (λ p. is_at_rest desk (dir_of_role p.1) (get x.joined p.0)) (pins_of x.kind)

-- A component is stock where it is spare-named, placed and such a gate.
abbrev pub is_stock : Desk → Name → Component → Bool
is_stock desk c x = is_spare_named desk.prefixes c && (is_some x.place && is_idle desk x)

-- The same in words.
pub record IsStock (desk : Desk) (c : Name) (x : Component) : Type 0 where
  pub named : is_spare_named desk.prefixes c ≡ true
  pub placed : (point : Point) × (x.place ≡ Some point)
  pub gate : (inputs : List Name) × (outputs : List (Name × List Bool)) × (x.kind ≡ Gate inputs outputs)
  pub tied : (p : Name) → role_of x p ≡ Some GateInput → (get x.joined p ≡ Some desk.high) ⊎ (get x.joined p ≡ Some desk.low)
  pub off : (p : Name) (table : List Bool) → role_of x p ≡ Some (GateOutput table) → get x.joined p ≡ None
