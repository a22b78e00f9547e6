-- Which pins drive a net, and which nets are computed or free.
use Rattle.std.specs.Prelude.{◌≡◌, ◌↔◌, ℕ, Bool, true, false, cond, List, length, Option, Some, None, slice_get}
use Rattle.std.specs.List.{Contains}
use Rattle.std.specs.Option.{option_map}
use Rattle.std.specs.FinMap.{get}
use Rattle.eco_common.specs.declared.geometry.Dir.{Dir}
use Rattle.eco_common.specs.declared.geometry.Dir.TheVariants.{Input, Output, Inout}
use Rattle.eco_net.specs.Netlist.{Name, Netlist, Component, Top, Pin, TopPin, CompPin, Role, GateInput, GateOutput, BoxedPin, role_of, input_nets}

-- a gate's outputs, and OUTPUT and INOUT pins of a box
abbrev pub is_driving : Option Role → Bool
is_driving None = false
is_driving (Some GateInput) = false
is_driving (Some (GateOutput t)) = true
is_driving (Some (BoxedPin Input)) = false
is_driving (Some (BoxedPin Output)) = true
is_driving (Some (BoxedPin Inout)) = true

-- a gate's inputs are INPUT, its outputs OUTPUT
abbrev pub dir_of_role : Role → Dir
dir_of_role GateInput = Input
dir_of_role (GateOutput t) = Output
dir_of_role (BoxedPin d) = d

-- INPUT and INOUT pins of the chip
abbrev pub drives_inward : Dir → Bool
drives_inward Input = true
drives_inward Output = false
drives_inward Inout = true

abbrev pub driven_at : Option Component → Name → Option Name
driven_at None p = None
driven_at (Some x) p = cond (is_driving (role_of x p)) (get x.joined p) None

abbrev pub driven_top : Option Top → Option Name
driven_top None = None
driven_top (Some t) = cond (drives_inward t.dir) (Some t.net) None

-- the net that a pin drives, if it is a driving pin and on a net
abbrev pub driven : Netlist → Pin → Option Name
driven N (TopPin t) = driven_top (get N.tops t)
driven N (CompPin c p) = driven_at (get N.comps c) p

-- p is the one driving pin of n
pub record IsDriver (N : Netlist) (n : Name) (p : Pin) : Type 0 where
  pub drives : driven N p ≡ Some n
  pub only : (q : Pin) → driven N q ≡ Some n → q ≡ p

-- so many pins drive n: each of them stands once in a list of so many
pub record HasDrivers (N : Netlist) (n : Name) (count : ℕ) : Type 0 where
  pub pins : List Pin
  pub once : (i j : ℕ) (p : Pin) → slice_get pins i ≡ Some p → slice_get pins j ≡ Some p → i ≡ j
  pub each : (p : Pin) → Contains pins p ↔ (driven N p ≡ Some n)
  pub counted : length pins ≡ count

abbrev pub joined_at : Option Component → Name → Option Name
joined_at None p = None
joined_at (Some x) p = get x.joined p

-- the net that a pin is on
abbrev pub net_of : Netlist → Pin → Option Name
net_of N (TopPin t) = option_map (λ x. x.net) (get N.tops t)
net_of N (CompPin c p) = joined_at (get N.comps c) p

-- a pin of the net, but not its one driving pin
abbrev pub IsSink : Netlist → Name → Pin → Type 0
IsSink N n p = (net_of N p ≡ Some n) × (IsDriver N n p → ⊥)

-- n is no supply, and its one driving pin is a gate's output, with this table and these nets at the gate's inputs
pub record Computed (N : Netlist) (n : Name) (table : List Bool) (inputs : List (Option Name)) : Type 0 where
  pub unsupplied : get N.nets n ≡ Some None
  pub comp : Name
  pub pin : Name
  pub gate : Component
  pub is : get N.comps comp ≡ Some gate
  pub driver : IsDriver N n (CompPin comp pin)
  pub at : role_of gate pin ≡ Some (GateOutput table)
  pub reads : input_nets gate ≡ inputs

abbrev pub IsComputed : Netlist → Name → Type 0
IsComputed N n = (table : List Bool) × (inputs : List (Option Name)) × Computed N n table inputs

-- a net that is neither a supply nor computed
abbrev pub IsFree : Netlist → Name → Type 0
IsFree N n = (get N.nets n ≡ Some None) × (IsComputed N n → ⊥)
