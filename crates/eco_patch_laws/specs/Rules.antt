-- What an order may not break. N is the netlist that the order is tested on, P the patched one.
use Rattle.std.specs.Prelude.{◌≡◌, Bool, true, map, ◌⊎◌, Some, None}
use Rattle.std.specs.List.{Contains, IsDistinct}
use Rattle.std.specs.Ordering.{eq_by_cmp}
use Rattle.std.specs.FinMap.{get}
use Rattle.eco_net.specs.Netlist.{Name, name_cmp, Netlist, Component, Pin, CompPin, IsNet, IsPin, role_of}
use Rattle.eco_net.specs.Drivers.{is_driving, driven, net_of}
use Rattle.eco_net.specs.Walks.{IsLoopFree}
use Rattle.eco_patch_laws.specs.Orders.{PatchGate, Move, Order}
use Rattle.eco_net.specs.Joints.{same_pin}
use Rattle.eco_patch_laws.specs.Insertion.{move_joint}
use Rattle.eco_net.specs.Bases.{IsTie}

-- no net, no gate and no moved pin stands twice
pub record NoneStandsTwice (order : Order) : Type 0 where
  pub nets : IsDistinct (eq_by_cmp name_cmp) order.nets
  pub gates : IsDistinct (eq_by_cmp name_cmp) (map (λ g. g.name) order.gates)
  pub moves : IsDistinct same_pin (map move_joint order.moves)

-- a net that the order names, and that is to be one of the netlist or of the order's new ones
pub data Names (order : Order) (n : Name) : Type 0 where
  as_input : (g : PatchGate) → Contains order.gates g → Contains g.inputs n → Names order n
  as_output : (g : PatchGate) → Contains order.gates g → g.output ≡ n → Names order n
  as_goal : (m : Move) → Contains order.moves m → m.to ≡ n → Names order n

abbrev pub NetsAreKnown : Netlist → Order → Type 0
NetsAreKnown N order = (n : Name) → Names order n → IsNet N n ⊎ Contains order.nets n

-- moved pins are pins of components of the base that are no stock
abbrev pub PinsAreKnown : Netlist → Order → Type 0
PinsAreKnown bare order = (m : Move) → Contains order.moves m → (x : Component) × (get bare.comps m.comp ≡ Some x) × IsPin x m.pin

-- each moved pin is on the net that the order says
abbrev pub MovesAreTrue : Netlist → Order → Type 0
MovesAreTrue N order = (m : Move) → Contains order.moves m → net_of N (CompPin m.comp m.pin) ≡ m.from

-- a move of a pin that drives
abbrev pub MovesDriver : Netlist → Move → Type 0
MovesDriver N m = (x : Component) × (get N.comps m.comp ≡ Some x) × (is_driving (role_of x m.pin) ≡ true)

-- a net whose driving pins the order changes
pub data IsRedriven (N : Netlist) (order : Order) (n : Name) : Type 0 where
  by_gate : (g : PatchGate) → Contains order.gates g → g.output ≡ n → IsRedriven N order n
  left_by : (m : Move) → Contains order.moves m → MovesDriver N m → m.from ≡ Some n → IsRedriven N order n
  reached_by : (m : Move) → Contains order.moves m → MovesDriver N m → m.to ≡ n → IsRedriven N order n

-- no such net is a supply or a tie net
abbrev pub NoSupplyIsRedriven : Netlist → Order → Type 0
NoSupplyIsRedriven N order = (n : Name) → IsRedriven N order n → ((b : Bool) → get N.nets n ≡ Some (Some b) → ⊥) × (IsTie N n → ⊥)

-- new nets are not in the netlist
abbrev pub NetsAreNew : Netlist → Order → Type 0
NetsAreNew N order = (n : Name) → Contains order.nets n → get N.nets n ≡ None

-- in the patched netlist no such net has two driving pins
abbrev pub NoTwoDrivers : Netlist → Netlist → Order → Type 0
NoTwoDrivers N P order = (n : Name) → IsRedriven N order n → (p q : Pin) → driven P p ≡ Some n → driven P q ≡ Some n → p ≡ q

-- no rule is broken. bare: the base without its stock
pub record KeepsRules (bare N P : Netlist) (order : Order) : Type 0 where
  pub once : NoneStandsTwice order
  pub nets_known : NetsAreKnown N order
  pub pins_known : PinsAreKnown bare order
  pub true_moves : MovesAreTrue N order
  pub no_supply : NoSupplyIsRedriven N order
  pub nets_new : NetsAreNew N order
  pub one_driver : NoTwoDrivers N P order
  pub loop_free : IsLoopFree P
