-- What inner functions of insertion keep.
use Rattle.std.specs.Prelude.{◌≡◌, ℕ, List, [], ◌∷◌, map, None, Some}
use Rattle.std.specs.List.{Contains, enumerate_from}
use Rattle.std.specs.FinMap.{get, insert}
use Rattle.eco_net.specs.Changes.{with_pin_on}
use Rattle.eco_net.specs.Netlist.{Name, Netlist, Component, CompPin, IsNet, IsPin}
use Rattle.eco_net.specs.Joints.{put_joints}
use Rattle.eco_order.specs.Insert.{patch_gate, patch_move}
use Rattle.eco_order.specs.Rules.{gate_nets}
use Rattle.eco_order_file.specs.Orders.{Gate, Move}
use Rattle.eco_patch_laws.specs.Insertion.{input_pin, move_joint, patch_name, patch_component, with_gates}

-- a pin of a component
abbrev pub IsPinOf : Netlist → Name → Name → Type 0
IsPinOf N c p = (x : Component) × (get N.comps c ≡ Some x) × IsPin x p

-- each moved pin is one, and goes to a net
abbrev pub CanMoveAll : Netlist → List Move → Type 0
CanMoveAll N ms = (m : Move) → Contains ms m → IsPinOf N m.comp m.pin × IsNet N m.to

-- with these pins moved
abbrev pub with_moved : Netlist → List Move → Netlist
with_moved N ms = record N { comps = put_joints N.comps (map move_joint (map patch_move ms)) }

-- a gate's input pins from a place on, with their nets
abbrev pub pins_from : ℕ → List Name → List (Name × Name)
pins_from i nets = map (λ e. (input_pin e.0, e.1)) (enumerate_from i nets)

-- with each of these pins of a component on its net
abbrev pub put_all : Netlist → Name → List (Name × Name) → Netlist
put_all N c [] = N
put_all N c (e ∷ es) = with_pin_on (put_all N c es) (CompPin c e.0) e.1

-- with a gate that is unplaced
abbrev pub with_gate : Name → Netlist → Gate → Netlist
with_gate label N g = record N { comps = insert N.comps (patch_name label g.name) (patch_component (patch_gate g) None) }

-- with these gates
abbrev pub with_all_gates : Name → Netlist → List Gate → Netlist
with_all_gates label N gs = record N { comps = with_gates label (λ g. None) N.comps (map patch_gate gs) }

-- each net that a gate names is there
abbrev pub HasGateNets : Netlist → Gate → Type 0
HasGateNets N g = (n : Name) → Contains (gate_nets g) n → IsNet N n
