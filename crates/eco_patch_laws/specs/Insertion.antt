-- An order's patch gates as gates of the netlist.
use Rattle.std.specs.Prelude.{ℕ, ◌+◌, List, [], ◌∷◌, ◌++◌, map, Option}
use Rattle.std.specs.List.{enumerate_from}
use Rattle.std.specs.FinMap.{FinMap, insert, from_entries}
use Rattle.eco_common.specs.declared.geometry.Point.{Point}
use Rattle.eco_net.specs.Netlist.{Name, name_cmp, Netlist, Component, Gate}
use Rattle.eco_patch_laws.specs.Orders.{PatchGate, Move, Order}
use Rattle.eco_common.specs.Joints.{NewJoint}
use Rattle.eco_net.specs.Joints.{with_joints}

-- the order's label, a blank, the gate's name. No name in a DEF text has a blank
abbrev pub patch_name : Name → Name → Name
patch_name label gate = label ++ 32 ∷ gate

-- i0, i1 and so on. A gate has at most six inputs
abbrev pub input_pin : ℕ → Name
input_pin i = 105 ∷ (48 + i) ∷ []

-- out
abbrev pub output_pin : Name
output_pin = 111 ∷ 117 ∷ 116 ∷ []

-- each input pin with its net
abbrev pub input_pins : List Name → List (Name × Name)
input_pins inputs = map (λ e. (input_pin e.0, e.1)) (enumerate_from 0 inputs)

-- a gate with one output
abbrev pub patch_component : PatchGate → Option Point → Component
patch_component g place = record {
  kind = Gate (map (λ e. e.0) (input_pins g.inputs)) ((output_pin, g.table) ∷ []);
  place = place;
  joined = from_entries (input_pins g.inputs ++ (output_pin, g.output) ∷ []);
}

abbrev pub with_gates : Name → (Name → Option Point) → FinMap name_cmp Component → List PatchGate → FinMap name_cmp Component
with_gates label place m [] = m
with_gates label place m (g ∷ gs) = insert (with_gates label place m gs) (patch_name label g.name) (patch_component g (place g.name))

-- the moved pin on the net that it goes to
abbrev pub move_joint : Move → NewJoint
move_joint m = record { comp = m.comp; pin = m.pin; net = m.to }

-- the netlist with the new nets and each moved pin on its `to` net
abbrev pub with_moves : Netlist → Order → Netlist
with_moves N order = with_joints N (map move_joint order.moves) order.nets

-- The netlist with the order inserted: the new nets, each moved pin on its `to` net, and each patch gate as a gate with one
-- output, at the point that its name is given, or unplaced. The label distinguishes the gates of several orders: the order's
-- name, or the empty name for an order under test.
abbrev pub inserted : Name → (Name → Option Point) → Netlist → Order → Netlist
inserted label place N order = record (with_moves N order) { comps = with_gates label place (with_moves N order).comps order.gates }
