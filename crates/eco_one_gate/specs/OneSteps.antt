-- What the steps of `apply_one` find, one by one.
use Rattle.std.specs.Prelude.{◌≡◌, ℕ, true, List, [], ◌∷◌, map, length, Some, None}
use Rattle.std.specs.List.{Contains, zip, range_with_len}
use Rattle.std.specs.Option.{option_map}
use Rattle.std.specs.FinMap.{get}
use Rattle.eco_common.specs.declared.geometry.Dir.TheVariants.{Input}
use Rattle.eco_func.specs.declared.output.OutputFn.{OutputFn}
use Rattle.eco_func.specs.Tables.{TruthTable}
use Rattle.eco_func.specs.Masters.{MasterTables, is_master}
use Rattle.eco_net.specs.declared.ids.CompId.{CompId}
use Rattle.eco_net.specs.declared.ids.PinRef.TheVariants.{Pin}
use Rattle.eco_net.specs.declared.kind.Kind.TheVariants.{Gate}
use Rattle.eco_net.specs.Netlist.{Name, Netlist, Component, CompPin, role_of, IsNet}
use Rattle.eco_net.specs.Drivers.{dir_of_role}
use Rattle.eco_net.specs.Listing.{Listing, netlist, numbered_pin, given_kind, IsKnownPin}
use Rattle.eco_common.specs.Joints.{NewJoint}
use Rattle.eco_patch_laws.specs.Insertion.{move_joint, input_pin, output_pin, with_moves, inserted}
use Rattle.eco_patch_laws.specs.Realisation.{on_pin, feed_joints}
use Rattle.eco_net.specs.Bases.{Base}
use Rattle.eco_one_gate.specs.declared.one_gate.OneGate.{OneGate}
use Rattle.eco_issued_laws.specs.NewNets.{can_be_new}
use Rattle.eco_one_gate.specs.OneGates.{gate_of, move_of, order_of, IsOneSpare}

-- the component is a spare of the stock with one output, and this is its master
pub record IsSpareGate (base : Base) (name : Name) (m : MasterTables) : Type 0 where
  pub spare : IsOneSpare base name
  pub master : is_master m.inputs m.outputs ≡ true
  pub kind : spare.comp.kind ≡ given_kind (Gate m)
  pub output : OutputFn
  pub one : m.outputs ≡ output ∷ []

-- the pin is an input of a component, and on the net that it leaves
pub record MovesInput (N : Netlist) (one : OneGate) : Type 0 where
  pub comp : Component
  pub comp_found : get N.comps one.comp ≡ Some comp
  pub pin_reads : option_map dir_of_role (role_of comp one.pin) ≡ Some Input
  pub from : get comp.joined one.pin ≡ Some one.from_net

-- the numbers are those of such a pin
pub record IsMovedPin (L : Listing) (one : OneGate) (comp : CompId) (pin : ℕ) : Type 0 where
  pub moves : MovesInput (netlist L) one
  pub known : IsKnownPin L (Pin comp pin)
  pub named : numbered_pin L (Pin comp pin) ≡ CompPin one.comp one.pin

-- a good order on a netlist without the stock, but that a signal may run in a circle
pub record IsKnownOrder (N : Netlist) (one : OneGate) : Type 0 where
  pub inputs_known : (n : Name) → Contains one.inputs.items n → IsNet N n
  pub output_form : can_be_new one.output ≡ true
  pub output_new : get N.nets one.output ≡ None
  pub rows : length one.inputs.items ≡ one.table.inputs
  pub moves : MovesInput N one

-- the moved pin and the spare's output on the new net, and the spare's inputs on the nets of their feeds
abbrev pub lone_joints : Name → Name → OneGate → List Name → Name → List NewJoint
lone_joints low high one inputs output =
    move_joint (move_of one) ∷ on_pin one.spare output one.output ∷ feed_joints low high (gate_of one) one.spare (zip inputs one.feeds.items)

-- a patch gate of this table as a master
abbrev pub patch_tables : TruthTable → MasterTables
patch_tables t = record { name = []; inputs = map input_pin (range_with_len 0 t.inputs); outputs = record { pin = output_pin; table = t } ∷ [] }

-- the netlist with the new net and the pin on it
abbrev pub moved_on : Netlist → OneGate → Netlist
moved_on N one = with_moves N (order_of one)

-- the netlist with the gate and the move
abbrev pub patched_on : Netlist → OneGate → Netlist
patched_on N one = inserted [] (λ gate. None) N (order_of one)
