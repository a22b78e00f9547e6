-- One gate on a new net, which one input pin goes to: the least order, on one spare of the stock.
use Rattle.std.specs.Prelude.{◌≡◌, [], ◌∷◌, Option, None, Some, length}
use Rattle.std.specs.List.{Contains}
use Rattle.std.specs.Option.{option_map}
use Rattle.std.specs.FinMap.{get}
use Rattle.eco_common.specs.declared.geometry.Point.{Point}
use Rattle.eco_common.specs.declared.geometry.Dir.TheVariants.{Input}
use Rattle.eco_net.specs.Netlist.{Name, Component, role_of, IsNet}
use Rattle.eco_net.specs.Drivers.{dir_of_role}
use Rattle.eco_net.specs.Walks.{IsLoopFree}
use Rattle.eco_patch_laws.specs.Orders.{PatchGate, Move, Order, Placement}
use Rattle.eco_patch_laws.specs.Insertion.{inserted}
use Rattle.eco_patch_laws.specs.Embeddings.{SpareEmbeds}
use Rattle.eco_net.specs.Bases.{Base, IsBase, HasBlank, bare}

-- the gate's output is the new net
abbrev pub lone_order : PatchGate → Move → Order
lone_order gate move = record { name = gate.name; nets = gate.output ∷ []; gates = gate ∷ []; moves = move ∷ [] }

-- The spare is one of the stock, each input is a net, the output is none, the pin is an input, of a gate or a box that is no
-- stock, and on the net that it is to leave, there is no closed walk with the gate inserted, and the feeds embed the gate in the
-- spare.
pub record IsLone (base : Base) (label : Name) (place : Name → Option Point) (gate : PatchGate) (move : Move) (p : Placement) : Type 0 where
  pub base_is : IsBase base
  pub no_blank : HasBlank label → ⊥
  pub stock : Contains base.stock p.spare
  pub spare : Component
  pub spare_found : get base.full.comps p.spare ≡ Some spare
  pub inputs_known : (n : Name) → Contains gate.inputs n → IsNet base.full n
  pub output_new : get base.full.nets gate.output ≡ None
  pub comp : Component
  pub comp_found : get (bare base).comps move.comp ≡ Some comp
  pub pin_reads : option_map dir_of_role (role_of comp move.pin) ≡ Some Input
  pub from : get comp.joined move.pin ≡ move.from
  pub to : move.to ≡ gate.output
  pub loop_free : IsLoopFree (inserted label place (bare base) (lone_order gate move))
  pub embeds : SpareEmbeds (length gate.inputs) gate.table spare p.output p.feeds
