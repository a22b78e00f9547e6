-- One patch gate on one named spare.
use Rattle.std.specs.Prelude.{◌≡◌, ◌↔◌, ℕ, Bool, true, List, [], ◌∷◌, length, Some, None, Ok}
use Rattle.std.specs.List.{Contains}
use Rattle.std.specs.Option.{option_map}
use Rattle.std.specs.FinMap.{get}
use Rattle.eco_common.specs.declared.geometry.Dir.TheVariants.{Input}
use Rattle.eco_def.specs.Design.{Design}
use Rattle.eco_def.specs.Grammar.{design_of}
use Rattle.eco_def.specs.Named.{names_of}
use Rattle.eco_def.specs.View.{design_in}
use Rattle.eco_common.specs.Joints.{NewJoint}
use Rattle.eco_issued_laws.specs.Issued.{Edit, edited, IsOverlayOf}
use Rattle.eco_net.specs.Netlist.{Name, Netlist, Component, Gate, role_of, IsNet}
use Rattle.eco_net.specs.Drivers.{dir_of_role}
use Rattle.eco_net.specs.CutKeys.{CutBits}
use Rattle.eco_net.specs.Valuation.{Valuation, IsValuation}
use Rattle.eco_net.specs.Walks.{IsLoopFree}
use Rattle.eco_net.specs.Listing.{bits_of}
use Rattle.eco_elaborate.specs.Netlists.{netlist_of}
use Rattle.eco_patch_laws.specs.Orders.{PatchGate, Move, Order, Placement}
use Rattle.eco_patch_laws.specs.Insertion.{inserted}
use Rattle.eco_patch_laws.specs.Realisation.{patch_joints, realised}
use Rattle.eco_patch_laws.specs.Embeddings.{SpareEmbeds}
use Rattle.eco_net.specs.Bases.{Base, bare}
use Rattle.eco_patch_laws.specs.Lone.{lone_order}
use Rattle.eco_patch_laws.specs.Meaning.{SameMeaning}
use Rattle.eco_base.specs.Texts.{TextParts}
use Rattle.eco_base.specs.Joined.{kinds}
use Rattle.eco_base.specs.Bases.{frozen}
use Rattle.eco_one_gate.specs.declared.one_gate.OneGate.{OneGate}
use Rattle.eco_issued_laws.specs.NewNets.{can_be_new}
use Rattle.eco_one_gate.specs.PlainBases.{IsPlain}

-- ---- the order

abbrev pub gate_of : OneGate → PatchGate
gate_of one = record { name = []; table = bits_of one.table; inputs = one.inputs.items; output = one.output }

abbrev pub move_of : OneGate → Move
move_of one = record { comp = one.comp; pin = one.pin; from = Some one.from_net; to = one.output }

-- the gate and its one move as an order
abbrev pub order_of : OneGate → Order
order_of one = lone_order (gate_of one) (move_of one)

-- ---- what may refuse it

-- A spare of the stock whose master has one output.
pub record IsOneSpare (base : Base) (spare : Name) : Type 0 where
  pub stock : Contains base.stock spare
  pub comp : Component
  pub found : get base.full.comps spare ≡ Some comp
  pub inputs : List Name
  pub output : Name
  pub table : List Bool
  pub gate : comp.kind ≡ Gate inputs ((output, table) ∷ [])

-- The base without its stock, and with the gate and the move. The gate is unplaced.
abbrev pub patched : Base → OneGate → Netlist
patched base one = inserted [] (λ gate. None) (bare base) (order_of one)

-- Each input is a net, the output can be a new net and is none yet, the moved pin is an input, of a gate or a box that is no
-- stock, and on the net that it leaves, the table has an input for each, and no signal runs in a circle with the gate inserted.
pub record IsGoodOrder (base : Base) (one : OneGate) : Type 0 where
  pub inputs_known : (n : Name) → Contains one.inputs.items n → IsNet base.full n
  pub output_form : can_be_new one.output ≡ true
  pub output_new : get base.full.nets one.output ≡ None
  pub comp : Component
  pub comp_found : get (bare base).comps one.comp ≡ Some comp
  pub pin_reads : option_map dir_of_role (role_of comp one.pin) ≡ Some Input
  pub from : get comp.joined one.pin ≡ Some one.from_net
  pub rows : length one.inputs.items ≡ one.table.inputs
  pub loop_free : IsLoopFree (patched base one)

abbrev pub placement : OneGate → Name → Placement
placement one output = record { gate = []; spare = one.spare; output = output; feeds = one.feeds.items }

-- the component's output with its inputs tied so is the gate
abbrev pub IsEmbedded : OneGate → Component → Name → Type 0
IsEmbedded one comp output = SpareEmbeds (length one.inputs.items) (bits_of one.table) comp output one.feeds.items

-- ---- what it gives

-- the whole base with the spare in the gate's place
abbrev pub with_spare : Base → OneGate → Name → Netlist
with_spare base one output = realised base.low base.high base.full (order_of one) (placement one output ∷ [])

-- the pins that the spare's metal puts on nets: the moved pin and the output on the new net, the inputs on those of their feeds
abbrev pub one_joints : Base → OneGate → Name → List NewJoint
one_joints base one output = patch_joints base.low base.high base.full (order_of one) (placement one output ∷ [])

-- A map from nets to bits is a valuation of the netlist with the gate exactly where it is one of the netlist with the spare.
abbrev pub ComputesSame : Base → OneGate → Name → Type 0
ComputesSame base one output = (cut : CutBits) (v : Valuation) → IsValuation (patched base one) cut v ↔ IsValuation (with_spare base one output) cut v

-- the issued text has a design, and its netlist is this one
pub record ReadsBackTo (t : TextParts) (overlay : List Edit) (N : Netlist) : Type 0 where
  pub again : Design
  pub reads_back : design_of (edited t.text 0 overlay) ≡ Ok again
  pub netlist : netlist_of (kinds t) (t.desk.low ∷ t.desk.high ∷ []) (names_of again) ≡ N

-- The overlay issues the text with the spare's pins on their nets. The netlist with the gate and that with the spare have the
-- same valuations and mean the same: for each choice of cut bits one value at each output and register input. On a plain base
-- the issued text reads back to the netlist with the spare.
pub record IsApplied (t : TextParts) (one : OneGate) (output : Name) (overlay : List Edit) : Type 0 where
  pub issued : IsOverlayOf t.text (design_in t.text t.design) (one_joints (frozen t) one output) (one.output ∷ []) overlay
  pub computes : ComputesSame (frozen t) one output
  pub means : SameMeaning (patched (frozen t) one) (with_spare (frozen t) one output)
  pub back : IsPlain t → ReadsBackTo t overlay (with_spare (frozen t) one output)
