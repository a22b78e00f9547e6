-- Computed nets by number: the gate that drives each, and the nets that it reads.
use Rattle.std.specs.Prelude.{◌≡◌, ℕ, List, [], length, take, Option, Some, None, slice_get}
use Rattle.std.specs.List.{Contains}
use Rattle.eco_net.specs.declared.kind.Kind.{Kind}
use Rattle.eco_net.specs.declared.kind.Kind.TheVariants.{Gate, Boxed}
use Rattle.eco_net.specs.declared.rows.NetRow.{NetRow}
use Rattle.eco_net.specs.declared.rows.CompRow.{CompRow}
use Rattle.eco_net.specs.declared.ids.CompId.{CompId}
use Rattle.eco_net.specs.declared.ids.PinRef.{PinRef}
use Rattle.eco_net.specs.declared.ids.PinRef.TheVariants.{Top, Pin}
use Rattle.eco_net.specs.Listing.{Listing}
use Rattle.eco_net.specs.ByNumber.{driver_at}

-- a gate's output pin: its component and its number
abbrev pub GatePin : Type 0
GatePin = CompId × ℕ

abbrev pub by_kind : Kind → CompId → ℕ → Option GatePin
by_kind (Gate m) c k = Some (c, k)
by_kind (Boxed ps) c k = None

abbrev pub gate_at : Option CompRow → CompId → ℕ → Option GatePin
gate_at None c k = None
gate_at (Some r) c k = by_kind r.kind c k

abbrev pub gate_pin : Listing → Option PinRef → Option GatePin
gate_pin L None = None
gate_pin L (Some (Top t)) = None
gate_pin L (Some (Pin c k)) = gate_at (slice_get L.comps c.0) c k

abbrev pub unsupplied : Option NetRow → Option GatePin → Option GatePin
unsupplied None g = None
unsupplied (Some r) g = elim r.supply [ None ↦ g | Some b ↦ None ]

-- the gate's output that computes a net
abbrev pub computed_by : Listing → ℕ → Option GatePin
computed_by L n = unsupplied (slice_get L.nets n) (gate_pin L (driver_at L n))

abbrev pub input_count : Kind → ℕ
input_count (Gate m) = length m.inputs
input_count (Boxed ps) = 0

abbrev pub gate_inputs : Option CompRow → List (Option ℕ)
gate_inputs None = []
gate_inputs (Some r) = take (input_count r.kind) r.joined

-- the nets of a gate's inputs, in order
abbrev pub inputs_at : Listing → ℕ → List (Option ℕ)
inputs_at L c = gate_inputs (slice_get L.comps c)

-- the gate that drives b reads a, and both are computed
pub record FeedsNet (L : Listing) (a b : ℕ) : Type 0 where
  pub gate : GatePin
  pub to : computed_by L b ≡ Some gate
  pub reads : Contains (inputs_at L gate.0.0) (Some a)
  pub source : GatePin
  pub from : computed_by L a ≡ Some source
