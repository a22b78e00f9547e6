-- A netlist as it was listed: its nets, components and top pins in the order in which they were added, which numbers them.
use Rattle.std.specs.Prelude.{◌≡◌, ℕ, zero, suc, ◌<◌, ◌^◌, Bool, true, List, [], ◌∷◌, map, length, Option, Some, None, MatchOption, slice_get, slice_set}
use Rattle.std.specs.List.{filter, Contains, IsDistinct, range_with_len}
use Rattle.std.specs.Option.{option_map, unwrap_or}
use Rattle.std.specs.Ordering.{eq_by_cmp}
use Rattle.std.specs.FinMap.{get, from_entries}
use Rattle.std.specs.FinSet.{from_list}
use Rattle.eco_func.specs.Tables.{TruthTable, at}
use Rattle.eco_net.specs.declared.kind.Kind.{Kind as Given}
use Rattle.eco_net.specs.declared.kind.Kind.TheVariants.{Gate as GivenGate, Boxed as GivenBox}
use Rattle.eco_net.specs.declared.kind.PinUse.{PinUse}
use Rattle.eco_net.specs.declared.kind.PinUse.TheVariants.{GateInput as UseInput, GateOutput as UseOutput, BoxedPin as UseBoxed}
use Rattle.eco_net.specs.declared.rows.NetRow.{NetRow}
use Rattle.eco_net.specs.declared.rows.CompRow.{CompRow}
use Rattle.eco_net.specs.declared.rows.TopRow.{TopRow}
use Rattle.eco_net.specs.declared.ids.CompId.{CompId}
use Rattle.eco_net.specs.declared.ids.FoundComp.{FoundComp}
use Rattle.eco_net.specs.declared.ids.PinRef.{PinRef}
use Rattle.eco_net.specs.declared.ids.PinRef.TheVariants.{Top as TopNumber, Pin as PinNumber}
use Rattle.eco_net.specs.Netlist.{Name, name_cmp, Kind, Gate, Boxed, Netlist, Component, Top, Pin, TopPin, CompPin, Role, GateInput, GateOutput, BoxedPin, pins_of, IsPin}

pub record Listing : Type 0 where
  pub nets : List NetRow
  pub comps : List CompRow
  pub tops : List TopRow
  pub reserved : List Name

-- ---- its rows by names

-- a table's bits, row 0 first
abbrev pub bits_of : TruthTable → List Bool
bits_of t = map (at t) (range_with_len 0 (2 ^ t.inputs))

abbrev pub given_kind : Given → Kind
given_kind (GivenGate m) = Gate m.inputs (map (λ o. (o.pin, bits_of o.table)) m.outputs)
given_kind (GivenBox pins) = Boxed (map (λ p. (p.name, p.dir)) pins)

-- what a pin is for, its table by its bits
abbrev pub role_of_use : PinUse → Role
role_of_use UseInput = GateInput
role_of_use (UseOutput t) = GateOutput (bits_of t)
role_of_use (UseBoxed d) = BoxedPin d

-- a component's pins by number
abbrev pub pins : CompRow → List (Name × Role)
pins r = pins_of (given_kind r.kind)

-- the name of the net of a number
abbrev pub net_name : List NetRow → ℕ → Name
net_name nets i = unwrap_or (option_map (λ r. r.name) (slice_get nets i)) []

-- the name of the component of a number
abbrev pub comp_name : List CompRow → ℕ → Name
comp_name comps c = unwrap_or (option_map (λ r. r.name) (slice_get comps c)) []

-- the net of each pin that is on one
abbrev pub row_joints : List NetRow → List (Name × Role) → List (Option ℕ) → List (Name × Name)
row_joints nets [] js = []
row_joints nets (p ∷ ps) [] = []
row_joints nets (p ∷ ps) (None ∷ js) = row_joints nets ps js
row_joints nets (p ∷ ps) (Some i ∷ js) = (p.0, net_name nets i) ∷ row_joints nets ps js

abbrev pub component : List NetRow → CompRow → Component
component nets r = record { kind = given_kind r.kind; place = r.place; joined = from_entries (row_joints nets (pins r) r.joined) }

abbrev pub top : List NetRow → TopRow → Top
top nets r = record { dir = r.dir; net = net_name nets r.net }

-- the netlist that is listed
abbrev pub netlist : Listing → Netlist
netlist L = record {
  nets = from_entries (map (λ r. (r.name, r.supply)) L.nets);
  comps = from_entries (map (λ r. (r.name, component L.nets r)) L.comps);
  tops = from_entries (map (λ r. (r.name, top L.nets r)) L.tops);
  ties = from_list (map (λ r. r.name) (filter (λ r. r.tie) L.nets));
  reserved = from_list L.reserved;
}

abbrev pub net_names : Listing → List Name
net_names L = map (λ r. r.name) L.nets

abbrev pub comp_names : Listing → List Name
comp_names L = map (λ r. r.name) L.comps

abbrev pub top_names : Listing → List Name
top_names L = map (λ r. r.name) L.tops

-- ---- names of pins

abbrev pub pin_at : Option CompRow → ℕ → Pin
pin_at None k = TopPin []
pin_at (Some r) k = CompPin r.name (unwrap_or (option_map (λ p. p.0) (slice_get (pins r) k)) [])

-- the pin of a number
abbrev pub numbered_pin : Listing → PinRef → Pin
numbered_pin L (TopNumber t) = TopPin (unwrap_or (option_map (λ r. r.name) (slice_get L.tops t.0)) [])
numbered_pin L (PinNumber c k) = pin_at (slice_get L.comps c.0) k

-- a pin by the name of its component, or none for a top pin
abbrev pub pin_by : Option Name → Name → Pin
pin_by None n = TopPin n
pin_by (Some c) n = CompPin c n

abbrev pub HasPin : Option CompRow → ℕ → Type 0
HasPin None k = ⊥
HasPin (Some r) k = k < length (pins r)

abbrev pub IsKnownPin : Listing → PinRef → Type 0
IsKnownPin L (TopNumber t) = t.0 < length L.tops
IsKnownPin L (PinNumber c k) = HasPin (slice_get L.comps c.0) k

-- ---- what a listing keeps

-- no name stands at two places
abbrev pub AreDistinctNames : List Name → Type 0
AreDistinctNames names = (i j : ℕ) (n : Name) → slice_get names i ≡ Some n → slice_get names j ≡ Some n → i ≡ j

-- a box's pins have names of their own, and fewer than 2 ^ 32 numbers; those of a gate have by its type
abbrev pub HasOwnPins : Given → Type 0
HasOwnPins (GivenGate m) = Unit {0}
HasOwnPins (GivenBox pins) = IsDistinct (eq_by_cmp name_cmp) (map (λ p. p.name) pins) × (length pins < 2 ^ 32)

-- ---- changes

-- a pin of a component on another net, or on none
abbrev pub rejoined : List CompRow → ℕ → ℕ → Option ℕ → List CompRow
rejoined [] c pin net = []
rejoined (r ∷ rows) zero pin net = record r { joined = slice_set r.joined pin net } ∷ rows
rejoined (r ∷ rows) (suc c) pin net = r ∷ rejoined rows c pin net

abbrev pub with_joint : List CompRow → ℕ → ℕ → ℕ → List CompRow
with_joint rows c pin net = rejoined rows c pin (Some net)

abbrev pub without_joint : List CompRow → ℕ → ℕ → List CompRow
without_joint rows c pin = rejoined rows c pin None

abbrev pub with_tie : List NetRow → ℕ → List NetRow
with_tie [] n = []
with_tie (r ∷ rows) zero = record r { tie = true } ∷ rows
with_tie (r ∷ rows) (suc n) = r ∷ with_tie rows n

-- the component of a number
abbrev pub comp_of : ℕ → CompId
comp_of c = record { 0 = c }

-- a component that was looked up is there, and has so many pins
abbrev pub IsFound : Listing → FoundComp → Type 0
IsFound L f = option_map (λ r. length (pins r)) (slice_get L.comps f.id.0) ≡ Some f.pins

-- the component of a name, or none
abbrev pub FindsComp : Listing → Name → Option FoundComp → Type 0
FindsComp L name found = MatchOption found (get (netlist L).comps name ≡ None) (λ f. (slice_get (comp_names L) f.id.0 ≡ Some name) × IsFound L f)

-- where a name stands in a list
abbrev pub FindsName : List Name → Name → Option ℕ → Type 0
FindsName names q None = Contains names q → ⊥
FindsName names q (Some k) = slice_get names k ≡ Some q

-- the pin of a name among those of a component
abbrev pub FindsPin : Option CompRow → Name → Option ℕ → Type 0
FindsPin None q o = ⊥
FindsPin (Some r) q o = FindsName (map (λ p. p.0) (pins r)) q o

-- the component's pin of a name by number, or none where the component has no such pin
abbrev pub FindsPinNamed : Listing → CompId → Name → Option ℕ → Type 0
FindsPinNamed L c q None = (x : Component) → get (netlist L).comps (comp_name L.comps c.0) ≡ Some x → IsPin x q → ⊥
FindsPinNamed L c q (Some k) = IsKnownPin L (PinNumber c k) × (numbered_pin L (PinNumber c k) ≡ CompPin (comp_name L.comps c.0) q)
