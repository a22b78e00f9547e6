-- Where values come from outside: the cut keys of free nets.
use Rattle.std.specs.Prelude.{◌≡◌, Bool, true, false, List, [], ◌∷◌, Option, Some, None, ◌↔◌}
use Rattle.std.specs.declared.cmp.Ordering.{Ordering}
use Rattle.std.specs.Ordering.{on}
use Rattle.std.specs.Cmp.Lexicographic.{slice_cmp}
use Rattle.std.specs.FinMap.{FinMap, get, contains_key}
use Rattle.eco_common.specs.declared.geometry.Dir.{Dir}
use Rattle.eco_common.specs.declared.geometry.Dir.TheVariants.{Input, Output, Inout}
use Rattle.eco_net.specs.Netlist.{Name, name_cmp, Netlist, Component, Top, Pin, TopPin, CompPin, Role, GateInput, GateOutput, BoxedPin, role_of}
use Rattle.eco_net.specs.Drivers.{IsDriver, IsFree}

pub data CutKey : Type 0 where
  PinKey : (pin : Pin) → CutKey
  NetKey : (net : Name) → CutKey

-- an OUTPUT pin of a box
abbrev pub is_source : Option Role → Bool
is_source (Some (BoxedPin Output)) = true
is_source (Some (BoxedPin Input)) = false
is_source (Some (BoxedPin Inout)) = false
is_source (Some GateInput) = false
is_source (Some (GateOutput t)) = false
is_source None = false

abbrev pub is_input : Dir → Bool
is_input Input = true
is_input Output = false
is_input Inout = false

abbrev pub is_source_top : Option Top → Bool
is_source_top None = false
is_source_top (Some t) = is_input t.dir

abbrev pub is_source_at : Option Component → Name → Bool
is_source_at None p = false
is_source_at (Some x) p = is_source (role_of x p)

-- a top INPUT pin, or an OUTPUT pin of a box
abbrev pub is_source_pin : Netlist → Pin → Bool
is_source_pin N (TopPin t) = is_source_top (get N.tops t)
is_source_pin N (CompPin c p) = is_source_at (get N.comps c) p

-- A free net's key is its only driving pin, if that is a top INPUT or a box's OUTPUT, and else the net itself.
abbrev pub KeyOf : Netlist → Name → CutKey → Type 0
KeyOf N n (PinKey p) = IsDriver N n p × (is_source_pin N p ≡ true)
KeyOf N n (NetKey m) = (m ≡ n) × ((p : Pin) → IsDriver N n p → is_source_pin N p ≡ true → ⊥)

abbrev pub IsCutKey : Netlist → CutKey → Type 0
IsCutKey N key = (n : Name) × IsFree N n × KeyOf N n key

-- keys are distinguished by names
abbrev pub key_names : CutKey → List Name
key_names (PinKey (TopPin t)) = [] ∷ t ∷ []
key_names (PinKey (CompPin c p)) = [] ∷ c ∷ p ∷ []
key_names (NetKey n) = n ∷ []

abbrev pub key_cmp : CutKey → CutKey → Ordering
key_cmp = on key_names (slice_cmp name_cmp)

abbrev pub CutBits : Type 0
CutBits = FinMap key_cmp Bool

-- a bit for each cut key, and for no other
abbrev pub IsChoice : Netlist → CutBits → Type 0
IsChoice N cut = (key : CutKey) → IsCutKey N key ↔ (contains_key cut key ≡ true)
