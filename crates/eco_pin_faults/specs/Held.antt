-- What the code's values say by names.
use Rattle.std.specs.Prelude.{◌≡◌, ℕ, nat_lt, Bool, true, not, ◌&&◌, ◌||◌, List, Option, if◌then◌else◌}
use Rattle.std.specs.Option.{option_map, option_or}
use Rattle.std.specs.Str.{bytes_eq}
use Rattle.std.specs.Borrow.{Bor}
use Rattle.std.specs.HashMap.{HashMap, get_by}
use Rattle.std.specs.declared.hash.FoldHasher.{FoldHasher}
use Rattle.std.specs.declared.hash.BuildHasherDefault.{BuildHasherDefault}
use Rattle.eco_def.specs.declared.design.NetStatement.{NetStatement}
use Rattle.eco_def.specs.Named.{NamedPin}
use Rattle.eco_net.specs.Netlist.{Name}
use Rattle.eco_pin_faults.specs.declared.placed_pin.PlacedPin.{PlacedPin}
use Rattle.eco_pin_faults.specs.declared.side.Side.{Side}
use Rattle.eco_pin_faults.specs.declared.side.Side.TheVariants.{Before, Behind, Both}
use Rattle.eco_pin_faults.specs.declared.design_pins.DesignPins.{DesignPins}
use Rattle.eco_pin_faults.specs.Places.{PinPlace, top_word, every_word}
use Rattle.eco_pin_faults.specs.Pins.{Parts}
use Rattle.eco_pin_faults.specs.Faults.{first_net, is_on}

abbrev pub place_by : PlacedPin → PinPlace
place_by p = record { comp = p.comp.now; pin = p.pin.now; net = p.net.now; special = p.special; at = p.start }

-- a statement stands on a side of a place
abbrev pub takes : Side → NetStatement → Bool
takes (Before at) s = nat_lt s.start at
takes (Behind at) s = not (nat_lt s.start at)
takes Both s = true

-- maps by names
abbrev pub ByName : Type 0 → Type 0
ByName X = HashMap (Bor (List ℕ)) X (BuildHasherDefault FoldHasher)

abbrev pub at_name : {X : Type 0} → ByName X → Name → Option X
at_name m n = get_by (λ k. bytes_eq n k.now) m

abbrev pub model_by : ByName (Bor (List ℕ)) → Name → Option Name
model_by models n = option_map (λ m. m.now) (at_name models n)

abbrev pub parts_by : DesignPins → Parts
parts_by d = record { model = model_by d.models; supply = λ n. option_map (λ p. p.supply) (at_name d.tops n) }

-- the net of a pin by a map of first nets
abbrev pub net_by : HashMap (Bor (List ℕ) × Bor (List ℕ)) (Bor (List ℕ)) (BuildHasherDefault FoldHasher) → Name → Name → Option Name
net_by nets comp pin = option_map (λ n. n.now) (get_by (λ k. bytes_eq comp k.0.now && bytes_eq pin k.1.now) nets)

-- the nets at the first places, with those of more places behind
abbrev pub AddsPlaces : HashMap (Bor (List ℕ) × Bor (List ℕ)) (Bor (List ℕ)) (BuildHasherDefault FoldHasher) → HashMap (Bor (List ℕ) × Bor (List ℕ)) (Bor (List ℕ)) (BuildHasherDefault FoldHasher) → List PinPlace → Type 0
AddsPlaces old new ps = (comp pin : Name) → net_by new comp pin ≡ option_or (net_by old comp pin) (first_net ps comp pin)

-- whether a joint that names no component is right, by the top pins of a map
abbrev pub right_by : (Name → Option NamedPin) → Bool → Name → Name → Name → Bool
right_by top special comp pin net = if bytes_eq comp top_word then is_on (top pin) net else (special || not (bytes_eq comp every_word))
