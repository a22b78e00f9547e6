-- Which pins a design has, by the names of components and of top pins.
use Rattle.std.specs.Prelude.{Bool, false, not, ◌&&◌, List, Option, Some, None, if◌then◌else◌}
use Rattle.std.specs.List.{list_any, find}
use Rattle.std.specs.Option.{option_map}
use Rattle.std.specs.Str.{bytes_eq}
use Rattle.eco_def.specs.Named.{NamedDesign}
use Rattle.eco_net.specs.Netlist.{Name, Kind}
use Rattle.eco_elaborate.specs.Netlists.{Kinds, Powers, kind_pins}
use Rattle.eco_pin_faults.specs.Places.{top_word, every_word}

-- What the names stand for: the model of each component, and of each top pin whether it is supply.
pub record Parts : Type 0 where
  pub model : Name → Option Name
  pub supply : Name → Option Bool

-- what the item of a name has
abbrev pub of_named : {A X : Type 0} → (A → Name) → (A → X) → List A → Name → Option X
of_named name value xs n = option_map value (find (λ x. bytes_eq (name x) n) xs)

abbrev pub parts_of : NamedDesign → Parts
parts_of d = record {
  model = of_named (λ c. c.name) (λ c. c.model) d.comps;
  supply = of_named (λ p. p.name) (λ p. p.supply) d.pins;
}

-- a macro has the pin, and not as a supply pin
abbrev pub has_signal : Option Kind → Name → Bool
has_signal None p = false
has_signal (Some k) p = list_any (λ n. bytes_eq n p) (kind_pins k)

abbrev pub is_signal_of : Kinds → Option Name → Name → Bool
is_signal_of kinds None p = false
is_signal_of kinds (Some model) p = has_signal (kinds.kind model) p

abbrev pub is_supply_of : Powers → Option Name → Name → Bool
is_supply_of powers None p = false
is_supply_of powers (Some model) p = powers model p

abbrev pub is_signal_top : Option Bool → Bool
is_signal_top None = false
is_signal_top (Some supply) = not supply

abbrev pub is_supply_top : Option Bool → Bool
is_supply_top None = false
is_supply_top (Some supply) = supply

-- A pin of a component or a top pin that isn't supply. The words PIN and * name no component.
abbrev pub is_signal : Kinds → Parts → Name → Name → Bool
is_signal kinds P comp pin = if bytes_eq comp top_word then is_signal_top (P.supply pin) else (not (bytes_eq comp every_word) && is_signal_of kinds (P.model comp) pin)

-- a supply pin of a component, or a top pin that is supply
abbrev pub is_supply : Powers → Parts → Name → Name → Bool
is_supply powers P comp pin = if bytes_eq comp top_word then is_supply_top (P.supply pin) else (not (bytes_eq comp every_word) && is_supply_of powers (P.model comp) pin)
