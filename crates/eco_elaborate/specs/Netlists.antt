-- Which netlist a design has (LEF/DEF 5.8 Language Reference, "Components", "Pins", "Nets", "Special Nets").
use Rattle.std.specs.Prelude.{ℕ, Bool, true, false, not, ◌&&◌, ◌||◌, List, ◌++◌, map, Option, Some, None, if◌then◌else◌, codes}
use Rattle.std.specs.List.{list_any, filter, filter_map, find}
use Rattle.std.specs.Option.{option_map}
use Rattle.std.specs.Str.{bytes_eq}
use Rattle.std.specs.FinMap.{from_entries}
use Rattle.std.specs.FinSet.{from_list, empty}
use Rattle.eco_common.specs.declared.geometry.Point.{Point}
use Rattle.eco_common.specs.declared.geometry.Size.{Size}
use Rattle.eco_common.specs.Options.{first_some}
use Rattle.eco_def.specs.Named.{NamedComp, NamedPin, NamedJoint, NamedNet, NamedDesign}
use Rattle.eco_issued_laws.specs.Changes.{is_no_component, statements}
use Rattle.eco_net.specs.Netlist.{Name, Kind, Component, Top, Netlist, pins_of}
use Rattle.eco_elaborate.specs.Centres.{doubled_centre}

-- What a macro's name stands for: a gate with its tables, or a box with its pins that aren't supply, and its size. None for a
-- name of no macro, whose size is of no account.
pub record Kinds : Type 0 where
  pub kind : Name → Option Kind
  pub size : Name → Size

-- Whether a macro, by its name, has this pin as a supply pin (USE POWER or GROUND). Supply pins are in no netlist.
abbrev pub Powers : Type 0
Powers = Name → Name → Bool

-- ---- nets

-- a supply of value 1 by USE POWER, of value 0 by USE GROUND, and none by another use
abbrev pub supply_by : Option Name → Option Bool
supply_by None = None
supply_by (Some usage) = if bytes_eq usage (codes "POWER") then Some true else (if bytes_eq usage (codes "GROUND") then Some false else None)

-- a net's value as a supply, by the first of its statements that makes it one
abbrev pub net_supply : NamedDesign → Name → Option Bool
net_supply d n = first_some (map (λ s. supply_by s.usage) (filter (λ s. bytes_eq s.name n) (statements d)))

-- ---- pins

-- the joint is of that pin: PIN and * name no component
abbrev pub names_pin : Name → Name → NamedJoint → Bool
names_pin c p j = not (is_no_component j.comp) && (bytes_eq c j.comp && bytes_eq p j.pin)

abbrev pub has_joint : Name → Name → NamedNet → Bool
has_joint c p s = list_any (names_pin c p) s.joints

-- the net that a component's pin is on, by the first statement that has its joint
abbrev pub net_of_pin : NamedDesign → Name → Name → Option Name
net_of_pin d c p = option_map (λ s. s.name) (find (has_joint c p) (statements d))

abbrev pub kind_pins : Kind → List Name
kind_pins k = map (λ e. e.0) (pins_of k)

-- those of a component's pins that are on nets, with their nets
abbrev pub joined_in : NamedDesign → Name → List Name → List (Name × Name)
joined_in d c ps = filter_map (λ p. option_map (λ n. (p, n)) (net_of_pin d c p)) ps

-- ---- components and top pins

-- a component's doubled centre, where it is placed, in a design of so many database units per micron
abbrev pub centre_in : Kinds → ℕ → NamedComp → Option Point
centre_in kinds units c = option_map (doubled_centre units (kinds.size c.model)) c.place

abbrev pub component_in : Kinds → NamedDesign → NamedComp → Kind → Component
component_in kinds d c k = record { kind = k; place = centre_in kinds d.units c; joined = from_entries (joined_in d c.name (kind_pins k)) }

-- the components whose macros are known, each with what its macro stands for
abbrev pub known_comps : Kinds → NamedDesign → List (NamedComp × Kind)
known_comps kinds d = filter_map (λ c. option_map (λ k. (c, k)) (kinds.kind c.model)) d.comps

abbrev pub components_in : Kinds → NamedDesign → List (Name × Component)
components_in kinds d = map (λ x. (x.0.name, component_in kinds d x.0 x.1)) (known_comps kinds d)

abbrev pub top_of : NamedPin → Top
top_of p = record { dir = p.dir; net = p.net }

abbrev pub tops_in : NamedDesign → List (Name × Top)
tops_in d = map (λ p. (p.name, top_of p)) (filter (λ p. not p.supply) d.pins)

-- ---- the netlist

abbrev pub supplied_nets : NamedDesign → List (Name × Option Bool)
supplied_nets d = map (λ n. (n, net_supply d n)) (map (λ s. s.name) (statements d) ++ map (λ p. p.net) d.pins)

-- The netlist of a design, by what its macros' names stand for and by the names of the tie nets. Supply pins are in no
-- netlist, those of the design no more than those of components; their nets are. IsNetlistOf says the same in words.
abbrev pub netlist_of : Kinds → List Name → NamedDesign → Netlist
netlist_of kinds ties d = record {
  nets = from_entries (supplied_nets d);
  comps = from_entries (components_in kinds d);
  tops = from_entries (tops_in d);
  ties = from_list ties;
  reserved = empty;
}
