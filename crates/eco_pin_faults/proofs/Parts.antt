-- The models and top pins of a design, found by maps.
use Rattle.std.proofs.Common.{◌≡◌, ℕ, Bool, List, map, sym, ap, ◌∙◌}
use Rattle.std.specs.List.{find, list_any}
use Rattle.std.specs.Option.{option_map}
use Rattle.std.specs.Str.{bytes_eq}
use Rattle.eco_def.specs.declared.design.Comp.{Comp}
use Rattle.eco_def.specs.declared.design.TopPin.{TopPin}
use Rattle.eco_def.specs.declared.design.Design.{Design}
use Rattle.eco_def.specs.Design as said
use Rattle.eco_def.specs.Named.{NamedComp, NamedPin, comp_names, pin_names}
use Rattle.eco_def.specs.View.{comp_in, pin_in}
use Rattle.eco_net.specs.Netlist.{Name}
use Rattle.eco_text.specs.Cursor.{word_bytes}
use Rattle.eco_elaborate.specs.Stated.{named_comp, named_pin}
use Rattle.eco_elaborate.proofs.Names.{any_mapped}
use Rattle.eco_pin_faults.specs.declared.design_pins.DesignPins.{DesignPins}
use Rattle.eco_pin_faults.specs.Faults.{named}
use Rattle.eco_pin_faults.specs.Held.{at_name, model_by, parts_by}
use Rattle.eco_pin_faults.specs.Pins.{of_named, parts_of}
use Rattle.eco_pin_faults.proofs.Lists.{named_map, find_map, map_twice}

-- the names of a list of the design
pub comps_named : {X : Type 0} (value : NamedComp → X) (text : List ℕ) (d : Design) (n : Name) →
    of_named (λ c. c.name) value (named text d).comps n ≡ of_named (λ (c : Comp). word_bytes text c.name) (λ c. value (named_comp text c)) d.comps n
comps_named value text d n =
    named_map (λ (c : NamedComp). c.name) value comp_names (map (comp_in text) d.comps) n
    ∙ named_map (λ (c : said.Comp). (comp_names c).name) (λ c. value (comp_names c)) (comp_in text) d.comps n

pub pins_named : {X : Type 0} (value : NamedPin → X) (text : List ℕ) (d : Design) (n : Name) →
    of_named (λ p. p.name) value (named text d).pins n ≡ of_named (λ (p : TopPin). word_bytes text p.name) (λ p. value (named_pin text p)) d.pins n
pins_named value text d n =
    named_map (λ (p : NamedPin). p.name) value pin_names (map (pin_in text) d.pins) n
    ∙ named_map (λ (p : said.TopPin). (pin_names p).name) (λ p. value (pin_names p)) (pin_in text) d.pins n

pub parts_are : (text : List ℕ) (d : Design) (pins : DesignPins) →
    ((n : List ℕ) → model_by pins.models n ≡ of_named (λ (c : Comp). word_bytes text c.name) (λ c. word_bytes text c.model) d.comps n) →
    ((n : List ℕ) → at_name pins.tops n ≡ find (λ p. bytes_eq (word_bytes text p.name) n) d.pins) →
    parts_by pins ≡ parts_of (named text d)
parts_are text d pins models tops =
    let f : (n : Name) → model_by pins.models n ≡ (parts_of (named text d)).model n = λ n. models n ∙ sym (comps_named (λ c. c.model) text d n) in
    let g : (n : Name) → option_map (λ (p : TopPin). p.supply) (at_name pins.tops n) ≡ (parts_of (named text d)).supply n =
    λ n. ap (option_map (λ (p : TopPin). p.supply)) (tops n) ∙ sym (pins_named (λ p. p.supply) text d n) in
    λ i. record { model = λ n. f n i; supply = λ n. g n i }

-- the first top pin of a name
pub top_named : (text : List ℕ) (d : Design) (n : Name) → option_map (named_pin text) (find (λ (p : TopPin). bytes_eq (word_bytes text p.name) n) d.pins) ≡ find (λ t. bytes_eq t.name n) (named text d).pins
top_named text d n = sym
    (find_map (λ (t : NamedPin). bytes_eq t.name n) pin_names (map (pin_in text) d.pins)
    ∙ ap (option_map pin_names) (find_map (λ (p : said.TopPin). bytes_eq (pin_names p).name n) (pin_in text) d.pins)
    ∙ map_twice pin_names (pin_in text) (find (λ (p : TopPin). bytes_eq (word_bytes text p.name) n) d.pins))

-- a test of the models of the components
pub any_model : (test : Name → Bool) (text : List ℕ) (d : Design) → list_any (λ c. test c.model) (named text d).comps ≡ list_any (λ (c : Comp). test (word_bytes text c.model)) d.comps
any_model test text d =
    any_mapped (λ (c : NamedComp). test c.model) comp_names (map (comp_in text) d.comps)
    ∙ any_mapped (λ (c : said.Comp). test (comp_names c).model) (comp_in text) d.comps
