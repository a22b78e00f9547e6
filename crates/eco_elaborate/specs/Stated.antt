-- What the code's lists say in their text, by names.
use Rattle.std.specs.Prelude.{ℕ, Bool, not, List, map, Option}
use Rattle.std.specs.List.{filter, flat_map}
use Rattle.eco_text.specs.Cursor.{token}
use Rattle.eco_text.specs.declared.word.Word.{Word}
use Rattle.eco_def.specs.declared.design.Comp.{Comp}
use Rattle.eco_def.specs.declared.design.TopPin.{TopPin}
use Rattle.eco_def.specs.declared.design.Joint.{Joint}
use Rattle.eco_def.specs.declared.design.NetStatement.{NetStatement}
use Rattle.eco_def.specs.Named.{NamedComp, NamedPin, NamedJoint, NamedNet, comp_names, pin_names, joint_names, net_names}
use Rattle.eco_common.specs.Options.{first_some}
use Rattle.eco_def.specs.View.{comp_in, pin_in, joint_in, net_in}
use Rattle.eco_common.specs.Joints.{NewJoint}
use Rattle.eco_issued_laws.specs.Changes.{is_no_component}
use Rattle.eco_net.specs.Netlist.{Name}
use Rattle.eco_elaborate.specs.Netlists.{supply_by}
use Rattle.std.specs.Str.{bytes_eq}
use Rattle.eco_text.specs.Cursor.{word_bytes}

abbrev pub named_comp : List ℕ → Comp → NamedComp
named_comp text c = comp_names (comp_in text c)

abbrev pub named_pin : List ℕ → TopPin → NamedPin
named_pin text p = pin_names (pin_in text p)

abbrev pub named_joint : List ℕ → Joint → NamedJoint
named_joint text j = joint_names (joint_in text j)

abbrev pub named_net : List ℕ → NetStatement → NamedNet
named_net text s = net_names (net_in text s)

abbrev pub named_comps : List ℕ → List Comp → List NamedComp
named_comps text cs = map (named_comp text) cs

abbrev pub named_pins : List ℕ → List TopPin → List NamedPin
named_pins text ps = map (named_pin text) ps

-- the statements of both sections, in the order of the text
abbrev pub named_nets : List ℕ → List NetStatement → List NamedNet
named_nets text ss = map (named_net text) ss

-- a net's value as a supply, by the first of these statements that makes it one
abbrev pub supply_among : List NamedNet → Name → Option Bool
supply_among ss n = first_some (map (λ s. supply_by s.usage) (filter (λ s. bytes_eq s.name n) ss))

-- the joint as that of a pin on its net
abbrev pub joint_on_net : Name → NamedJoint → NewJoint
joint_on_net n j = record { comp = j.comp; pin = j.pin; net = n }

-- the pins of components that joints put on a net, PIN and * aside
abbrev pub pins_among : Name → List NamedJoint → List NewJoint
pins_among n js = map (joint_on_net n) (filter (λ j. not (is_no_component j.comp)) js)

-- the pins of components that a statement puts on its net
abbrev pub stated_pins : NamedNet → List NewJoint
stated_pins s = pins_among s.name s.joints

abbrev pub all_pins_on : List NamedNet → List NewJoint
all_pins_on ss = flat_map stated_pins ss
