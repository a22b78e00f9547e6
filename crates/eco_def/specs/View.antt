-- The code's values as those of the grammar, in their text.
use Rattle.std.specs.Prelude.{ℕ, not, List, map, Option}
use Rattle.std.specs.Option.{option_map}
use Rattle.std.specs.List.{filter}
use Rattle.eco_text.specs.Words.{Token}
use Rattle.eco_text.specs.Cursor.{token}
use Rattle.eco_text.specs.declared.word.Word.{Word}
use Rattle.eco_def.specs.declared.design.Comp.{Comp}
use Rattle.eco_def.specs.declared.design.TopPin.{TopPin}
use Rattle.eco_def.specs.declared.design.Joint.{Joint}
use Rattle.eco_def.specs.declared.design.NetStatement.{NetStatement}
use Rattle.eco_def.specs.declared.design.Design.{Design}
use Rattle.eco_def.specs.Design as said

abbrev pub comp_in : List ℕ → Comp → said.Comp
comp_in text c = record { name = token text c.name; model = token text c.model; place = c.place }

abbrev pub pin_in : List ℕ → TopPin → said.TopPin
pin_in text p = record { name = token text p.name; net = token text p.net; dir = p.dir; supply = p.supply }

abbrev pub joint_in : List ℕ → Joint → said.Joint
joint_in text j = record { comp = token text j.comp; pin = token text j.pin; start = j.start; end = j.end }

abbrev pub usage_in : List ℕ → Option Word → Option Token
usage_in text usage = option_map (token text) usage

abbrev pub net_in : List ℕ → NetStatement → said.Net
net_in text s = record { name = token text s.name; start = s.start; end = s.end; usage = usage_in text s.usage; joints = map (joint_in text) s.joints }

-- the design, as the grammar has it: the statements of SPECIALNETS, and those of NETS
abbrev pub design_in : List ℕ → Design → said.Design
design_in text d = record {
  units = d.units;
  comps = map (comp_in text) d.comps;
  pins = map (pin_in text) d.pins;
  special = map (net_in text) (filter (λ s. s.special) d.nets);
  nets = record { count = token text d.net_count; nets = map (net_in text) (filter (λ s. not s.special) d.nets); end = d.nets_end };
}

abbrev pub comps_in : List ℕ → List Comp → List said.Comp
comps_in text cs = map (comp_in text) cs

abbrev pub pins_in : List ℕ → List TopPin → List said.TopPin
pins_in text ps = map (pin_in text) ps

abbrev pub joints_in : List ℕ → List Joint → List said.Joint
joints_in text js = map (joint_in text) js

abbrev pub nets_in : List ℕ → List NetStatement → List said.Net
nets_in text ss = map (net_in text) ss
