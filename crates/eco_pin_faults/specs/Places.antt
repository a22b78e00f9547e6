-- Where pins stand on nets, in the order of a design's text (LEF/DEF 5.8 Language Reference, "Pins", "Nets", "Special Nets").
use Rattle.std.specs.Prelude.{ℕ, nat_lt, Bool, false, not, List, [], ◌∷◌, ◌++◌, map, codes}
use Rattle.std.specs.List.{filter, flat_map}
use Rattle.eco_def.specs.declared.design.TopPin.{TopPin}
use Rattle.eco_def.specs.declared.design.Joint.{Joint}
use Rattle.eco_def.specs.declared.design.NetStatement.{NetStatement}
use Rattle.eco_def.specs.declared.design.Design.{Design}
use Rattle.eco_net.specs.Netlist.{Name}
use Rattle.eco_text.specs.Cursor.{word_bytes}

-- Where a pin stands on a net: a joint of a statement, at its opening bracket, or the net of a top pin, at its word. A top pin has
-- PIN as its component. special: whether the statement is one of SPECIALNETS.
pub record PinPlace : Type 0 where
  pub comp : Name
  pub pin : Name
  pub net : Name
  pub special : Bool
  pub at : ℕ

-- what stands in a component's place for the design's own pins
abbrev pub top_word : Name
top_word = codes "PIN"

-- what stands in a component's place for every component that has the pin
abbrev pub every_word : Name
every_word = codes "*"

abbrev pub joint_place : List ℕ → NetStatement → Joint → PinPlace
joint_place text s j = record { comp = word_bytes text j.comp; pin = word_bytes text j.pin; net = word_bytes text s.name; special = s.special; at = j.start }

abbrev pub joints_on : List ℕ → NetStatement → List PinPlace
joints_on text s = map (joint_place text s) s.joints

-- the joints of statements, in the order of the text
abbrev pub joints_among : List ℕ → List NetStatement → List PinPlace
joints_among text ss = flat_map (joints_on text) ss

abbrev pub top_place : List ℕ → TopPin → PinPlace
top_place text p = record { comp = top_word; pin = word_bytes text p.name; net = word_bytes text p.net; special = false; at = p.net.start }

-- where the first top pin is named; PINS stands as a whole before a statement or behind it
abbrev pub pins_start : List TopPin → ℕ
pins_start [] = 0
pins_start (p ∷ ps) = p.name.start

-- all joints of a design
abbrev pub joints : List ℕ → Design → List PinPlace
joints text d = joints_among text d.nets

-- all places of pins: the joints before PINS, the top pins with their nets, and the joints behind
abbrev pub places : List ℕ → Design → List PinPlace
places text d =
    joints_among text (filter (λ s. nat_lt s.start (pins_start d.pins)) d.nets)
    ++ (map (top_place text) d.pins ++ joints_among text (filter (λ s. not (nat_lt s.start (pins_start d.pins))) d.nets))
