-- The code's moved pins, and what the code looks at in a design, as the definitions have them.
use Rattle.std.specs.Prelude.{◌≡◌, ℕ, ◌<◌, Bool, ◌&&◌, ◌||◌, List, [], ◌∷◌, map, length, get_or, Option, Some, None, not, true}
use Rattle.std.specs.List.{list_any, IsDistinct}
use Rattle.std.specs.List.Sorted.{IsStrictlySortedBy, IsPermutation}
use Rattle.std.specs.Ordering.{ordering_then, nat_cmp}
use Rattle.std.specs.declared.cmp.Ordering.{Ordering}
use Rattle.std.specs.Cmp.Lexicographic.{slice_cmp}
use Rattle.std.specs.Str.{bytes_eq}
use Rattle.eco_def.specs.declared.design.NetStatement.{NetStatement}
use Rattle.eco_def.specs.declared.design.Joint.{Joint}
use Rattle.eco_def.specs.declared.design.Comp.{Comp}
use Rattle.eco_def.specs.declared.design.TopPin.{TopPin}
use Rattle.eco_def.specs.Named.{NamedJoint, joint_names}
use Rattle.eco_def.specs.View.{joint_in}
use Rattle.eco_overlay.specs.declared.pin_move.PinMove.{PinMove}
use Rattle.eco_overlay.specs.declared.new_joint.NewJoint as code
use Rattle.eco_issued_laws.specs.Changes.{NewJoint, is_joint_of, pin_joint}
use Rattle.eco_text.specs.Cursor.{word_bytes}

-- the joint, by its names
abbrev pub joint_by_names : code.NewJoint → NewJoint
joint_by_names n = record { comp = n.comp; pin = n.pin; net = n.net }

abbrev pub new_joint : PinMove → NewJoint
new_joint m = record { comp = m.comp.now; pin = m.pin.now; net = m.net.now }

-- the pin that is moved
abbrev pub moved_pin : PinMove → NamedJoint
moved_pin m = pin_joint (new_joint m)

-- the joints are of one pin
abbrev pub same_pin : NewJoint → NewJoint → Bool
same_pin n k = bytes_eq n.comp k.comp && bytes_eq n.pin k.pin

-- No two joints are of one pin.
abbrev pub ArePinsApart : List NewJoint → Type 0
ArePinsApart joints = IsDistinct same_pin joints

-- the test of it
abbrev pub are_pins_apart : List NewJoint → Bool
are_pins_apart [] = true
are_pins_apart (n ∷ ns) = not (list_any (same_pin n) ns) && are_pins_apart ns

-- by component, then by pin
abbrev pub pin_cmp : NamedJoint → NamedJoint → Ordering
pin_cmp j k = ordering_then (slice_cmp nat_cmp j.comp k.comp) (slice_cmp nat_cmp j.pin k.pin)

-- the pins ascend
abbrev pub AreInOrder : List PinMove → Type 0
AreInOrder moves = IsStrictlySortedBy pin_cmp (map moved_pin moves)

-- the place of the pin among the moves, or none where it isn't moved
abbrev pub IsPlaceOf : List PinMove → NamedJoint → Option ℕ → Type 0
IsPlaceOf moves j None = (k : ℕ) (d : PinMove) → k < length moves → moved_pin (get_or moves k d) ≡ j → ⊥
IsPlaceOf moves j (Some i) = (i < length moves) × ((d : PinMove) → moved_pin (get_or moves i d) ≡ j)

abbrev pub names_in : List ℕ → Joint → NamedJoint
names_in text j = joint_names (joint_in text j)

-- the end of the last joint, or this place
abbrev pub last_end : ℕ → List Joint → ℕ
last_end at [] = at
last_end at (j ∷ js) = last_end j.end js

-- the move after a joint of a net's statement was seen
abbrev pub marked : NamedJoint → List ℕ → PinMove → PinMove
marked j net m = record m { stands = m.stands || (bytes_eq net m.net.now && is_joint_of (new_joint m) j) }

-- the move after these joints of a net's statement were seen
abbrev pub marked_by : List ℕ → List ℕ → List Joint → PinMove → PinMove
marked_by text net js m = record m { stands = m.stands || (bytes_eq net m.net.now && list_any (λ j. is_joint_of (new_joint m) (names_in text j)) js) }

-- some statement of the pin's net has its joint
abbrev pub stands_in : List ℕ → NewJoint → List NetStatement → Bool
stands_in text n ss = list_any (λ s. bytes_eq (word_bytes text s.name) n.net && list_any (λ j. is_joint_of n (names_in text j)) s.joints) ss

-- the move after these statements were seen
abbrev pub marked_in : List ℕ → List NetStatement → PinMove → PinMove
marked_in text ss m = record m { stands = m.stands || stands_in text (new_joint m) ss }

-- the moves in order, after these statements were seen
pub record AreMarked (text : List ℕ) (ss : List NetStatement) (old new : List PinMove) : Type 0 where
  pub sorted : List PinMove
  pub moved : IsPermutation old sorted
  pub order : AreInOrder sorted
  pub marks : new ≡ map (marked_in text ss) sorted

abbrev pub names_net : List ℕ → List ℕ → List NetStatement → Bool
names_net text name ss = list_any (λ s. bytes_eq (word_bytes text s.name) name) ss

abbrev pub tops_net : List ℕ → List ℕ → List TopPin → Bool
tops_net text name ps = list_any (λ p. bytes_eq (word_bytes text p.net) name) ps

abbrev pub names_comp : List ℕ → List ℕ → List Comp → Bool
names_comp text name cs = list_any (λ c. bytes_eq (word_bytes text c.name) name) cs
