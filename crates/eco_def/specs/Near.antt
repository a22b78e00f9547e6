-- Joints by the distances of their words, one after the other. Places are below 2^32.
use Rattle.std.specs.Prelude.{ℕ, ◌+◌, ◌^◌, ◌%◌, false, List, [], ◌∷◌}
use Rattle.eco_text.specs.declared.word.Word.{Word}
use Rattle.eco_def.specs.declared.design.Joint.{Joint}
use Rattle.eco_def.specs.declared.near.NearJoint.{NearJoint}

-- the place so far after another
abbrev pub onward : ℕ → ℕ → ℕ
onward from distance = (from + distance) % (2 ^ 32)

-- the word of a length at a place
abbrev pub word_at : ℕ → ℕ → Word
word_at start length = record { start = start; end = onward start length; quoted = false }

-- the joint at these distances from a place
abbrev pub joint_behind : ℕ → NearJoint → Joint
joint_behind from n =
    let start : ℕ = onward from n.before in
    let comp : Word = word_at (onward start n.to_comp) n.comp in
    let pin : Word = word_at (onward comp.end n.to_pin) n.pin in
    record { comp = comp; pin = pin; start = start; end = onward pin.end n.behind }

-- the joints at these distances, each from the end of the one before it
unfoldable pub joints_behind : ℕ → List NearJoint → List Joint
joints_behind from [] = []
joints_behind from (n ∷ ns) = joint_behind from n ∷ joints_behind (joint_behind from n).end ns
