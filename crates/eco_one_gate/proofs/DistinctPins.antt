-- Joints of distinct pins, by either test of names.
use Rattle.std.proofs.Common.{◌≡◌, Bool, false, ◌&&◌, List, [], ◌∷◌, sym, ap₂, ◌∙◌}
use Rattle.std.specs.List.{AllByRecursion, IsDistinct}
use Rattle.std.specs.Str.{bytes_eq}
use Rattle.eco_common.specs.Joints.{NewJoint}
use Rattle.eco_net.specs.Joints.{same_pin}
use Rattle.eco_elaborate.proofs.Names.{by_bytes}

abbrev pub one_pin : NewJoint → NewJoint → Bool
one_pin j k = bytes_eq j.comp k.comp && bytes_eq j.pin k.pin

all_apart : (j : NewJoint) (ks : List NewJoint) → AllByRecursion (λ k. same_pin j k ≡ false) ks → AllByRecursion (λ k. one_pin j k ≡ false) ks
all_apart j [] all = tt
all_apart j (k ∷ ks) all = (sym (ap₂ (λ a b. a && b) (by_bytes j.comp k.comp) (by_bytes j.pin k.pin)) ∙ all.0, all_apart j ks all.1)

pub distinct_pins : (js : List NewJoint) → IsDistinct same_pin js → IsDistinct one_pin js
unfolding IsDistinct
distinct_pins [] d = tt
distinct_pins (j ∷ js) d = (all_apart j js d.0, distinct_pins js d.1)
