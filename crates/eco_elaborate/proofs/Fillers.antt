-- Values that stand where a list has none.
use Rattle.std.proofs.Common.{false, None}
use Rattle.eco_common.specs.declared.geometry.Dir.TheVariants.{Input}
use Rattle.eco_text.specs.declared.word.Word.{Word}
use Rattle.eco_elaborate.specs.declared.stated_joint.StatedJoint.{StatedJoint}
use Rattle.eco_def.specs.declared.design.Comp.{Comp}
use Rattle.eco_def.specs.declared.design.Joint.{Joint}
use Rattle.eco_def.specs.declared.design.TopPin.{TopPin}
use Rattle.eco_elaborate.specs.declared.joined_pin.JoinedPin.{JoinedPin}

abbrev pub no_word : Word
no_word = record { start = 0; end = 0; quoted = false }

abbrev pub no_comp : Comp
no_comp = record { name = no_word; model = no_word; place = None }

abbrev pub no_joint : Joint
no_joint = record { comp = no_word; pin = no_word; start = 0; end = 0 }

abbrev pub no_pin : TopPin
no_pin = record { name = no_word; net = no_word; dir = Input; supply = false }

abbrev pub no_joined : JoinedPin
no_joined = record { comp = record { 0 = 0 }; pin = 0; net = record { 0 = 0 } }

abbrev pub no_stated : StatedJoint
no_stated = record { comp = record { start = 0; end = 0; quoted = false }; pin = record { start = 0; end = 0; quoted = false }; net = record { 0 = 0 } }
