-- The joints of a net as they are kept.
use Rattle.std.specs.Prelude.{List}
use Rattle.eco_def.specs.declared.design.Joint.{Joint}
use Rattle.eco_def.specs.declared.joints.Kept.{Kept}
use Rattle.eco_def.specs.declared.joints.Kept.TheVariants.{Near, Whole}
use Rattle.eco_def.specs.declared.joints.Left.{Left}
use Rattle.eco_def.specs.declared.joints.Left.TheVariants as left
use Rattle.eco_def.specs.declared.joints.JointIter.{JointIter}
use Rattle.eco_def.specs.Near.{joints_behind}

abbrev pub kept_joints : Kept → List Joint
kept_joints (Near from joints) = joints_behind from joints.items
kept_joints (Whole joints) = joints.items

-- those that are left
abbrev pub left_joints : Left → List Joint
left_joints (left.Near from joints) = joints_behind from joints.now
left_joints (left.Whole joints) = joints.now

-- those that an iterator has yet to give
abbrev pub joints_left : JointIter → List Joint
joints_left it = left_joints it.left
