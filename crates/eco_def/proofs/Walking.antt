-- A walk over the joints of a net: those that were given are the first of them, and the next one stands after those.
use Rattle.std.proofs.Common.{◌≡◌, ◌<◌, List, length, take, get_or, Option, Some, None, sym, ◌∙◌, map-id}
use Rattle.std.specs.Iterator.{Yields, YieldsFirst}
use Rattle.std.proofs.lemmas.Iterator.{YieldsList}
use Rattle.std.proofs.lemmas.Iterator.Consumers.{YieldsList-from_first, YieldsList-so_far, YieldsList-turn, YieldsList-end}
use Rattle.eco_def.specs.declared.design.Joint.{Joint}
use Rattle.eco_def.specs.declared.joints.JointIter.{JointIter}
use Rattle.eco_def.specs.Kept.{joints_left}

-- its joints
pub walk : (it : JointIter) (all : List Joint) → joints_left it ≡ all → YieldsList (YieldsFirst joints_left) (λ j. j) it all
walk it all is = YieldsList-from_first (λ j. j) joints_left all is

module _ (it : JointIter) (all : List Joint) (is : joints_left it ≡ all) (given : List Joint) (now : JointIter) (y : Yields (YieldsFirst joints_left) it given now) where
  -- those that were given
  pub given_first : given ≡ take (length given) all
  given_first = sym (map-id given) ∙ YieldsList-so_far (walk it all is) given now y

  -- one more is given
  pub next_joint : (r : Option Joint) (u : JointIter) (j : Joint) → r ≡ Some j → YieldsFirst joints_left now r u → (length given < length all) × (j ≡ get_or all (length given) j)
  next_joint r u j e s = YieldsList-turn (walk it all is) given now y r u j e s

  -- all are given
  pub last_joint : (r : Option Joint) (u : JointIter) → r ≡ None → YieldsFirst joints_left now r u → given ≡ all
  last_joint r u e s = sym (map-id given) ∙ (YieldsList-end (walk it all is) given now y r u e s).0
