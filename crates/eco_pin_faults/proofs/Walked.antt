-- The first joint of a walk that passes a test.
use Rattle.std.proofs.Common.{◌≡◌, Bool, true, false, cond, List, [], ◌∷◌, ◌++◌, length, map, Option, Some, None, sym, ap, ap₂, ◌∙◌}
use Rattle.std.specs.Iterator.{Yields, YieldsFirst}
use Rattle.std.specs.List.{find}
use Rattle.std.specs.Option.{option_or}
use Rattle.std.proofs.lemmas.List.{map_push}
use Rattle.std.proofs.lemmas.List.Folds.{find-append}
use Rattle.eco_def.specs.declared.design.Joint.{Joint}
use Rattle.eco_def.specs.declared.joints.JointIter.{JointIter}
use Rattle.eco_def.specs.Kept.{joints_left}
use Rattle.eco_def.proofs.Walking.{given_first, next_joint}
use Rattle.eco_pin_faults.proofs.Lists.{made_passes}

module _ {B : Type 0} (f : Joint → B) (p : B → Bool) where
  -- one more fails
  pub joint_fails : (given : List Joint) (j : Joint) (y : B) → y ≡ f j → find p (map f given) ≡ None → p y ≡ false → find p (map f (given ++ j ∷ [])) ≡ None
  joint_fails given j y e none t =
      ap (find p) (map_push f given j) ∙ find-append p (map f given) (f j ∷ [])
      ∙ ap₂ option_or none (ap (λ b. cond b (Some (f j)) None) (ap p (sym e) ∙ t))

  -- the next one passes
  pub joint_passes : (it : JointIter) (all : List Joint) → joints_left it ≡ all → (given : List Joint) (now : JointIter) → Yields (YieldsFirst joints_left) it given now → (r : Option Joint) (u : JointIter) (j : Joint) → r ≡ Some j → YieldsFirst joints_left now r u →
      (y : B) → y ≡ f j → find p (map f given) ≡ None → p y ≡ true → Some y ≡ find p (map f all)
  joint_passes it all is given now yields r u j e s y at none t =
      let n = next_joint it all is given now yields r u j e s in
      made_passes f p all (length given) j n.0 y (at ∙ ap f n.1) (ap (λ js. find p (map f js)) (sym (given_first it all is given now yields)) ∙ none) t
