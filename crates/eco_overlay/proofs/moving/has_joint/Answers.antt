use Rattle.std.proofs.Common.{rules, tests}
use Rattle.std.proofs.lemmas.Iterator.Search.{any_from_yields_List}
use Rattle.eco_issued_laws.specs.Changes.{is_joint_of}
use Rattle.eco_overlay.specs.PinMoves.{new_joint, names_in}
use Rattle.eco_def.proofs.Walking.{walk}
use Rattle.eco_overlay.proofs.moving.has_joint.Goals as goal

pub returns : goal.returns
returns c =
    any_from_yields_List (λ j. is_joint_of (new_joint c.args.pin.now) (names_in c.args.text.now j)) c.any.new.self _ c.any.result c.any.ensures.ran
    (walk c.iter.result c.args.joints.now c.iter.ensures) (λ x b q k. search (rules, tests))
