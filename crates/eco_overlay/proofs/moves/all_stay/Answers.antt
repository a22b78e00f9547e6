use Rattle.std.proofs.Common.{map, rules, tests}
use Rattle.std.proofs.lemmas.Iterator.Search.{all_from_yields_List}
use Rattle.eco_issued_laws.specs.Changes.{stays_on}
use Rattle.eco_overlay.specs.PinMoves.{new_joint, names_in}
use Rattle.eco_def.proofs.Walking.{walk}
use Rattle.eco_overlay.proofs.moves.all_stay.Goals as goal

pub returns : goal.returns
returns c =
    all_from_yields_List (λ j. stays_on (map new_joint c.args.moves.now) c.args.net.now (names_in c.args.text.now j)) c.all.new.self _ c.all.result c.all.ensures.ran
    (walk c.iter.result c.args.joints.now c.iter.ensures) (λ x b q k. search (rules, tests))
