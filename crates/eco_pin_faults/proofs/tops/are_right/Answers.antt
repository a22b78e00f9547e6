use Rattle.std.proofs.Common.{rules, tests}
use Rattle.std.proofs.lemmas.Iterator.Search.{all_from_yields_List}
use Rattle.std.specs.Option.{option_map}
use Rattle.eco_text.specs.Cursor.{word_bytes}
use Rattle.eco_elaborate.specs.Stated.{named_pin}
use Rattle.eco_pin_faults.specs.Held.{at_name, right_by}
use Rattle.eco_def.proofs.Walking.{walk}
use Rattle.eco_pin_faults.proofs.tops.are_right.Goals as goal

pub returns : goal.returns
returns c =
    all_from_yields_List (λ j. right_by (λ n. option_map (named_pin c.args.text.now) (at_name c.args.tops.now n)) c.args.net.now.special (word_bytes c.args.text.now j.comp) (word_bytes c.args.text.now j.pin) (word_bytes c.args.text.now c.args.net.now.name)) c.all.new.self _ c.all.result c.all.ensures.ran
    (walk c.iter.result c.args.net.now.joints c.iter.ensures) (λ x b q k. search (rules, tests))
