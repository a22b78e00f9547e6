use Rattle.std.proofs.Common.{rules, tests}
use Rattle.std.proofs.lemmas.Iterator.Search.{any_from_yields_List}
use Rattle.std.specs.Str.{bytes_eq}
use Rattle.eco_text.specs.Cursor.{word_bytes}
use Rattle.eco_pin_faults.specs.Places.{every_word}
use Rattle.eco_def.proofs.Walking.{walk}
use Rattle.eco_pin_faults.proofs.pattern.any_every.Goals as goal

pub returns : goal.returns
returns c =
    any_from_yields_List (λ j. bytes_eq (word_bytes c.args.text.now j.comp) every_word) c.any.new.self _ c.any.result c.any.ensures.ran
    (walk c.iter.result c.args.joints.now c.iter.ensures) (λ x b q k. search (rules, tests))
