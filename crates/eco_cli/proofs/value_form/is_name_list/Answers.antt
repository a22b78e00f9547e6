use Rattle.std.proofs.Common.{not, [], lit<, rules, tests}
use Rattle.std.specs.Str.{bytes_eq}
use Rattle.std.proofs.lemmas.Iterator.Search.{all_from_yields_List}
use Rattle.std.proofs.lemmas.Iterator.Splits.{YieldsList-from_str_split}
use Rattle.eco_cli.proofs.value_form.is_name_list.Goals as goal

pub returns : goal.returns
returns c = all_from_yields_List (λ item. not (bytes_eq item [])) _ _ _ c.all.ensures.ran (YieldsList-from_str_split 44 c.args.word.now (lit< tt) c.split.ensures.text c.split.ensures.has_more c.split.ensures.pattern) (λ x b q k. search (rules, tests))
