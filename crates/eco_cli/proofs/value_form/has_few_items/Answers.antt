use Rattle.std.proofs.Common.{nat_le, ap, lit<}
use Rattle.std.proofs.lemmas.Iterator.Consumers.{count_from_yields_List}
use Rattle.std.proofs.lemmas.Iterator.Splits.{YieldsList-from_str_split}
use Rattle.eco_cli.proofs.value_form.has_few_items.Goals as goal

pub returns : goal.returns
returns c = ap (λ n. nat_le n 6) (count_from_yields_List _ c.count.result c.count.ensures.ran (YieldsList-from_str_split 44 c.args.word.now (lit< tt) c.split.ensures.text c.split.ensures.has_more c.split.ensures.pattern))
