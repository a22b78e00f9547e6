use Rattle.std.proofs.Common.{◌∙◌, ap, lit<, rules, tests}
use Rattle.std.specs.Str.Iter.{split_text, split_has_more, split_pattern}
use Rattle.std.proofs.lemmas.Iterator.{YieldsList-from_map, items_from_collect}
use Rattle.std.proofs.lemmas.Iterator.Splits.{YieldsList-from_str_split}
use Rattle.eco_cli.specs.ValueForms.{feed_of}
use Rattle.eco_cli.proofs.value_form.all_feeds.Goals as goal

pub returns : goal.returns
returns c =
    let source = c.map.ensures.source in
    items_from_collect _ c.collect.ensures.ran
    (YieldsList-from_map _ feed_of (YieldsList-from_str_split 44 c.args.word.now (lit< tt) (ap split_text source ∙ c.split.ensures.text) (ap split_has_more source ∙ c.split.ensures.has_more) (ap split_pattern source ∙ c.split.ensures.pattern))
    c.map.ensures.closure (λ x r q k. search (rules, tests)))
