use Rattle.std.proofs.Common.{◌≡◌, Vec, Global, List, ℕ, map, Result, Ok, Err, IfOk, ap, ◌∙◌}
use Rattle.eco_embed.specs.declared.feed.Feed.{Feed}
use Rattle.eco_cli.specs.ApplyCommand.{feed_word}
use Rattle.eco_cli.specs.ValueForms.{items_of, feed_of}
use Rattle.eco_cli.proofs.Forms.{feeds_of_list}
use Rattle.eco_cli.proofs.value_form.feeds.Goals as goal

as_written : {V E : Type 0} (list : V → List Feed) (r : Result V E) (items : List (List ℕ)) → map feed_word (map feed_of items) ≡ items → IfOk r (λ v. list v ≡ map feed_of items) → IfOk r (λ v. map feed_word (list v) ≡ items)
as_written list (Ok v) items written these = ap (map feed_word) these ∙ written
as_written list (Err e) items written these = these

pub returns : goal.returns
returns c =
    let list : Vec Feed Global → List Feed = λ v. v.items in
    as_written list c.all_feeds.result (items_of c.args.word.now) (feeds_of_list c.args.word.now c.requires) c.all_feeds.ensures
