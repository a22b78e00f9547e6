use Rattle.std.proofs.Common.{◌++◌, length, ap₂}
use Rattle.std.proofs.lemmas.List.{drop-replicate}
use Rattle.eco_embed.specs.declared.feed.Feed.TheVariants.{Zero}
use Rattle.eco_one_gate.proofs.embedded.embedding_of.Goals as goal

pub returns-clause-pins : goal.returns-clause-pins
returns-clause-pins c = ap₂ (λ xs ys. xs ++ ys) c.copy_from_slice.ensures.after (drop-replicate (length c.args.feeds.now) 6 Zero)
