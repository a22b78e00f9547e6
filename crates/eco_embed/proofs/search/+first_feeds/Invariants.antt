use Rattle.eco_embed.proofs.Searching.{Tried}
use Rattle.eco_embed.proofs.search.+first_feeds.Given as goal

abbrev pub decreases-first_feeds : goal.decreases-first_feeds
decreases-first_feeds l = l.pins

abbrev pub invariant-loop-number : goal.invariant-loop-number
invariant-loop-number l = Tried l.want l.words l.pins l.number
