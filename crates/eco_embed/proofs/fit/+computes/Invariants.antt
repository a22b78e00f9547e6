use Rattle.std.proofs.Common.{length}
use Rattle.eco_embed.proofs.fit.+computes.Given as goal

abbrev pub decreases-computes : goal.decreases-computes
decreases-computes l = length l.feeds.now
