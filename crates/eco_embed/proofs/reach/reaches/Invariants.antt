use Rattle.eco_embed.proofs.Reaching.{Seen}
use Rattle.eco_embed.proofs.reach.reaches.Given as goal

abbrev pub invariant-loop-word : goal.invariant-loop-word
invariant-loop-word l = Seen l.words l.word-index l.ones l.zeros
