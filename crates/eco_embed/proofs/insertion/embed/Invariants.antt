use Rattle.eco_embed.proofs.Outputs.{NoneBefore}
use Rattle.eco_embed.proofs.insertion.embed.Given as goal

abbrev pub invariant-loop-output : goal.invariant-loop-output
invariant-loop-output l = NoneBefore l.want l.master l.output
