use Rattle.eco_net.proofs.Choices.{each_choice as each}
use Rattle.eco_net.proofs.laws.each_choice.Goals as goal

pub returns : goal.returns
returns c = each
