use Rattle.eco_embed.proofs.ListLaws.{all_bits}
use Rattle.eco_embed.proofs.serves_all_bits.Goals as goal

pub returns : goal.returns
returns c = all_bits
