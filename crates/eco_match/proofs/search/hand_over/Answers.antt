use Rattle.std.proofs.Common.{arith}
use Rattle.eco_match.proofs.Hand.{handed}
use Rattle.eco_match.proofs.search.hand_over.Goals as goal

pub returns : goal.returns
returns c = handed c.args.table.now c.args.gate c.args.pair c.args.price c.args.out.now c.set_price.new.out c.args.owner.now (record {
  rising = c.requires.rising;
  row = c.requires.row;
  some = c.requires.gate.0;
  most = omega arith;
  priced = c.set_price.ensures;
})
