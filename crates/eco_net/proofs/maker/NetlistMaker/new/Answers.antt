use Rattle.eco_net.proofs.Added.{indexed_nothing}
use Rattle.eco_net.proofs.maker.NetlistMaker.new.Goals as goal

pub invariant_of-result : goal.invariant_of-result
invariant_of-result c =
    rw (c.new.ensures.items, c.new-2.ensures.items, c.new-3.ensures.items, c.new-4.ensures.items, c.new-5.ensures, c.new-6.ensures, c.new-7.ensures) indexed_nothing
