use Rattle.eco_net.proofs.Added.{indexed_nothing}
use Rattle.eco_net.proofs.maker.NetlistMaker.with_room.Goals as goal

pub invariant_of-result : goal.invariant_of-result
invariant_of-result c =
    rw (c.in_ok-with_capacity.ensures.items, c.in_ok-with_capacity-2.ensures.items, c.new.ensures.items, c.new-2.ensures.items, c.in_ok-with_capacity-3.ensures, c.in_ok-with_capacity-4.ensures, c.new-3.ensures) indexed_nothing
