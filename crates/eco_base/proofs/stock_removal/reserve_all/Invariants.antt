use Rattle.std.proofs.Common.{◌≡◌, take}
use Rattle.std.specs.FinSet.{from_list}
use Rattle.eco_net.specs.Listing.{netlist}
use Rattle.eco_base.specs.Order.{HasSameOrder}
use Rattle.eco_base.specs.Without.{spare_names}
use Rattle.eco_base.proofs.stock_removal.reserve_all.Given as goal

-- the names of the spares so far are reserved, and nothing else changes
abbrev pub invariant-loop-spare : goal.invariant-loop-spare
invariant-loop-spare l = record {
  named : netlist l.maker ≡ record (netlist l.initial.maker) { reserved = from_list (spare_names (take l.spare-index l.spares)) };
  order : HasSameOrder l.initial.maker l.maker;
}
