-- Change orders, and the spares that carry them out.
use Rattle.std.specs.Prelude.{Bool, List, Option}
use Rattle.eco_embed.specs.declared.feed.Feed.{Feed}
use Rattle.eco_net.specs.Netlist.{Name}

-- A patch gate: its name in its order, its table with row 0 first, the nets at its inputs in the order of a row's bits, and
-- the net at its output.
pub record PatchGate : Type 0 where
  pub name : Name
  pub table : List Bool
  pub inputs : List Name
  pub output : Name

-- a pin that goes from its net, if it is on one, to another
pub record Move : Type 0 where
  pub comp : Name
  pub pin : Name
  pub from : Option Name
  pub to : Name

-- new nets, patch gates and moves
pub record Order : Type 0 where
  pub name : Name
  pub nets : List Name
  pub gates : List PatchGate
  pub moves : List Move

-- a gate's spare, the output of it that is chosen, and a feed for each of its inputs, in order
pub record Placement : Type 0 where
  pub gate : Name
  pub spare : Name
  pub output : Name
  pub feeds : List Feed
