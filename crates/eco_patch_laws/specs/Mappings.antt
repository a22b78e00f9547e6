-- Which spare serves which gate.
use Rattle.std.specs.Prelude.{◌≡◌, List, map, length, Some}
use Rattle.std.specs.List.{Contains, IsDistinct, zip}
use Rattle.std.specs.Ordering.{eq_by_cmp}
use Rattle.std.specs.FinMap.{get}
use Rattle.eco_net.specs.Netlist.{Name, name_cmp, Component}
use Rattle.eco_patch_laws.specs.Orders.{PatchGate, Order, Placement}
use Rattle.eco_patch_laws.specs.Embeddings.{SpareEmbeds}
use Rattle.eco_net.specs.Bases.{Base}

abbrev pub spares_of : List Placement → List Name
spares_of placements = map (λ p. p.spare) placements

-- A placement for each gate in turn, each on a stock spare of its own in which it embeds the gate.
pub record IsMapping (base : Base) (order : Order) (placements : List Placement) : Type 0 where
  pub one_each : length placements ≡ length order.gates
  pub stock : (s : Name) → Contains (spares_of placements) s → Contains base.stock s
  pub apart : IsDistinct (eq_by_cmp name_cmp) (spares_of placements)
  pub embeds : (g : PatchGate) (p : Placement) (x : Component) → Contains (zip order.gates placements) (g, p) → get base.full.comps p.spare ≡ Some x → SpareEmbeds (length g.inputs) g.table x p.output p.feeds
