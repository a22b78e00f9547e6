-- Counts of what a base has.
use Rattle.std.specs.Prelude.{◌≡◌, ◌+◌, Bool, false, not, length, count_by, Option, Some, None}
use Rattle.std.specs.FinMap.{get, len}
use Rattle.eco_net.specs.declared.rows.CompRow.{CompRow}
use Rattle.eco_net.specs.Netlist.{Name, Component}
use Rattle.eco_net.specs.Listing.{Listing, netlist, given_kind}
use Rattle.eco_net.specs.JoinedPins.{joined_pins}
use Rattle.eco_base.specs.declared.stock.Stock.{Stock}
use Rattle.eco_base.specs.Stock.{is_gate}
use Rattle.eco_base.specs.declared.census.Census.{Census}
use Rattle.eco_base.specs.Texts.{TextParts}
use Rattle.eco_base.specs.Joined.{comp_names}
use Rattle.eco_base.specs.Stocks.{full_netlist, stock_names, is_skipped}

abbrev pub is_gate_at : Option Component → Bool
is_gate_at None = false
is_gate_at (Some x) = is_gate x.kind

abbrev pub is_named_gate : TextParts → Name → Bool
is_named_gate t c = is_gate_at (get (full_netlist t).comps c)

-- The components are those of the design, each a gate or a box. A pin of a component is counted where it is on a net, and
-- each top pin is counted.
pub record IsCensusOf (t : TextParts) (c : Census) : Type 0 where
  pub components : c.components ≡ length (comp_names t)
  pub gates : c.gates ≡ count_by (is_named_gate t) (comp_names t)
  pub boxes : c.boxes ≡ count_by (λ n. not (is_named_gate t n)) (comp_names t)
  pub nets : c.nets ≡ len (full_netlist t).nets
  pub pins : c.pins ≡ joined_pins (full_netlist t) + len (full_netlist t).tops
  pub stock : c.stock ≡ length (stock_names t)
  pub skipped : c.skipped ≡ count_by (is_skipped t) (comp_names t)

-- ---- the same by rows

abbrev pub is_gate_row : CompRow → Bool
is_gate_row r = is_gate (given_kind r.kind)

-- of a listing whose stock was found
pub record IsCensusOfRows (L : Listing) (found : Stock) (c : Census) : Type 0 where
  pub components : c.components ≡ length L.comps
  pub gates : c.gates ≡ count_by is_gate_row L.comps
  pub boxes : c.boxes ≡ count_by (λ r. not (is_gate_row r)) L.comps
  pub nets : c.nets ≡ length L.nets
  pub pins : c.pins ≡ joined_pins (netlist L) + length L.tops
  pub stock : c.stock ≡ length found.spares.items
  pub skipped : c.skipped ≡ found.skipped
