-- The least name of a ring of nets.
use Rattle.std.specs.Prelude.{◌≢◌, ℕ, ◌<◌, List, slice_index}
use Rattle.std.specs.declared.cmp.Ordering.TheVariants.{Greater}
use Rattle.eco_net.specs.declared.rows.NetRow.{NetRow}
use Rattle.eco_net.specs.Netlist.{name_cmp}
use Rattle.eco_net.specs.Listing.{net_name}

-- of the first i nets, the one at this place has a name that is greater than none
pub record IsLeastAt (rows : List NetRow) (nets : List ℕ) (i place : ℕ) : Type 0 where
  pub within : place < i
  pub least : (k : ℕ) → k < i → name_cmp (net_name rows (slice_index nets place)) (net_name rows (slice_index nets k)) ≢ Greater
