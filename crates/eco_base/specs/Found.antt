-- The stock of a listing.
use Rattle.std.specs.Prelude.{◌≡◌, Bool, not, ◌&&◌, List, Option, Some, slice_get}
use Rattle.std.specs.List.{All, filter}
use Rattle.eco_common.specs.declared.geometry.Point.{Point}
use Rattle.eco_net.specs.declared.rows.NetRow.{NetRow}
use Rattle.eco_net.specs.declared.rows.CompRow.{CompRow}
use Rattle.eco_net.specs.Netlist.{Name}
use Rattle.eco_net.specs.Listing.{Listing, component, comp_names}
use Rattle.eco_desk_file.specs.Desk.{Desk, is_spare_named}
use Rattle.eco_base.specs.declared.stock.Spare.{Spare}
use Rattle.eco_base.specs.Stock.{is_stock}

-- the component of a row is stock
abbrev pub is_stock_row : Desk → List NetRow → CompRow → Bool
is_stock_row desk nets r = is_stock desk r.name (component nets r)

-- the component of a row is spare-named, and isn't stock
abbrev pub is_skipped_row : Desk → List NetRow → CompRow → Bool
is_skipped_row desk nets r = is_spare_named desk.prefixes r.name && not (is_stock_row desk nets r)

-- the rows of the stock, in the order of the components
abbrev pub stock_rows : Desk → Listing → List CompRow
stock_rows desk L = filter (is_stock_row desk L.nets) L.comps

-- a component's name and place
abbrev pub place_in_row : CompRow → Name × Option Point
place_in_row r = (r.name, r.place)

abbrev pub place_of_spare : Spare → Name × Option Point
place_of_spare s = (s.name, Some s.centre)

-- the component of each spare's number has its name
abbrev pub AreNumbered : Listing → List Spare → Type 0
AreNumbered L spares = All (λ s. slice_get (comp_names L) s.comp ≡ Some s.name) spares
