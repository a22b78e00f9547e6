-- In which order the netlist of a base has its components and their pins.
use Rattle.std.specs.Prelude.{◌≡◌, not, List, Some}
use Rattle.std.specs.List.{AllZip, filter}
use Rattle.eco_def.specs.Named.{NamedComp}
use Rattle.eco_net.specs.declared.rows.CompRow.{CompRow}
use Rattle.eco_net.specs.Listing.{Listing, net_names, given_kind}
use Rattle.eco_elaborate.specs.Stated.{named_comps}
use Rattle.eco_desk_file.specs.Desk.{Desk}
use Rattle.eco_base.specs.Found.{is_stock_row}
use Rattle.eco_base.specs.Texts.{TextParts}
use Rattle.eco_base.specs.Joined.{kinds}
use Rattle.eco_base.specs.Stocks.{is_in_stock}

-- the components that aren't in the stock, in the order of the design's text
abbrev pub kept_comps : TextParts → List NamedComp
kept_comps t = filter (λ c. not (is_in_stock t c.name)) (named_comps t.text t.design.comps)

-- A component, with its pins in the order of its master: a gate's inputs and then its outputs as its functions list them, a box's
-- pins as the LEF has them, without supply pins.
pub record IsRowOf (t : TextParts) (c : NamedComp) (r : CompRow) : Type 0 where
  pub name : r.name ≡ c.name
  pub pins : (kinds t).kind c.model ≡ Some (given_kind r.kind)

-- The components are numbered in the order of the design's text, without the stock.
abbrev pub IsInOrder : TextParts → Listing → Type 0
IsInOrder t L = AllZip (IsRowOf t) (kept_comps t) L.comps

-- ---- steps

-- the listing without the rows of the stock
abbrev pub without_stock_rows : Desk → Listing → Listing
without_stock_rows desk L = record L { comps = filter (λ r. not (is_stock_row desk L.nets r)) L.comps }

-- the same components, nets of the same names and the same top pins, in the same order
pub record HasSameOrder (L M : Listing) : Type 0 where
  pub comps : M.comps ≡ L.comps
  pub nets : net_names M ≡ net_names L
  pub tops : M.tops ≡ L.tops
