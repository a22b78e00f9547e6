-- The netlist of all components of a base's texts, and its stock.
use Rattle.std.specs.Prelude.{◌≡◌, ℕ, Bool, false, not, ◌&&◌, List, [], ◌∷◌, Option, Some, None, option_and_then, slice_get}
use Rattle.std.specs.List.{filter, position}
use Rattle.std.specs.FinMap.{get}
use Rattle.std.specs.Str.{bytes_eq}
use Rattle.eco_func.specs.Masters.{MasterTables}
use Rattle.eco_func.specs.FunctionsFile.{find_master}
use Rattle.eco_net.specs.Netlist.{Name, Netlist, Component}
use Rattle.eco_net.specs.Listing.{given_kind}
use Rattle.eco_net.specs.declared.kind.Kind.TheVariants.{Gate}
use Rattle.eco_elaborate.specs.Netlists.{netlist_of}
use Rattle.eco_elaborate.specs.Stated.{named_comps}
use Rattle.eco_desk_file.specs.Desk.{Desk, is_spare_named}
use Rattle.eco_base.specs.declared.stock.Spare.{Spare}
use Rattle.eco_base.specs.Ties.{tie_name, IsTieNet}
use Rattle.eco_base.specs.Stock.{is_stock}
use Rattle.eco_base.specs.Texts.{TextParts}
use Rattle.eco_base.specs.Joined.{design_names, comp_names, kinds}

-- ---- the netlist of all components

-- its tie nets aside
abbrev pub listed_netlist : TextParts → Netlist
listed_netlist t = netlist_of (kinds t) [] (design_names t)

abbrev pub full_netlist : TextParts → Netlist
full_netlist t = netlist_of (kinds t) (t.desk.low ∷ t.desk.high ∷ []) (design_names t)

abbrev pub IsTied : TextParts → Bool → Type 0
IsTied t b = IsTieNet t.desk.prefixes (listed_netlist t) (tie_name t.desk b) b

-- ---- the stock

abbrev pub is_stock_at : Desk → Name → Option Component → Bool
is_stock_at desk c None = false
is_stock_at desk c (Some x) = is_stock desk c x

abbrev pub is_in_stock : TextParts → Name → Bool
is_in_stock t c = is_stock_at t.desk c (get (listed_netlist t).comps c)

-- in the order of the design's text
abbrev pub stock_names : TextParts → List Name
stock_names t = filter (is_in_stock t) (comp_names t)

-- spare-named, and not in the stock
abbrev pub is_skipped : TextParts → Name → Bool
is_skipped t c = is_spare_named t.desk.prefixes c && not (is_in_stock t c)

-- ---- what its spares compute

-- The entry of the functions file for the component at a place in the design's text: the one that has the name of its master.
abbrev pub entry_at : TextParts → ℕ → Option MasterTables
entry_at t i = option_and_then (λ c. find_master c.model t.functions) (slice_get (named_comps t.text t.design.comps) i)

-- A spare is a component of the netlist, and has its centre. Its number is the place of its name among the design's
-- components, from 0. What it computes is the entry for that component.
pub record IsSpareOf (t : TextParts) (s : Spare) (f : MasterTables) : Type 0 where
  pub comp : Component
  pub found : get (listed_netlist t).comps s.name ≡ Some comp
  pub place : comp.place ≡ Some s.centre
  pub number : position (bytes_eq s.name) (comp_names t) ≡ Some s.comp
  pub entry : entry_at t s.comp ≡ Some f
  pub function : comp.kind ≡ given_kind (Gate f)
