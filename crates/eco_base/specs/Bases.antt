-- The frozen base of a taped-out chip, of four texts.
use Rattle.std.specs.Prelude.{◌≡◌, ℕ, ◌≤◌, true, false, List, map, length, count_by}
use Rattle.std.specs.List.{All, AllZip}
use Rattle.eco_common.specs.declared.limits.TheConstants.{MAX_STOCK}
use Rattle.eco_func.specs.Masters.{MasterTables}
use Rattle.eco_net.specs.Netlist.{IsWellFormed}
use Rattle.eco_net.specs.Walks.{IsLoopFree}
use Rattle.eco_net.specs.Depth.{IsDepth}
use Rattle.eco_net.specs.Listing.{Listing, netlist}
use Rattle.eco_net.specs.Bases.{Base, bare}
use Rattle.eco_base.specs.declared.stock.Spare.{Spare}
use Rattle.eco_base.specs.declared.census.Census.{Census}
use Rattle.eco_base.specs.Census.{IsCensusOf}
use Rattle.eco_base.specs.SparePoints.{HasPoint}
use Rattle.eco_base.specs.Texts.{TextParts, AreRead}
use Rattle.eco_base.specs.Joined.{comp_names, AreJoined}
use Rattle.eco_base.specs.Order.{IsInOrder}
pub use Rattle.eco_base.specs.Stocks.{listed_netlist, full_netlist, IsTied, is_stock_at, is_in_stock, stock_names, is_skipped, IsSpareOf}

-- listing: the netlist without the stock, by number. functions: what each spare of the stock computes. depth: the greatest
-- depth of a gate of the netlist
pub record BaseParts : Type 0 where
  pub texts : TextParts
  pub listing : Listing
  pub stock : List Spare
  pub functions : List MasterTables
  pub skipped : ℕ
  pub census : Census
  pub depth : ℕ
  pub digest : List ℕ

-- ---- the base

-- what the laws of patches call a base
abbrev pub frozen : TextParts → Base
frozen t = record { full = full_netlist t; stock = stock_names t; low = t.desk.low; high = t.desk.high }

-- The netlist is that of the texts without its stock, in their order, and no signal runs in a circle in it. The tie nets have their
-- values. The stock is complete, and each spare has its point, its centre, its number and its function. The census is that of the texts.
pub record IsOpen (b : BaseParts) : Type 0 where
  pub read : AreRead b.texts
  pub joined : AreJoined b.texts
  pub whole : IsWellFormed (listed_netlist b.texts)
  pub low_is : IsTied b.texts false
  pub high_is : IsTied b.texts true
  pub stock : map (λ s. s.name) b.stock ≡ stock_names b.texts
  pub spares : AllZip (IsSpareOf b.texts) b.stock b.functions
  pub points : All (HasPoint b.texts.design.comps) b.stock
  pub few : length b.stock ≤ MAX_STOCK
  pub skipped : b.skipped ≡ count_by (is_skipped b.texts) (comp_names b.texts)
  pub counted : IsCensusOf b.texts b.census
  pub same : netlist b.listing ≡ bare (frozen b.texts)
  pub in_order : IsInOrder b.texts b.listing
  pub loop_free : IsLoopFree (bare (frozen b.texts))
  pub deep : IsDepth (bare (frozen b.texts)) b.depth
