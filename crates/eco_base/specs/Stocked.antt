-- The steps by which the stock is taken out of the netlist of all components.
use Rattle.std.specs.Prelude.{◌≡◌, ◌⊎◌, ℕ, ◌<◌, ◌≤◌, true, false, map, length, count_by}
use Rattle.std.specs.List.{All, AllZip}
use Rattle.eco_common.specs.declared.limits.TheConstants.{MAX_STOCK}
use Rattle.eco_net.specs.Netlist.{Name, Netlist, IsWellFormed}
use Rattle.eco_net.specs.Listing.{netlist}
use Rattle.eco_net.specs.Walks.{IsLoopFree, IsClosedWalk}
use Rattle.eco_net.specs.Depth.{IsDepth}
use Rattle.eco_net.specs.Bases.{bare}
use Rattle.eco_desk_file.specs.Desk.{Desk}
use Rattle.eco_base.specs.Ties.{IsTieNet}
use Rattle.eco_base.specs.declared.fault.BaseFault.{BaseFault}
use Rattle.eco_base.specs.declared.fault.BaseFault.TheVariants.{TieNotConstant, TooMuchStock, Loop, Memory}
use Rattle.eco_base.specs.declared.stocked.Stocked.{Stocked}
use Rattle.eco_base.specs.SparePoints.{HasPoint}
use Rattle.eco_base.specs.Texts.{TextParts}
use Rattle.eco_base.specs.Joined.{comp_names}
use Rattle.eco_base.specs.Census.{IsCensusOf}
use Rattle.eco_base.specs.Order.{IsInOrder}
use Rattle.eco_base.specs.Bases.{listed_netlist, IsTied, IsSpareOf, is_skipped, stock_names, frozen}

-- this tie net doesn't have its value, or memory ran out
abbrev pub BlamesTie : Name → BaseFault → Type 0
BlamesTie n (TieNotConstant net) = net ≡ n
BlamesTie n Memory = Unit {0}
BlamesTie n other = ⊥

abbrev pub BlamesTies : Desk → Netlist → BaseFault → Type 0
BlamesTies desk N (TieNotConstant net) =
    ((IsTieNet desk.prefixes N desk.high true → ⊥) × (net ≡ desk.high))
    ⊎ (IsTieNet desk.prefixes N desk.high true × (IsTieNet desk.prefixes N desk.low false → ⊥) × (net ≡ desk.low))
BlamesTies desk N Memory = Unit {0}
BlamesTies desk N other = ⊥

abbrev pub BlamesCount : ℕ → BaseFault → Type 0
BlamesCount n (TooMuchStock count) = (count ≡ n) × (MAX_STOCK < count)
BlamesCount n other = ⊥

abbrev pub BlamesLoop : Netlist → BaseFault → Type 0
BlamesLoop N (Loop nets) = IsClosedWalk N nets
BlamesLoop N Memory = Unit {0}
BlamesLoop N other = ⊥

-- the tie nets have their values, and the stock is taken out
pub record IsStocked (t : TextParts) (s : Stocked) : Type 0 where
  pub whole : IsWellFormed (listed_netlist t)
  pub low_is : IsTied t false
  pub high_is : IsTied t true
  pub stock : map (λ x. x.name) s.spares.items ≡ stock_names t
  pub spares : AllZip (IsSpareOf t) s.spares.items s.functions.items
  pub points : All (HasPoint t.design.comps) s.spares.items
  pub few : length s.spares.items ≤ MAX_STOCK
  pub skipped : s.skipped ≡ count_by (is_skipped t) (comp_names t)
  pub counted : IsCensusOf t s.census
  pub same : netlist s.netlist ≡ bare (frozen t)
  pub in_order : IsInOrder t s.netlist
  pub loop_free : IsLoopFree (bare (frozen t))
  pub deep : IsDepth (bare (frozen t)) s.depth
