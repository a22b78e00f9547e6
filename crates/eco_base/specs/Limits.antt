-- Limits of a base's netlist, which follow from those of a DEF.
use Rattle.std.specs.Prelude.{◌≡◌, ◌≤◌, length, Some}
use Rattle.std.specs.FinMap.{get}
use Rattle.eco_common.specs.declared.limits.TheConstants.{MAX_COMPS, MAX_JOINTS}
use Rattle.eco_net.specs.Netlist.{Name, Component}
use Rattle.eco_net.specs.Listing.{Listing, netlist}
use Rattle.eco_net.specs.JoinedPins.{joined_pins}
use Rattle.eco_net.specs.Bases.{HasBlank}
use Rattle.eco_elaborate.specs.Centres.{HasCentres}

-- Each net has a statement or is that of a top pin, and there are at most 1,000,000 of either. A pin of a component is on a net by
-- a joint. The places of components are doubled centres in their range.
pub record KeepsLimits (L : Listing) : Type 0 where
  pub nets : length L.nets ≤ 2000000
  pub comps : length L.comps ≤ MAX_COMPS
  pub pins : joined_pins (netlist L) ≤ MAX_JOINTS
  pub names : (c : Name) (x : Component) → get (netlist L).comps c ≡ Some x → HasBlank c → ⊥
  pub centres : HasCentres (netlist L)
