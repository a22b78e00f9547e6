-- What the type of a listing keeps.
use Rattle.std.specs.Prelude.{◌≡◌, ℕ, ◌<◌, ◌≤◌, ◌^◌, ◌↔◌, List, map, length, Some, slice_get, is_some}
use Rattle.std.specs.List.{list_any}
use Rattle.std.specs.Ordering.{eq_by_cmp}
use Rattle.std.specs.FinMap.{FinMap, get}
use Rattle.eco_common.specs.declared.limits.TheConstants.{MAX_LISTED_NETS, MAX_LISTED_COMPS, MAX_TOP_PINS}
use Rattle.eco_net.specs.declared.rows.CompRow.{CompRow}
use Rattle.eco_net.specs.declared.rows.TopRow.{TopRow}
use Rattle.eco_net.specs.declared.drivers.Driving.{Driving}
use Rattle.eco_net.specs.ByNumber.{all_pins}
use Rattle.eco_net.specs.Driving.{each_driving}
use Rattle.eco_net.specs.Netlist.{Name, name_cmp, Kind, pins_of, HasRows}
use Rattle.eco_net.specs.Listing.{Listing, AreDistinctNames, given_kind, pins}

-- pins of distinct names, fewer than 2 ^ 32 of them, and tables with their rows
pub record IsKind (k : Kind) : Type 0 where
  pub apart : AreDistinctNames (map (λ p. p.0) (pins_of k))
  pub few : length (pins_of k) < 2 ^ 32
  pub rows : HasRows k

-- a net or none for each pin, each of them one of n nets
pub record IsRow (n : ℕ) (r : CompRow) : Type 0 where
  pub kind : IsKind (given_kind r.kind)
  pub each_pin : length r.joined ≡ length (pins r)
  pub known : (k i : ℕ) → slice_get r.joined k ≡ Some (Some i) → i < n

-- names are distinct, and each number of a net is that of one
pub record IsListing (L : Listing) : Type 0 where
  pub nets : AreDistinctNames (map (λ r. r.name) L.nets)
  pub comps : AreDistinctNames (map (λ r. r.name) L.comps)
  pub tops : AreDistinctNames (map (λ r. r.name) L.tops)
  pub rows : (c : ℕ) (r : CompRow) → slice_get L.comps c ≡ Some r → IsRow (length L.nets) r
  pub ends : (t : ℕ) (r : TopRow) → slice_get L.tops t ≡ Some r → r.net < length L.nets
  pub few_nets : length L.nets ≤ MAX_LISTED_NETS
  pub few_comps : length L.comps ≤ MAX_LISTED_COMPS
  pub few_tops : length L.tops ≤ MAX_TOP_PINS

-- the place of each name
abbrev pub IsIndexOf : List Name → FinMap name_cmp ℕ → Type 0
IsIndexOf names places = (q : Name) (i : ℕ) → (slice_get names i ≡ Some q) ↔ (get places q ≡ Some i)

-- names are found by their indexes
pub record IsIndexed (L : Listing) (of_nets of_comps of_reserved : FinMap name_cmp ℕ) : Type 0 where
  pub listing : IsListing L
  pub nets : IsIndexOf (map (λ r. r.name) L.nets) of_nets
  pub comps : IsIndexOf (map (λ r. r.name) L.comps) of_comps
  pub reserved : (q : Name) → is_some (get of_reserved q) ≡ list_any (eq_by_cmp name_cmp q) L.reserved

-- what a finished netlist keeps: which driving pins each net has
pub record IsFinished (L : Listing) (driving : List Driving) : Type 0 where
  pub listing : IsListing L
  pub driving_is : driving ≡ each_driving L (all_pins L)
