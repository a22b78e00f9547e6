-- What the grammar bounds in a design.
use Rattle.std.specs.Prelude.{◌≡◌, ℕ, ◌^◌, ◌-◌, ◌≤◌, ℤ, pos, neg_ℤ, ◌≤ℤ◌, List, Option, Ok, IfSome}
use Rattle.std.specs.List.{All}
use Rattle.eco_common.specs.declared.limits.TheConstants.{MAX_UNITS}
use Rattle.eco_def.specs.declared.place.Place.{Place}
use Rattle.eco_def.specs.Design.{Design}
use Rattle.eco_def.specs.Grammar.{design_of}

-- a coordinate of a text: 32 bits with a sign
abbrev pub IsCoordinate : ℤ → Type 0
IsCoordinate z = (neg_ℤ (pos (2 ^ 31)) ≤ℤ z) × (z ≤ℤ pos (2 ^ 31 - 1))

abbrev pub HasCoordinates : Option Place → Type 0
HasCoordinates place = IfSome place (λ p. IsCoordinate p.point.x × IsCoordinate p.point.y)

-- a design has at most 1,000,000 database units per micron, and its components have coordinates of 32 bits
pub record IsBounded (d : Design) : Type 0 where
  pub units : d.units ≤ MAX_UNITS
  pub places : All (λ c. HasCoordinates c.place) d.comps

abbrev pub DesignsAreBounded : Type 0
DesignsAreBounded = (text : List ℕ) (d : Design) → design_of text ≡ Ok d → IsBounded d
