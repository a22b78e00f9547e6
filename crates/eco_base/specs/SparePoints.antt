-- Where the spares of the stock are placed.
use Rattle.std.specs.Prelude.{◌≡◌, ℕ, List, map, Option, Some, is_some, slice_get, option_and_then}
use Rattle.std.specs.Option.{option_map}
use Rattle.eco_common.specs.declared.geometry.Point.{Point}
use Rattle.eco_def.specs.declared.design.Comp.{Comp}
use Rattle.eco_net.specs.declared.rows.CompRow.{CompRow}
use Rattle.eco_base.specs.declared.stock.Spare.{Spare}

-- the placement point of the component of a number
abbrev pub point_at : List Comp → ℕ → Option Point
point_at comps i = option_and_then (λ c. option_map (λ p. p.point) c.place) (slice_get comps i)

-- a spare's point is where the design has its component
abbrev pub HasPoint : List Comp → Spare → Type 0
HasPoint comps s = point_at comps s.comp ≡ Some s.point

-- the components of a netlist are placed where those of the design are
abbrev pub ArePlacedAlike : List CompRow → List Comp → Type 0
ArePlacedAlike rows comps = map (λ r. is_some r.place) rows ≡ map (λ c. is_some c.place) comps
