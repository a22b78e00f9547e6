-- An order that may be carried out on the base alone.
use Rattle.std.specs.Prelude.{List, Option}
use Rattle.eco_common.specs.declared.geometry.Point.{Point}
use Rattle.eco_net.specs.Netlist.{Name}
use Rattle.eco_patch_laws.specs.Orders.{Order, Placement}
use Rattle.eco_patch_laws.specs.Insertion.{inserted}
use Rattle.eco_net.specs.Bases.{Base, IsBase, bare, HasBlank}
use Rattle.eco_patch_laws.specs.Rules.{KeepsRules}
use Rattle.eco_patch_laws.specs.Mappings.{IsMapping}

-- an order that breaks no rule on the base, inserted under a label without a blank, and spares that map it
pub record IsPatch (base : Base) (label : Name) (place : Name → Option Point) (order : Order) (placements : List Placement) : Type 0 where
  pub base_is : IsBase base
  pub no_blank : HasBlank label → ⊥
  pub keeps : KeepsRules (bare base) (bare base) (inserted label place (bare base) order) order
  pub mapped : IsMapping base order placements
