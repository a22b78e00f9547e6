-- Several orders live on one base, one after another.
use Rattle.std.specs.Prelude.{◌≢◌, cond, List, [], ◌∷◌, ◌++◌, Option, Some, None}
use Rattle.std.specs.List.{Contains}
use Rattle.std.specs.Ordering.{eq_by_cmp}
use Rattle.std.specs.FinMap.{get}
use Rattle.eco_common.specs.declared.geometry.Point.{Point}
use Rattle.eco_net.specs.Netlist.{Name, name_cmp, Netlist, Component}
use Rattle.eco_patch_laws.specs.Orders.{Order, Placement}
use Rattle.eco_common.specs.Joints.{NewJoint}
use Rattle.eco_patch_laws.specs.Insertion.{inserted}
use Rattle.eco_patch_laws.specs.Realisation.{patch_joints, realised}
use Rattle.eco_net.specs.Bases.{Base, bare, HasBlank}
use Rattle.eco_patch_laws.specs.Rules.{KeepsRules}
use Rattle.eco_patch_laws.specs.Mappings.{IsMapping, spares_of}

pub record Commit : Type 0 where
  pub order : Order
  pub placements : List Placement

abbrev pub component_place : Option Component → Option Point
component_place None = None
component_place (Some x) = x.place

-- the point of the spare that serves a gate
abbrev pub spare_place : Base → List Placement → Name → Option Point
spare_place base [] g = None
spare_place base (p ∷ ps) g = cond (eq_by_cmp name_cmp g p.gate) (component_place (get base.full.comps p.spare)) (spare_place base ps g)

-- the netlist with the commit's gates, each at its spare's point
abbrev pub with_commit : Base → Netlist → Commit → Netlist
with_commit base N c = inserted c.order.name (spare_place base c.placements) N c.order

abbrev pub inserted_all : Base → Netlist → List Commit → Netlist
inserted_all base N [] = N
inserted_all base N (c ∷ cs) = inserted_all base (with_commit base N c) cs

abbrev pub realised_all : Base → Netlist → List Commit → Netlist
realised_all base M [] = M
realised_all base M (c ∷ cs) = realised_all base (realised base.low base.high M c.order c.placements) cs

-- the live commits' gates as gates, from the base without its stock
abbrev pub abstract : Base → List Commit → Netlist
abstract base live = inserted_all base (bare base) live

-- the live commits' gates as spares, from the whole base
abbrev pub concrete : Base → List Commit → Netlist
concrete base live = realised_all base base.full live

-- all pins that the live commits put on other nets, those of the last commit first
abbrev pub live_joints : Base → List Commit → List NewJoint
live_joints base [] = []
live_joints base (c ∷ cs) = live_joints base cs ++ patch_joints base.low base.high base.full c.order c.placements

abbrev pub live_nets : List Commit → List Name
live_nets [] = []
live_nets (c ∷ cs) = live_nets cs ++ c.order.nets

-- the order under test, with gates that no live order has
abbrev pub under_test : Netlist → Order → Netlist
under_test N order = inserted [] (λ g. None) N order

-- each order in turn breaks no rule on those before it
abbrev pub KeepInTurn : Base → Netlist → List Commit → Type 0
KeepInTurn base N [] = Unit {0}
KeepInTurn base N (c ∷ cs) = KeepsRules (bare base) N (under_test N c.order) c.order × KeepInTurn base (with_commit base N c) cs

-- not empty and without a blank
abbrev pub IsGoodName : Name → Type 0
IsGoodName n = (n ≢ []) × (HasBlank n → ⊥)

-- two commits have neither a name nor a spare in common
pub record AreApart (c d : Commit) : Type 0 where
  pub names : c.order.name ≢ d.order.name
  pub spares : (s : Name) → Contains (spares_of c.placements) s → Contains (spares_of d.placements) s → ⊥

abbrev pub EachApart : List Commit → Type 0
EachApart [] = Unit {0}
EachApart (c ∷ cs) = ((d : Commit) → Contains cs d → AreApart c d) × EachApart cs

-- commits that may be live together
pub record AreLive (base : Base) (live : List Commit) : Type 0 where
  pub keep : KeepInTurn base (bare base) live
  pub names : (c : Commit) → Contains live c → IsGoodName c.order.name
  pub mapped : (c : Commit) → Contains live c → IsMapping base c.order c.placements
  pub apart : EachApart live
