-- One order on the base
use Rattle.std.proofs.Common.{◌≡◌, Bool, List, [], map, Option, Some, ◌↔◌}
use Rattle.eco_common.specs.declared.geometry.Point.{Point}
use Rattle.eco_net.specs.Netlist.{Name, Component, GateOutput, role_of}
use Rattle.eco_net.specs.Drivers.{Computed}
use Rattle.std.specs.List.{Contains, zip}
use Rattle.std.specs.FinMap.{get}
use Rattle.eco_net.specs.CutKeys.{CutBits}
use Rattle.eco_net.specs.Valuation.{Valuation, IsValuation}
use Rattle.eco_net.proofs.Basics.{contains_from_has, has_from_contains}
use Rattle.eco_patch_laws.specs.Orders.{PatchGate, Order, Placement}
use Rattle.eco_patch_laws.specs.Insertion.{inserted}
use Rattle.eco_patch_laws.specs.Realisation.{feed_net, realised}
use Rattle.eco_net.specs.Bases.{Base, bare}
use Rattle.eco_patch_laws.specs.Meaning.{SameMeaning}
use Rattle.eco_patch_laws.specs.Patches.{IsPatch}
use Rattle.eco_patch_laws.proofs.Sim.{Use, Sim, same_valuations as sim_valuations, same_meaning}
use Rattle.eco_patch_laws.proofs.Keeping.{keeps_from, mapped_from}
use Rattle.eco_patch_laws.proofs.Start.{start}
use Rattle.eco_patch_laws.proofs.Step.{sim_after, gate_computes, spare_computes}

module _ (base : Base) (label : Name) (place : Name → Option Point) (order : Order) (placements : List Placement) (p : IsPatch base label place order placements) where
  simulated : (uses : List Use) × Sim base.low base.high (inserted label place (bare base) order) (realised base.low base.high base.full order placements) uses
  simulated = (
    _,
    sim_after base p.base_is (bare base) base.full [] [] [] (start base p.base_is) label place order placements
        (keeps_from (bare base) (bare base) (inserted label place (bare base) order) order p.keeps)
        (λ h. p.no_blank (contains_from_has label 32 h))
        (λ h. h)
        (mapped_from base [] order placements p.mapped (λ s h k. k)),
  )

  pub same_valuations : (cut : CutBits) (v : Valuation) → IsValuation (inserted label place (bare base) order) cut v ↔ IsValuation (realised base.low base.high base.full order placements) cut v
  same_valuations cut v = sim_valuations base.low base.high _ _ simulated.0 simulated.1 cut v

  pub means_same : SameMeaning (inserted label place (bare base) order) (realised base.low base.high base.full order placements)
  means_same = same_meaning base.low base.high _ _ simulated.0 simulated.1 p.keeps.loop_free

  pub gates_compute : (g : PatchGate) → Contains order.gates g → Computed (inserted label place (bare base) order) g.output g.table (map Some g.inputs)
  gates_compute g c =
      gate_computes base p.base_is (bare base) base.full [] [] [] (start base p.base_is) label place order placements
      (keeps_from (bare base) (bare base) (inserted label place (bare base) order) order p.keeps)
      (λ h. p.no_blank (contains_from_has label 32 h))
      (λ h. h)
      (mapped_from base [] order placements p.mapped (λ s h k. k))
      g (has_from_contains order.gates g c)

  pub spares_compute : (g : PatchGate) (q : Placement) (x : Component) → Contains (zip order.gates placements) (g, q) → get base.full.comps q.spare ≡ Some x → (chosen : List Bool) × (role_of x q.output ≡ Some (GateOutput chosen)) × Computed (realised base.low base.high base.full order placements) g.output chosen (map (feed_net base.low base.high g.inputs) q.feeds)
  spares_compute g q x c f =
      spare_computes base p.base_is (bare base) base.full [] [] [] (start base p.base_is) label place order placements
      (keeps_from (bare base) (bare base) (inserted label place (bare base) order) order p.keeps)
      (λ h. p.no_blank (contains_from_has label 32 h))
      (λ h. h)
      (mapped_from base [] order placements p.mapped (λ s h k. k))
      (g, q) (has_from_contains (zip order.gates placements) (g, q) c) x f
