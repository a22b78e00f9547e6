-- The rules and the mappings, by what stands in lists
use Rattle.std.proofs.Common.{◌≡◌, Bool, List, length, Some, None, refl, sym, ap, ◌∙◌, inl, inr, ⊎_elim, ◌⊎◌}
use Rattle.std.specs.List.{zip, IsDistinct}
use Rattle.std.specs.Ordering.{eq_by_cmp}
use Rattle.std.specs.FinMap.{get}
use Rattle.eco_net.specs.Netlist.{Name, name_cmp, Netlist, Component, IsNet, Pin}
use Rattle.eco_net.specs.Drivers.{driven, joined_at}
use Rattle.eco_net.specs.Walks.{IsLoopFree}
use Rattle.eco_net.proofs.Basics.{Has, contains_from_has, has_from_contains, has_map}
use Rattle.eco_patch_laws.specs.Orders.{PatchGate, Move, Order, Placement}
use Rattle.eco_net.specs.Bases.{Base, IsTie}
use Rattle.eco_patch_laws.specs.Rules.{KeepsRules, IsRedriven, by_gate, as_output}
use Rattle.eco_patch_laws.specs.Embeddings.{SpareEmbeds}
use Rattle.eco_patch_laws.specs.Mappings.{IsMapping}
use Rattle.eco_patch_laws.proofs.Names.{one_of_name}
use Rattle.eco_patch_laws.proofs.Spares.{Pair, SparesApart, spares_apart, gate_names, spare_names, zip_right}

-- an order that breaks no rule
pub record Keeps (bare N P : Netlist) (order : Order) : Type 0 where
  pub apart : IsDistinct (eq_by_cmp name_cmp) (gate_names order.gates)
  pub outputs_known : (g : PatchGate) → Has order.gates g → IsNet N g.output ⊎ Has order.nets g.output
  pub movable : (m : Move) → Has order.moves m → (x : Component) × (get bare.comps m.comp ≡ Some x)
  pub from_is : (m : Move) (x : Component) → Has order.moves m → get N.comps m.comp ≡ Some x → get x.joined m.pin ≡ m.from
  pub no_supply : (n : Name) (b : Bool) → IsRedriven N order n → get N.nets n ≡ Some (Some b) → ⊥
  pub no_tie : (n : Name) → IsRedriven N order n → IsTie N n → ⊥
  pub new_nets : (n : Name) → Has order.nets n → get N.nets n ≡ None
  pub one_driver : (n : Name) → IsRedriven N order n → (p q : Pin) → driven P p ≡ Some n → driven P q ≡ Some n → p ≡ q
  pub loop_free : IsLoopFree P

-- a gate is known by its name
pub gate_of_name : (order : Order) (g h : PatchGate) → IsDistinct (eq_by_cmp name_cmp) (gate_names order.gates) → Has order.gates g → Has order.gates h → g.name ≡ h.name → g ≡ h
gate_of_name order g h a i j e = one_of_name (λ g. g.name) order.gates g h a i j e

pub redriven_gate : (N : Netlist) (order : Order) (g : PatchGate) → Has order.gates g → IsRedriven N order g.output
redriven_gate N order g h = by_gate g (contains_from_has order.gates g h) refl

pub keeps_from : (bare N P : Netlist) (order : Order) → KeepsRules bare N P order → Keeps bare N P order
keeps_from bare N P order k = record {
  apart = k.once.gates;
  outputs_known = λ g h. ⊎_elim (λ i. inl i) (λ c. inr (has_from_contains order.nets g.output c)) (k.nets_known g.output (as_output g (contains_from_has order.gates g h) refl));
  movable = λ m h. let r = k.pins_known m (contains_from_has order.moves m h) in (r.0, r.1);
  from_is = λ m x h e. sym (ap (λ o. joined_at o m.pin) e) ∙ k.true_moves m (contains_from_has order.moves m h);
  no_supply = λ n b r e. (k.no_supply n r).0 b e;
  no_tie = λ n r t. (k.no_supply n r).1 t;
  new_nets = λ n h. k.nets_new n (contains_from_has order.nets n h);
  one_driver = k.one_driver;
  loop_free = k.loop_free;
}

abbrev pub pairs_of : Order → List Placement → List Pair
pairs_of order placements = zip order.gates placements

-- placements on stock that is not in use
pub record Mapped (base : Base) (used : List Name) (order : Order) (placements : List Placement) : Type 0 where
  pub each : length placements ≡ length order.gates
  pub stock : (e : Pair) → Has (pairs_of order placements) e → Has base.stock e.1.spare
  pub apart : SparesApart (pairs_of order placements)
  pub embeds : (e : Pair) (x : Component) → Has (pairs_of order placements) e → get base.full.comps e.1.spare ≡ Some x → SpareEmbeds (length e.0.inputs) e.0.table x e.1.output e.1.feeds
  pub free : (e : Pair) → Has (pairs_of order placements) e → Has used e.1.spare → ⊥

pub mapped_from : (base : Base) (used : List Name) (order : Order) (placements : List Placement) → IsMapping base order placements → ((s : Name) → Has (spare_names placements) s → Has used s → ⊥) → Mapped base used order placements
mapped_from base used order placements m free = record {
  each = m.one_each;
  stock = λ e h. has_from_contains base.stock e.1.spare (m.stock e.1.spare (contains_from_has (spare_names placements) e.1.spare (spare_has e h)));
  apart = spares_apart order.gates placements m.apart;
  embeds = λ e x h f. m.embeds e.0 e.1 x (contains_from_has (pairs_of order placements) e h) f;
  free = λ e h u. free e.1.spare (spare_has e h) u;
}
  where
    spare_has : (e : Pair) → Has (pairs_of order placements) e → Has (spare_names placements) e.1.spare
    spare_has e h = has_map (λ p. p.spare) placements e.1 (zip_right order.gates placements e h)
