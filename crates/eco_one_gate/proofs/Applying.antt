-- One patch gate on one named spare: what the netlist is, and what the issued text reads back to.
use Rattle.std.proofs.Common.{◌≡◌, ℕ, List, [], ◌∷◌, Some, None, refl, sym, ap, ◌∙◌, subst, inl, inr, ◌⊎◌, true, false}
use Rattle.std.specs.List.{Contains, IsDistinct}
use Rattle.std.specs.FinMap.{get, find}
use Rattle.eco_def.specs.Design.{Design}
use Rattle.eco_def.specs.Grammar.{design_of}
use Rattle.eco_def.specs.Named.{NamedComp, NamedDesign}
use Rattle.eco_def.specs.View.{design_in}
use Rattle.eco_common.specs.Joints.{NewJoint}
use Rattle.eco_issued_laws.specs.Changes.{is_no_component}
use Rattle.eco_issued_laws.specs.Issued.{Edit, IsOverlayOf}
use Rattle.eco_issued_laws.specs.NewNets.{can_be_new}
use Rattle.eco_text.specs.Tokens.{can_name}
use Rattle.eco_net.specs.Netlist.{Name, name_cmp, Component, IsPin, IsNet, pins_of}
use Rattle.eco_net.proofs.Basics.{Has, contains_from_has, has_from_contains, has_found}
use Rattle.eco_elaborate.specs.Joinable.{CanJoin}
use Rattle.eco_elaborate.specs.ReadingBack.{CanIssue}
use Rattle.eco_elaborate.proofs.ReadingBack.{issued_reads_back}
use Rattle.eco_elaborate.proofs.Found.{comp_said}
use Rattle.eco_elaborate.proofs.Rewiring.{apart_is}
use Rattle.eco_patch_laws.specs.Orders.{Placement}
use Rattle.eco_net.specs.Joints.{CanTake}
use Rattle.eco_patch_laws.specs.Realisation.{patch_joints}
use Rattle.eco_net.specs.Bases.{Base, HasBlank}
use Rattle.eco_patch_laws.specs.Lone.{IsLone}
use Rattle.eco_patch_laws.specs.Patches.{IsPatch}
use Rattle.eco_patch_laws.proofs.Alone.{is_patch}
use Rattle.eco_patch_laws.proofs.Patches.{same_valuations, means_same}
use Rattle.eco_patch_laws.proofs.Taking.{base_takes_joints}
use Rattle.eco_base.specs.Texts.{TextParts}
use Rattle.eco_base.specs.Joined.{kinds, design_names}
use Rattle.eco_base.specs.Bases.{BaseParts, IsOpen, frozen, full_netlist}
use Rattle.eco_base.proofs.OpenBases.{open_is_base}
use Rattle.eco_one_gate.specs.declared.one_gate.OneGate.{OneGate}
use Rattle.eco_one_gate.specs.PlainBases.{IsPlain}
use Rattle.eco_one_gate.specs.OneGates.{gate_of, move_of, order_of, placement, IsOneSpare, IsGoodOrder, IsEmbedded, with_spare, ReadsBackTo}
use Rattle.eco_one_gate.specs.OneLaws.{OneGateApplies}
use Rattle.eco_one_gate.proofs.MacroPins.{pin_can_name}
use Rattle.eco_one_gate.proofs.DistinctPins.{distinct_pins}

module _ (b : BaseParts) (open' : IsOpen b) where
  abbrev t : TextParts
  t = b.texts

  abbrev design : Design
  design = design_in t.text t.design

  abbrev d : NamedDesign
  d = design_names t

  abbrev ties : List Name
  ties = t.desk.low ∷ t.desk.high ∷ []

  abbrev base : Base
  base = frozen t

  -- a component of the netlist is one of the design
  comp_named : (c : Name) (x : Component) → get (full_netlist t).comps c ≡ Some x → (a : NamedComp) × Contains d.comps a × (a.name ≡ c)
  comp_named c x e = let y = comp_said (kinds t) ties d c x e in (y.0.0, contains_from_has d.comps y.0.0 y.1, y.2)

  -- a pin's name can be printed
  comp_pin : (c p : Name) (x : Component) → get (full_netlist t).comps c ≡ Some x → IsPin x p → can_name p ≡ true
  comp_pin c p x e r =
      let y = comp_said (kinds t) ties d c x e in
      let same : x.kind ≡ y.0.1 = ap (λ z. z.kind) (sym y.4) in
      pin_can_name t open'.joined.masters open'.read.words y.0.0 y.0.1 p y.1 y.3 (has_found (pins_of y.0.1) p r.0 (ap (λ k. find name_cmp p (pins_of k)) (sym same) ∙ r.1))

  -- ---- the order

  module _ (one : OneGate) (spare : IsOneSpare base one.spare) (good : IsGoodOrder base one) (embedded : IsEmbedded one spare.comp spare.output) where
    abbrev placed : Placement
    placed = placement one spare.output

    no_blank_label : HasBlank [] → ⊥
    no_blank_label c = has_from_contains [] 32 c

    lone : IsLone base [] (λ g. None) (gate_of one) (move_of one) placed
    lone = record {
      base_is = open_is_base b open';
      no_blank = no_blank_label;
      stock = spare.stock;
      spare = spare.comp;
      spare_found = spare.found;
      inputs_known = good.inputs_known;
      output_new = good.output_new;
      comp = good.comp;
      comp_found = good.comp_found;
      pin_reads = good.pin_reads;
      from = good.from;
      to = refl;
      loop_free = good.loop_free;
      embeds = embedded;
    }

    pub patch : IsPatch base [] (λ g. None) (order_of one) (placed ∷ [])
    patch = is_patch base [] (λ g. None) (gate_of one) (move_of one) placed lone

    abbrev joints : List NewJoint
    joints = patch_joints base.low base.high base.full (order_of one) (placed ∷ [])

    abbrev nets : List Name
    nets = one.output ∷ []

    pub takes : CanTake base.full nets joints
    takes = base_takes_joints base [] (λ g. None) (order_of one) (placed ∷ []) patch

    -- ---- on a plain base

    module _ (plain : IsPlain t) where
      joint_pin : (j : NewJoint) → Has joints j → (x : Component) × (get base.full.comps j.comp ≡ Some x) × IsPin x j.pin
      joint_pin j h = takes.pins j (contains_from_has joints j h)

      joint_named : (j : NewJoint) → Has joints j → is_no_component j.comp ≡ false
      joint_named j h =
          let x = joint_pin j h in
          let a = comp_named j.comp x.0 x.1 in
          ap is_no_component (sym a.2) ∙ plain.comps a.0 a.1

      can_join : CanJoin base.full joints nets
      can_join = record {
        pins = takes.pins;
        named = λ j c. joint_named j (has_from_contains joints j c);
        one_net = apart_is joints (distinct_pins joints takes.once);
        known = takes.nets_known;
        unknown = λ n c. new_net n (has_from_contains nets n c);
      }
        where
          new_net : (n : Name) → Has nets n → get base.full.nets n ≡ None
          new_net n (inl s) = ap (get base.full.nets) (sym s) ∙ good.output_new
          new_net n (inr h) = absurd h

      can : CanIssue base.full joints nets
      unfolding IsDistinct
      can = record {
        joined = can_join;
        pins = λ j c. let x = joint_pin j (has_from_contains joints j c) in comp_pin j.comp j.pin x.0 x.1 x.2;
        forms = λ n c. form n (has_from_contains nets n c);
        distinct = (tt, tt);
      }
        where
          form : (n : Name) → Has nets n → can_be_new n ≡ true
          form n (inl s) = ap can_be_new (sym s) ∙ good.output_form
          form n (inr h) = absurd h

      pub reads : (overlay : List Edit) → IsOverlayOf t.text design joints nets overlay → ReadsBackTo t overlay (with_spare base one spare.output)
      reads overlay is =
          let e = issued_reads_back (kinds t) ties t.text design joints nets open'.read.reading.read (record { count = plain.count; tops = plain.tops }) can in
          record {
            again = e.0;
            reads_back = ap design_of is.issued ∙ e.1.read;
            netlist = e.1.netlist;
          }

pub one_gate_applies : OneGateApplies
one_gate_applies b one open' spare good embedded overlay is =
    let is_patch = patch b open' one spare good embedded in
    record {
      issued = is;
      computes = same_valuations (frozen b.texts) [] (λ g. None) (order_of one) (placement one spare.output ∷ []) is_patch;
      means = means_same (frozen b.texts) [] (λ g. None) (order_of one) (placement one spare.output ∷ []) is_patch;
      back = λ plain. reads b open' one spare good embedded plain overlay is;
    }
