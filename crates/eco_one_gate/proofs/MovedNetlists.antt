-- A netlist with a new net and a pin moved to it
use Rattle.std.proofs.Common.{◌≡◌, Option, Some, None, refl, sym, ap, ◌∙◌, ⊎_elim}
use Rattle.std.specs.FinMap.{FinMap, get, insert}
use Rattle.eco_net.specs.Netlist.{Name, name_cmp, Netlist, Component, CompPin, IsNet}
use Rattle.eco_net.specs.Changes.{with_net, with_pin_on, on_net}
use Rattle.eco_net.proofs.Basics.{not_None, same_name, get_same, get_other}
use Rattle.eco_net.specs.Joints.{put_on}
use Rattle.eco_one_gate.specs.declared.one_gate.OneGate.{OneGate}
use Rattle.eco_one_gate.specs.OneSteps.{MovesInput, moved_on}
use Rattle.eco_one_gate.proofs.PatchPins.{patch}

on_put : (m : FinMap name_cmp Component) (c p n : Name) (o : Option Component) → on_net m c p n o ≡ put_on m (record { comp = c; pin = p; net = n }) o
on_put m c p n None = refl
on_put m c p n (Some x) = refl

module _ (N : Netlist) (one : OneGate) where
  pub moved_is : with_pin_on (with_net N one.output None) (CompPin one.comp one.pin) one.output ≡ moved_on N one
  moved_is = ap (λ m. record N { nets = insert N.nets one.output None; comps = m }) (on_put N.comps one.comp one.pin one.output (get N.comps one.comp))

  pub output_net : IsNet (moved_on N one) one.output
  output_net = (None, get_same N.nets one.output None)

  pub old_net : (n : Name) → IsNet N n → IsNet (moved_on N one) n
  old_net n h = ⊎_elim
      (λ s. (None, ap (get (insert N.nets one.output None)) s ∙ get_same N.nets one.output None))
      (λ a. (h.0, get_other N.nets one.output None n a ∙ h.1))
      (same_name n one.output)

  pub still_new : MovesInput N one → get N.comps patch ≡ None → get (moved_on N one).comps patch ≡ None
  still_new moves new =
      ap (λ o. get (put_on N.comps (record { comp = one.comp; pin = one.pin; net = one.output }) o) patch) moves.comp_found
      ∙ get_other N.comps one.comp _ patch (λ s. not_None (sym moves.comp_found ∙ ap (get N.comps) (sym s) ∙ new))
      ∙ new
