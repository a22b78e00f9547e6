use Rattle.std.proofs.Common.{◌<◌, None, inl, refl, length, ap, ap₂, subst, ◌∙◌}
use Rattle.std.specs.List.{Contains}
use Rattle.eco_net.specs.Netlist.{CompPin}
use Rattle.eco_net.specs.Changes.{with_comp, with_pin_on}
use Rattle.eco_net.specs.Listing.{netlist}
use Rattle.eco_net.proofs.Basics.{has_append_right, has_from_contains}
use Rattle.eco_order.specs.Inserting.{put_all, pins_from}
use Rattle.eco_order.proofs.Gating.{out_there, net_there, in_still, net_still, gate_added}
use Rattle.eco_order.proofs.Putting.{on_ok}
use Rattle.eco_patch_laws.specs.Insertion.{patch_name, output_pin}
use Rattle.eco_order.proofs.gates.add_gate.Goals as goal

pub put_pin-requires-clause-pin : goal.put_pin-requires-clause-pin
put_pin-requires-clause-pin c =
    let N = netlist c.args.maker.now in
    let named = c.in_ok-name.ensures ∙ ap (patch_name c.args.label.now) (c.bytes.ensures ∙ c.name.ensures) in
    let added = c.in_ok-add_comp.ensures.named ∙ ap₂ (λ n k. with_comp N n k None) (c.deref.ensures.value ∙ named) c.in_ok-kind.ensures.kind in
    out_there N (netlist c.add_comp.new.self) c.args.label.now c.args.gate.now added c.deref-2.result.now output_pin (c.deref-2.ensures.value ∙ named) refl

pub put_pin-requires-clause-net : goal.put_pin-requires-clause-net
put_pin-requires-clause-net c =
    let N = netlist c.args.maker.now in
    let named = c.in_ok-name.ensures ∙ ap (patch_name c.args.label.now) (c.bytes.ensures ∙ c.name.ensures) in
    let added = c.in_ok-add_comp.ensures.named ∙ ap₂ (λ n k. with_comp N n k None) (c.deref.ensures.value ∙ named) c.in_ok-kind.ensures.kind in
    let g = c.args.gate.now in
    net_there N (netlist c.add_comp.new.self) c.args.label.now g added c.requires.nets c.bytes-2.result.now g.output (has_append_right g.inputs _ g.output (inl refl)) (c.bytes-2.ensures ∙ c.output.ensures)

pub put_inputs-requires-clause-pins : goal.put_inputs-requires-clause-pins
put_inputs-requires-clause-pins c =
    let N = netlist c.args.maker.now in
    let A = netlist c.add_comp.new.self in
    let g = c.args.gate.now in
    let named = c.in_ok-name.ensures ∙ ap (patch_name c.args.label.now) (c.bytes.ensures ∙ c.name.ensures) in
    let added = c.in_ok-add_comp.ensures.named ∙ ap₂ (λ n k. with_comp N n k None) (c.deref.ensures.value ∙ named) c.in_ok-kind.ensures.kind in
    let put = c.in_ok-put_pin.ensures.named ∙ ap₂ (λ n m. with_pin_on A (CompPin n output_pin) m) (c.deref-2.ensures.value ∙ named) (c.bytes-2.ensures ∙ c.output.ensures) in
    λ i h. in_still N A c.args.label.now g added (netlist c.put_pin.new.maker) put c.deref-3.result.now i (c.deref-3.ensures.value ∙ named) (subst (λ ns. i < length ns) c.inputs.ensures.value h)

pub put_inputs-requires-clause-nets : goal.put_inputs-requires-clause-nets
put_inputs-requires-clause-nets c =
    let N = netlist c.args.maker.now in
    let A = netlist c.add_comp.new.self in
    let g = c.args.gate.now in
    let named = c.in_ok-name.ensures ∙ ap (patch_name c.args.label.now) (c.bytes.ensures ∙ c.name.ensures) in
    let added = c.in_ok-add_comp.ensures.named ∙ ap₂ (λ n k. with_comp N n k None) (c.deref.ensures.value ∙ named) c.in_ok-kind.ensures.kind in
    let put = c.in_ok-put_pin.ensures.named ∙ ap₂ (λ n m. with_pin_on A (CompPin n output_pin) m) (c.deref-2.ensures.value ∙ named) (c.bytes-2.ensures ∙ c.output.ensures) in
    λ n h. net_still N A c.args.label.now g added (netlist c.put_pin.new.maker) put c.requires.nets n (has_from_contains g.inputs n (subst (λ ns. Contains ns n) c.inputs.ensures.value h))

pub returns-clause-named : goal.returns-clause-named
returns-clause-named c =
    let N = netlist c.args.maker.now in
    let A = netlist c.add_comp.new.self in
    let B = netlist c.put_pin.new.maker in
    let g = c.args.gate.now in
    let named = c.in_ok-name.ensures ∙ ap (patch_name c.args.label.now) (c.bytes.ensures ∙ c.name.ensures) in
    let added = c.in_ok-add_comp.ensures.named ∙ ap₂ (λ n k. with_comp N n k None) (c.deref.ensures.value ∙ named) c.in_ok-kind.ensures.kind in
    let put = c.in_ok-put_pin.ensures.named ∙ ap₂ (λ n m. with_pin_on A (CompPin n output_pin) m) (c.deref-2.ensures.value ∙ named) (c.bytes-2.ensures ∙ c.output.ensures) in
    on_ok c.put_inputs.result
    (λ e. gate_added N A c.args.label.now g added B put (netlist c.put_inputs.new.maker)
    (e ∙ ap₂ (λ n ns. put_all B n (pins_from 0 ns)) (c.deref-3.ensures.value ∙ named) c.inputs.ensures.value))
    c.put_inputs.ensures.named
