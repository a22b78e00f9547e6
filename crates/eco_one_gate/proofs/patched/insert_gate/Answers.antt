use Rattle.std.proofs.Common.{◌≡◌, ℕ, ◌<◌, ◌≤◌, ◌∙◌, refl, sym, ap, subst, length, take, arith, Some, slice_get}
use Rattle.std.proofs.lemmas.Option.{slice_get_read}
use Rattle.std.specs.Prelude.{OnOk}
use Rattle.std.proofs.lemmas.List.{take_all}
use Rattle.eco_one_gate.specs.declared.one_gate.OneGate.{OneGate}
use Rattle.eco_net.specs.Changes.{with_pin_on}
use Rattle.eco_net.specs.Netlist.{IsNet}
use Rattle.eco_net.specs.Listing.{Listing, netlist, numbered_pin, IsKnownPin, with_joint}
use Rattle.eco_net.specs.declared.ids.PinRef.TheVariants.{Pin}
use Rattle.eco_net.proofs.Basics.{contains_from_has}
use Rattle.eco_net.proofs.GateNames.{has_at}
use Rattle.eco_patch_laws.specs.Insertion.{input_pins}
use Rattle.eco_one_gate.proofs.PatchPins.{IsPatching, patch_kind, input_known, output_known, input_more, its_net, patch_ends, pins_count}
use Rattle.eco_one_gate.proofs.patched.insert_gate.Goals as goal

pub put_on-requires-clause-pin : goal.put_on-requires-clause-pin
put_on-requires-clause-pin c =
    input_known (netlist c.args.maker.now) c.loop-place.maker c.in_ok-gate.gate c.args.one.now.table (take c.loop-place.place (input_pins c.args.one.now.inputs.items)) c.loop-place.place c.loop-place.invariant
    (subst (λ n. c.loop-place.place < n) (ap length c.as_slice-inputs.ensures.value ∙ c.requires.rows) c.loop-place-test.true)

pub put_on-requires-clause-net : goal.put_on-requires-clause-net
put_on-requires-clause-net c =
    let at : slice_get c.args.one.now.inputs.items c.loop-place.place ≡ Some c.index-inputs-place.result = sym (ap (λ ns. slice_get ns c.loop-place.place) c.as_slice-inputs.ensures.value) ∙ slice_get_read c.as_slice-inputs.result.now (length c.as_slice-inputs.result.now) c.loop-place.place c.index-inputs-place.result refl c.loop-place-test.true c.index-inputs-place.is in
    subst (IsNet (netlist c.loop-place.maker)) (sym c.bytes.ensures)
    (its_net (netlist c.args.maker.now) c.loop-place.maker c.in_ok-gate.gate (patch_kind c.args.one.now.table) (take c.loop-place.place (input_pins c.args.one.now.inputs.items)) c.index-inputs-place.result c.loop-place.invariant
    (c.requires.inputs c.index-inputs-place.result (contains_from_has c.args.one.now.inputs.items c.index-inputs-place.result (has_at c.args.one.now.inputs.items c.loop-place.place c.index-inputs-place.result at))))

pub loop-place-preserved : goal.loop-place-preserved
loop-place-preserved c =
    let at : slice_get c.args.one.now.inputs.items c.loop-place.place ≡ Some c.index-inputs-place.result = sym (ap (λ ns. slice_get ns c.loop-place.place) c.as_slice-inputs.ensures.value) ∙ slice_get_read c.as_slice-inputs.result.now (length c.as_slice-inputs.result.now) c.loop-place.place c.index-inputs-place.result refl c.loop-place-test.true c.index-inputs-place.is in
    let joint = c.in_ok-put_on.ensures.rows in
    input_more (netlist c.args.maker.now) c.loop-place.maker c.put_on.new.maker c.in_ok-gate.gate c.args.one.now.table c.args.one.now.inputs.items c.loop-place.place joint.0 c.bytes.result.now c.loop-place.invariant
    (subst (λ n. c.loop-place.place < n) (ap length c.as_slice-inputs.ensures.value ∙ c.requires.rows) c.loop-place-test.true)
    (at ∙ ap Some (sym c.bytes.ensures))
    joint.1
    c.in_ok-put_on.ensures.named

pub put_on-requires-2-clause-pin : goal.put_on-requires-2-clause-pin
put_on-requires-2-clause-pin c =
    subst (λ n. IsKnownPin c.loop-place.maker (Pin c.in_ok-gate.gate n)) (sym (c.from-count.ensures ∙ c.inputs.ensures.value))
    (output_known (netlist c.args.maker.now) c.loop-place.maker c.in_ok-gate.gate c.args.one.now.table (take c.loop-place.place (input_pins c.args.one.now.inputs.items)) c.loop-place.invariant)

pub returns : goal.returns
returns c =
    let one : OneGate = c.args.one.now in
    let L : Listing = c.loop-place.maker in
    let M : Listing = c.put_on-2.new.maker in
    let count : c.from-count.result ≡ one.table.inputs = c.from-count.ensures ∙ c.inputs.ensures.value in
    let all : length (input_pins one.inputs.items) ≤ c.loop-place.place = omega (arith, pins_count one.inputs.items, ap length c.as_slice-inputs.ensures.value) in
    patch_ends (netlist c.args.maker.now) L M c.in_ok-gate.gate one c.put_on-2.result c.requires.rows
    (subst (IsPatching (netlist c.args.maker.now) L c.in_ok-gate.gate (patch_kind one.table)) (take_all c.loop-place.place (input_pins one.inputs.items) all) c.loop-place.invariant)
    (subst (λ k. OnOk c.put_on-2.result ((n : ℕ) × (M ≡ record L { comps = with_joint L.comps c.in_ok-gate.gate.0 k n }))) count c.put_on-2.ensures.rows)
    (subst (λ k. OnOk c.put_on-2.result (netlist M ≡ with_pin_on (netlist L) (numbered_pin L (Pin c.in_ok-gate.gate k)) one.output)) count
    (subst (λ q. OnOk c.put_on-2.result (netlist M ≡ with_pin_on (netlist L) (numbered_pin L (Pin c.in_ok-gate.gate c.from-count.result)) q)) c.bytes-2.ensures c.put_on-2.ensures.named))

-- a table has at most six inputs
pub overflow_cast-place : goal.overflow_cast-place
overflow_cast-place c = omega (arith, ap length c.as_slice-inputs.ensures.value)
