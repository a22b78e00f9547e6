use Rattle.std.proofs.Common.{◌≡◌, ◌≤◌, ◌<◌, ◌∙◌, ◌++◌, ◌∷◌, [], sym, ap, subst, map, take, length, length-set, slice_get, Some, arith}
use Rattle.std.proofs.lemmas.List.{take_more_set, map-append, length-take-le}
use Rattle.eco_net.specs.Listing.{Listing, bits_of}
use Rattle.eco_net.specs.Netlist.{GateOutput}
use Rattle.eco_net.specs.ByNumber.{role_at}
use Rattle.eco_net.specs.Gates.{gate_inputs, inputs_at, input_count}
use Rattle.eco_net.specs.ValuesOf.{bit_of, by_role}
use Rattle.eco_net.proofs.Ranges.{take_next}
use Rattle.eco_net.proofs.GateTables.{table_inputs, look_is}
use Rattle.eco_net.proofs.netlist.Netlist.output_value.Goals as goal

pub loop-input-preserved : goal.loop-input-preserved
loop-input-preserved c =
    let vs = c.args.values.now in
    let js = c.comp-row.result.now.joined in
    let i = c.loop-input.input in
    let w = c.loop-input.invariant in
    let here : i < length c.loop-input.bits = omega (arith, w.long, c.loop-input-test.true, c.input_count-inputs.ensures.few) in
    record {
      long = length-set c.loop-input.bits i c.read.result ∙ w.long;
      filled =
          take_more_set c.loop-input.bits i c.read.result here
          ∙ (λ t. w.filled t ++ c.read.ensures t ∷ [])
          ∙ sym (ap (map (bit_of vs)) (take_next js i c.get.result c.get.ensures) ∙ map-append (bit_of vs) (take i js) (c.get.result ∷ []));
    }

pub look-requires : goal.look-requires
look-requires c =
    let n = c.input_count-inputs.result in
    let r = c.comp-row.result.now in
    let h : n ≤ length c.loop-input.bits = omega (arith, c.loop-input.invariant.long, c.input_count-inputs.ensures.few) in
    length-take-le n c.loop-input.bits h
    ∙ c.input_count-inputs.ensures.count
    ∙ sym (table_inputs r.kind c.args.pin c.in-GateOutput.table c.comp-row.ensures.row.kind.rows c.in-GateOutput.ensures)

pub returns-in-GateOutput : goal.returns-in-GateOutput
returns-in-GateOutput c =
    let L = c.args.self.now in
    let vs = c.args.values.now in
    let n = c.input_count-inputs.result in
    let r = c.comp-row.result.now in
    let k = c.args.comp.0 in
    let t = c.in-GateOutput.table in
    let h : n ≤ length c.loop-input.bits = omega (arith, c.loop-input.invariant.long, c.input_count-inputs.ensures.few) in
    let same : t.inputs ≡ input_count r.kind = table_inputs r.kind c.args.pin t c.comp-row.ensures.row.kind.rows c.in-GateOutput.ensures in
    let long : length (take n c.loop-input.bits) ≡ t.inputs = length-take-le n c.loop-input.bits h ∙ c.input_count-inputs.ensures.count ∙ sym same in
    let at : slice_get L.comps k ≡ Some r = subst (λ (M : Listing). slice_get M.comps k ≡ Some r) c.self.view_is c.comp-row.ensures.at in
    let end : c.loop-input.input ≡ n = omega (arith, c.loop-input-test.false, c.loop-input.auto.input-end) in
    let read : take n c.loop-input.bits ≡ map (bit_of vs) (inputs_at L k) =
    ap (λ i. take i c.loop-input.bits) (sym end)
    ∙ c.loop-input.invariant.filled
    ∙ ap (λ i. map (bit_of vs) (take i r.joined)) (end ∙ c.input_count-inputs.ensures.count)
    ∙ sym (ap (λ o. map (bit_of vs) (gate_inputs o)) at) in
    let role : role_at (slice_get L.comps k) c.args.pin ≡ Some (GateOutput (bits_of t)) = ap (λ o. role_at o c.args.pin) at ∙ c.in-GateOutput.ensures in
    c.look.ensures
    ∙ sym (look_is t (take n c.loop-input.bits) long)
    ∙ ap (by_role (Some (GateOutput (bits_of t)))) read
    ∙ sym (ap (λ o. by_role o (map (bit_of vs) (inputs_at L k))) role)
