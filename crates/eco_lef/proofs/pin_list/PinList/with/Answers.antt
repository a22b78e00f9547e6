use Rattle.std.proofs.Common.{ap, sym, ◌∙◌}
use Rattle.std.proofs.lemmas.List.{length-map}
use Rattle.eco_lef.specs.Known.{pin_names}
use Rattle.eco_lef.proofs.Naming.{named_push, map_push}
use Rattle.eco_lef.proofs.pin_list.PinList.with.Goals as goal

pub invariant_of-result : goal.invariant_of-result
invariant_of-result c =
    let ps = c.self.inside.pins in
    named_push c.self.inside.names c.add_name.new.names (pin_names ps) (pin_names c.push.new.self) c.args.pin.name c.bytes.result.now c.len.result
    (ap pin_names c.in_ok-push.ensures.ok ∙ map_push (λ p. p.name) ps c.args.pin) c.bytes.ensures (c.len.ensures ∙ sym (length-map ps (λ p. p.name))) c.self.invariant c.in_ok-add_name.ensures
