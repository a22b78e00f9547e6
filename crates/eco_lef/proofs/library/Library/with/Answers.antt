use Rattle.std.proofs.Common.{ap, sym, ◌∙◌}
use Rattle.std.proofs.lemmas.List.{length-map}
use Rattle.eco_lef.specs.Known.{names_of}
use Rattle.eco_lef.proofs.Naming.{named_push, map_push}
use Rattle.eco_lef.proofs.library.Library.with.Goals as goal

pub invariant_of-result : goal.invariant_of-result
invariant_of-result c =
    let ms = c.self.inside.masters in
    named_push c.self.inside.places c.add_name.new.names (names_of ms) (names_of c.push.new.self) c.args.master.name c.bytes.result.now c.len.result
    (ap names_of c.in_ok-push.ensures.ok ∙ map_push (λ m. m.name) ms c.args.master) c.bytes.ensures (c.len.ensures ∙ sym (length-map ms (λ m. m.name))) c.self.invariant c.in_ok-add_name.ensures
