use Rattle.std.proofs.Common.{◌∙◌, sym, ap, map}
use Rattle.std.specs.List.{list_any}
use Rattle.std.specs.Str.{bytes_eq}
use Rattle.eco_net.specs.declared.kind.Kind.{Kind}
use Rattle.eco_net.specs.Netlist.{pins_of}
use Rattle.eco_net.specs.Listing.{given_kind}
use Rattle.eco_net.proofs.HasPin.{gate_names, box_names}
use Rattle.eco_net.proofs.kind.Kind.has_pin.Goals as goal

pub returns-in-Gate : goal.returns-in-Gate
returns-in-Gate c =
    c.gate_has.ensures ∙ sym (gate_names c.in-Gate.master c.args.name.now)
    ∙ ap (λ (k : Kind). list_any (λ p. bytes_eq p c.args.name.now) (map (λ p. p.0) (pins_of (given_kind k)))) (sym c.in-Gate.is)

pub returns-in-Boxed : goal.returns-in-Boxed
returns-in-Boxed c =
    c.box_has.ensures
    ∙ ap (list_any (λ p. bytes_eq p.name c.args.name.now)) c.as_slice.ensures
    ∙ sym (box_names c.in-Boxed.pins c.args.name.now)
    ∙ ap (λ (k : Kind). list_any (λ p. bytes_eq p c.args.name.now) (map (λ p. p.0) (pins_of (given_kind k)))) (sym c.in-Boxed.is)
