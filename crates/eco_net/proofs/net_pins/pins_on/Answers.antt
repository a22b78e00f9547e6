use Rattle.std.proofs.Common.{◌∙◌, ◌++◌, sym, ap, List, length}
use Rattle.std.specs.List.{filter}
use Rattle.std.proofs.lemmas.List.Elements.{filter-append}
use Rattle.eco_net.specs.declared.ids.PinRef.{PinRef}
use Rattle.eco_net.specs.ByNumber.{is_on, tops_to, comp_pins}
use Rattle.eco_net.proofs.net_pins.pins_on.Goals as goal

pub returns : goal.returns
returns c =
    let L = c.args.listed.now in
    let test = is_on L c.args.net in
    c.in_ok-add_comps.ensures
    ∙ ap (λ (xs : List PinRef). xs ++ filter test (comp_pins 0 L.comps)) (c.in_ok-add_tops.ensures ∙ ap (λ (xs : List PinRef). xs ++ filter test (tops_to (length L.tops))) c.new-found.ensures.items)
    ∙ sym (filter-append test (tops_to (length L.tops)) (comp_pins 0 L.comps))
