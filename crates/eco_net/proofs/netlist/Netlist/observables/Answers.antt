use Rattle.std.proofs.Common.{◌≡◌, ◌∙◌, ◌++◌, sym, ap, List, length, subst}
use Rattle.std.specs.List.{filter}
use Rattle.std.proofs.lemmas.List.{append_assoc}
use Rattle.eco_net.specs.declared.ids.PinRef.{PinRef}
use Rattle.eco_net.specs.declared.observables.Seen.TheVariants.{AtChip, AtBox, AtGate}
use Rattle.eco_net.specs.Observables.{IsObservable}
use Rattle.eco_net.specs.Listing.{netlist}
use Rattle.eco_net.specs.ByNumber.{tops_to, comp_pins}
use Rattle.eco_net.specs.PinOrder.{observed_order}
use Rattle.eco_net.specs.Pins.{ArePins}
use Rattle.eco_net.specs.Seen.{is_seen, seen_pins}
use Rattle.eco_net.proofs.SeenNames.{seen_are}
use Rattle.eco_net.proofs.netlist.Netlist.observables.Goals as goal

pub returns : goal.returns
returns c =
    let L = c.args.self.now in
    let tops = filter (is_seen L AtChip) (tops_to (length L.tops)) in
    let boxes = filter (is_seen L AtBox) (comp_pins 0 L.comps) in
    let gates = filter (is_seen L AtGate) (comp_pins 0 L.comps) in
    let found : c.add_comps-2.new.found.items ≡ seen_pins L =
    c.in_ok-add_comps-2.ensures
    ∙ ap (λ (xs : List PinRef). xs ++ gates)
    (c.in_ok-add_comps.ensures
    ∙ ap (λ (xs : List PinRef). xs ++ boxes) (c.in_ok-add_tops.ensures ∙ ap (λ (xs : List PinRef). xs ++ tops) c.new-found.ensures.items))
    ∙ append_assoc tops boxes gates in
    subst (ArePins L (observed_order L) (IsObservable (netlist L))) (sym found) (seen_are L c.facts.ensures.listing)
