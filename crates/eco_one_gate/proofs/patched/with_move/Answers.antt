use Rattle.std.proofs.Common.{◌≡◌, ◌∙◌, ap, length, None, Some}
use Rattle.std.specs.FinMap.{get}
use Rattle.eco_net.specs.Netlist.{Netlist, CompPin}
use Rattle.eco_net.specs.Changes.{with_net, with_pin_on}
use Rattle.eco_net.specs.declared.ids.PinRef.TheVariants.{Pin as PinNumber}
use Rattle.eco_net.specs.Listing.{Listing, netlist, numbered_pin}
use Rattle.eco_net.proofs.Basics.{get_same}
use Rattle.eco_net.proofs.Numbers.{joint_length}
use Rattle.eco_one_gate.specs.declared.one_gate.OneGate.{OneGate}
use Rattle.eco_one_gate.proofs.MovedNetlists.{moved_is}
use Rattle.eco_one_gate.proofs.patched.with_move.Goals as goal

pub put_on-requires-clause-net : goal.put_on-requires-clause-net
put_on-requires-clause-net c = (None, ap (λ (N : Netlist). get N.nets c.bytes-output.result.now) c.in_ok-add_net.ensures.named ∙ get_same (netlist c.in_ok-maker.maker).nets c.bytes-output.result.now None)

pub returns-clause-named : goal.returns-clause-named
returns-clause-named c =
    let one : OneGate = c.args.one.now in
    let N : Netlist = netlist c.args.netlist.now in
    let output = c.bytes-output.result.now in
    let pin = PinNumber c.args.comp c.args.pin in
    let added : netlist c.add_net.new.self ≡ with_net N output None = c.in_ok-add_net.ensures.named ∙ ap (λ L. with_net (netlist L) output None) c.in_ok-maker.ensures in
    let named : numbered_pin c.add_net.new.self pin ≡ CompPin one.comp one.pin = ap (λ L. numbered_pin L pin) c.in_ok-add_net.ensures.ok ∙ ap (λ L. numbered_pin L pin) c.in_ok-maker.ensures ∙ c.requires.moved.named in
    c.in_ok-put_on.ensures.named
    ∙ ap (λ M. with_pin_on M (numbered_pin c.add_net.new.self pin) output) added
    ∙ ap (λ p. with_pin_on (with_net N output None) p output) named
    ∙ ap (λ q. with_pin_on (with_net N q None) (CompPin one.comp one.pin) q) c.bytes-output.ensures
    ∙ moved_is N one

pub returns-clause-count : goal.returns-clause-count
returns-clause-count c =
    let joint = c.in_ok-put_on.ensures.rows in
    ap (λ (L : Listing). length L.comps) joint.1
    ∙ joint_length c.add_net.new.self.comps c.args.comp.0 c.args.pin (Some joint.0)
    ∙ ap (λ (L : Listing). length L.comps) c.in_ok-add_net.ensures.ok
    ∙ ap (λ (L : Listing). length L.comps) c.in_ok-maker.ensures
