use Rattle.std.proofs.Common.{◌≡◌, ◌∙◌, [], ◌∷◌, ◌++◌, subst}
use Rattle.eco_def.specs.Named.{NamedPin}
use Rattle.eco_net.specs.Netlist.{Name}
use Rattle.eco_net.specs.Listing.{Listing, netlist, net_name}
use Rattle.eco_net.specs.Changes.{with_top}
use Rattle.eco_elaborate.specs.Stated.{named_pin}
use Rattle.eco_elaborate.proofs.AddingTops.{top_passed, new_top}
use Rattle.eco_elaborate.proofs.FindingPins.{number_named, number_within}
use Rattle.eco_elaborate.proofs.listed_tops.add_top.Goals as goal

pub returns : goal.returns
returns c =
    let L : Listing = c.args.maker.now in
    let p : NamedPin = named_pin c.args.text.now c.args.pin.now in
    let n = c.in-Some.net.0 in
    new_top L p c.if-pin.false c.requires.new_name n (number_named L n _ c.in-Some.ensures ∙ c.bytes_at.ensures) c.add_top.new.self
    (subst (λ (m : Name). c.add_top.new.self ≡ record L { tops = L.tops ++ record { name = m; dir = p.dir; net = n } ∷ [] }) c.bytes_at-name.ensures c.in_ok-add_top-in-Some.ensures.ok)
    (subst (λ (m : Name). netlist c.add_top.new.self ≡ with_top (netlist L) m p.dir (net_name L.nets n)) c.bytes_at-name.ensures c.in_ok-add_top-in-Some.ensures.named)

pub returns-then-pin : goal.returns-then-pin
returns-then-pin c = top_passed c.args.maker.now (named_pin c.args.text.now c.args.pin.now) c.if-pin.true

pub add_top-requires-clause-known_net : goal.add_top-requires-clause-known_net
add_top-requires-clause-known_net c = number_within c.args.maker.now c.in-Some.net.0 _ c.in-Some.ensures
