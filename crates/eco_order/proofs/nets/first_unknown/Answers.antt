use Rattle.std.proofs.Common.{◌≡◌, Bool, not, List, map, Some, sym, ap, subst, ◌∙◌}
use Rattle.std.specs.List.{find, flat_map}
use Rattle.std.specs.Option.{option_copied}
use Rattle.eco_net.specs.Netlist.{Name}
use Rattle.eco_net.specs.Listing.{Listing, netlist}
use Rattle.eco_order.specs.Rules.{is_known, gate_nets, named_nets}
use Rattle.eco_order.proofs.Found.{find_front, find_past}
use Rattle.eco_order.proofs.nets.first_unknown.Goals as goal

abbrev strange : Listing → List Name → Name → Bool
strange L new n = not (is_known (netlist L) new n)

pub returns-in-Some : goal.returns-in-Some
returns-in-Some c =
    let L = c.args.net.now in
    let o = c.order.inside in
    let x = c.in-Some.name.now in
    let gates = flat_map gate_nets c.as_slice-2.result.now in
    subst (λ g. Some x ≡ find (strange L g.nets) (named_nets g)) c.order.view_is
    (find_front (strange L o.nets) (flat_map gate_nets o.gates) (map (λ m. m.to) o.moves) x
    (c.in-Some.ensures ∙ ap (λ ns. find (strange L ns) gates) c.as_slice.ensures ∙ ap (λ gs. find (strange L o.nets) (flat_map gate_nets gs)) c.as_slice-2.ensures))

pub returns : goal.returns
returns c =
    let L = c.args.net.now in
    let o = c.order.inside in
    let gates = flat_map gate_nets c.as_slice-2.result.now in
    let moves = map (λ m. m.to) c.as_slice-4.result.now in
    subst (λ g. option_copied c.unknown_of_moves.result ≡ find (strange L g.nets) (named_nets g)) c.order.view_is
    (c.unknown_of_moves.ensures ∙ ap (λ ns. find (strange L ns) moves) c.as_slice-3.ensures ∙ ap (λ ms. find (strange L o.nets) (map (λ m. m.to) ms)) c.as_slice-4.ensures
    ∙ sym (find_past (strange L o.nets) (flat_map gate_nets o.gates) (map (λ m. m.to) o.moves)
    (c.in_default.ensures ∙ ap (λ ns. find (strange L ns) gates) c.as_slice.ensures ∙ ap (λ gs. find (strange L o.nets) (flat_map gate_nets gs)) c.as_slice-2.ensures)))
