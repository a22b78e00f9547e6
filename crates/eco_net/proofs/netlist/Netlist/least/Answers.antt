use Rattle.std.proofs.Common.{◌≡◌, ◌∙◌, ◌+◌, [], ap, ap₂, sym, subst, get_or}
use Rattle.std.specs.Ordering.{is_lt}
use Rattle.std.specs.Option.{option_map, unwrap_or}
use Rattle.eco_net.specs.Netlist.{name_cmp}
use Rattle.eco_net.specs.Listing.{Listing, net_name}
use Rattle.eco_net.specs.Rings.{IsLeastAt}
use Rattle.eco_net.proofs.Rotated.{least_first, least_less, least_stays, less_is}
use Rattle.eco_net.proofs.netlist.Netlist.least.Goals as goal
use Rattle.eco_net.proofs.netlist.Netlist.least.Goals.{then-is_before, else-is_before}

pub loop-place-init : goal.loop-place-init
loop-place-init c = least_first c.args.self.now c.args.nets.now

pub loop-place-preserved : goal.loop-place-preserved
loop-place-preserved c =
    let L = c.self.inside.listed in
    let ns = c.args.nets.now in
    let i = c.loop-place.place in
    let b = c.loop-place.least in
    let here : net_name L.nets (get_or ns i 0) ≡ c.bytes-name.result.now = ap (λ o. unwrap_or (option_map (λ r. r.name) o) []) c.net.ensures ∙ sym c.bytes-name.ensures in
    let best : net_name L.nets (get_or ns b 0) ≡ c.bytes.result.now = ap (λ o. unwrap_or (option_map (λ r. r.name) o) []) c.net-in-loop-place.ensures ∙ sym c.bytes.ensures in
    let inv : IsLeastAt L.nets ns i b = subst (λ (M : Listing). IsLeastAt M.nets ns i b) (sym c.self.view_is) c.loop-place.invariant in
    let same : is_lt (name_cmp (net_name L.nets (get_or ns i 0)) (net_name L.nets (get_or ns b 0))) ≡ c.is_before.result = ap₂ (λ x y. is_lt (name_cmp x y)) here best ∙ sym c.is_before.ensures in
    elim c.if-is_before.branch [
      | then-is_before w ↦ subst (λ (M : Listing). IsLeastAt M.nets ns (i + 1) c.if-is_before.least) c.self.view_is (subst (λ p. IsLeastAt L.nets ns (i + 1) p) (sym w.least-is) (least_less L ns i b inv (less_is _ (same ∙ w.if-is_before.true))))
      | else-is_before w ↦ subst (λ (M : Listing). IsLeastAt M.nets ns (i + 1) c.if-is_before.least) c.self.view_is (subst (λ p. IsLeastAt L.nets ns (i + 1) p) (sym w.least-is) (least_stays L ns i b inv (same ∙ w.if-is_before.false)))
    ]
