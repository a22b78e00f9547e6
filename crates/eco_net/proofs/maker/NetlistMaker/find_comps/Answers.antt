use Rattle.std.proofs.Common.{◌≡◌, ◌∙◌, ◌<◌, List, Option, None, ℕ, map, length, get_or, arith, sym, ap, subst}
use Rattle.std.specs.Option.{option_map, IfSome}
use Rattle.std.specs.List.{AllZip}
use Rattle.std.specs.FinMap.{get}
use Rattle.std.proofs.lemmas.List.{take_all, length-map}
use Rattle.eco_net.specs.Listing.{Listing, FindsComp}
use Rattle.eco_net.specs.Kept.{IsIndexOf}
use Rattle.eco_net.specs.ByNumber.{found_of}
use Rattle.eco_net.proofs.FoundComps.{all_found, known_at}
use Rattle.eco_net.proofs.maker.NetlistMaker.find_comps.Goals as goal

pub found_at-requires : goal.found_at-requires
found_at-requires c =
    let s = c.self.inside in
    let L = c.args.self.now in
    let names = c.args.names.now in
    let i = c.loop-place.place-index in
    let index = subst (λ (L : Listing). IsIndexOf (map (λ r. r.name) L.comps) s.comp_places) c.self.view_is c.self.invariant.comps in
    let items : c.deref-place-items.result.now ≡ map (λ n. get s.comp_places n.now) names = c.deref-place-items.ensures.value ∙ c.in_ok-places.ensures in
    let within : i < length names = omega (arith, c.loop-place-test.true, ap length items, length-map names (λ n. get s.comp_places n.now)) in
    subst (λ (os : List (Option ℕ)). IfSome (get_or os i None) (λ k. k < length L.comps)) (sym items) (known_at L s.comp_places index names i None within)

pub returns : goal.returns
returns c =
    let s = c.self.inside in
    let L = c.args.self.now in
    let names = c.args.names.now in
    let index = subst (λ (L : Listing). IsIndexOf (map (λ r. r.name) L.comps) s.comp_places) c.self.view_is c.self.invariant.comps in
    let all : c.loop-place.found.items ≡ map (option_map (found_of L)) (map (λ n. get s.comp_places n.now) names) =
    c.loop-place.invariant
    ∙ ap (map (option_map (found_of L))) (take_all c.loop-place.place-index c.deref-place-items.result.now (omega (arith, c.loop-place-test.false)) ∙ c.deref-place-items.ensures.value ∙ c.in_ok-places.ensures) in
    subst (AllZip (λ n f. FindsComp L n.now f) names) (sym all) (all_found L s.comp_places index names)
