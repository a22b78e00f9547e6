use Rattle.std.proofs.Common.{◌≡◌, ◌∙◌, [], ◌∷◌, ◌++◌, length, replicate, Some, None, sym, ap, subst, inl, refl}
use Rattle.std.specs.Option.{option_map}
use Rattle.eco_def.specs.Named.{NamedComp}
use Rattle.eco_net.specs.Netlist.{Name, pins_of}
use Rattle.eco_net.specs.Listing.{Listing, given_kind}
use Rattle.eco_net.proofs.Basics.{contains_from_has}
use Rattle.eco_elaborate.specs.Centres.{doubled_centre}
use Rattle.eco_elaborate.specs.Netlists.{centre_in}
use Rattle.eco_elaborate.specs.Stated.{named_comp}
use Rattle.eco_elaborate.proofs.Adding.{new_comp}
use Rattle.eco_elaborate.proofs.listed_comps.add_comp.Goals as goal

pub returns-in-None-clause-err : goal.returns-in-None-clause-err
returns-in-None-clause-err g c =
    let a : NamedComp = named_comp c.args.text.now c.args.comp.now in
    (a, contains_from_has (a ∷ []) a (inl refl), ap (g.M.Macros.kinds c.args.macros.now).kind (sym c.bytes_at-model.ensures) ∙ sym c.in_ok-kind.ensures.known ∙ ap (option_map given_kind) c.in-None.is)

pub returns-in_ok-add_comp-in-Some-clause-ok : goal.returns-in_ok-add_comp-in-Some-clause-ok
returns-in_ok-add_comp-in-Some-clause-ok g c =
    let L : Listing = c.args.maker.now in
    let a : NamedComp = named_comp c.args.text.now c.args.comp.now in
    let kind = c.in-Some.kind in
    let known : (g.M.Macros.kinds c.args.macros.now).kind a.model ≡ Some (given_kind kind) =
    ap (g.M.Macros.kinds c.args.macros.now).kind (sym c.bytes_at-model.ensures) ∙ sym c.in_ok-kind.ensures.known ∙ ap (option_map given_kind) c.in-Some.is in
    let placed : c.centre_of-centre.result ≡ centre_in (g.M.Macros.kinds c.args.macros.now) c.args.units a =
    c.centre_of-centre.ensures ∙ ap (λ s. option_map (doubled_centre c.args.units s) c.args.comp.now.place) (c.size.ensures.value ∙ ap (g.M.Macros.kinds c.args.macros.now).size c.bytes_at-model.ensures) in
    new_comp (g.M.Macros.kinds c.args.macros.now) c.args.units L a kind known c.requires.new_name c.facts.ensures.listing c.centre_of-centre.result placed c.add_comp.new.self
    (subst (λ (n : Name). c.add_comp.new.self ≡ record L { comps = L.comps ++ record { name = n; kind = kind; place = c.centre_of-centre.result; joined = replicate (length (pins_of (given_kind kind))) None } ∷ [] })
    c.bytes_at-name.ensures c.in_ok-add_comp-in-Some.ensures.ok)
