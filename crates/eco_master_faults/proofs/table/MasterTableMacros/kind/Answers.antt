use Rattle.std.proofs.Common.{Some, option_map, option_and_then, slice_get, sym, ap, subst, ◌∙◌}
use Rattle.eco_net.specs.Listing.{given_kind, HasOwnPins}
use Rattle.eco_master_faults.specs.Tables.{Masters, kinds_of}
use Rattle.eco_master_faults.proofs.MadeKinds.{kind_at, own_at}
use Rattle.eco_master_faults.proofs.table.MasterTableMacros.kind.Goals as goal

pub returns-in-None-clause-known : goal.returns-in-None-clause-known
returns-in-None-clause-known c =
    let fs = c.self.inside.functions.now in
    let ms = c.self.inside.library.now in
    let ks = c.self.inside.kinds in
    let q = c.args.name.now in
    ap (λ o. option_map given_kind (option_and_then (λ i. slice_get ks i) o)) (sym c.in-None.is)
    ∙ kind_at fs ms ks q c.place.result c.self.invariant.0 c.place.ensures
    ∙ ap (λ (v : Masters). (kinds_of v.library v.functions).kind q) c.self.view_is

pub returns-in_ok-copy-in-Some-get-clause-known : goal.returns-in_ok-copy-in-Some-get-clause-known
returns-in_ok-copy-in-Some-get-clause-known c =
    let fs = c.self.inside.functions.now in
    let ms = c.self.inside.library.now in
    let ks = c.self.inside.kinds in
    let q = c.args.name.now in
    ap (λ k. Some (given_kind k)) c.in_ok-copy-in-Some-get.ensures
    ∙ ap (option_map given_kind) c.in-Some-get.ensures.value
    ∙ kind_at fs ms ks q (Some c.in-Some.place) c.self.invariant.0 c.in-Some.ensures
    ∙ ap (λ (v : Masters). (kinds_of v.library v.functions).kind q) c.self.view_is

pub returns-in_ok-copy-in-Some-get-clause-own_pins : goal.returns-in_ok-copy-in-Some-get-clause-own_pins
returns-in_ok-copy-in-Some-get-clause-own_pins c =
    subst HasOwnPins (sym c.in_ok-copy-in-Some-get.ensures)
    (own_at c.self.inside.kinds c.in-Some.place c.in-Some-get.kind.now c.self.invariant.0.own (sym c.in-Some-get.ensures.value))

pub returns-in-None-get-clause-known : goal.returns-in-None-get-clause-known
returns-in-None-get-clause-known c =
    let fs = c.self.inside.functions.now in
    let ms = c.self.inside.library.now in
    let ks = c.self.inside.kinds in
    let q = c.args.name.now in
    ap (option_map given_kind) c.in-None-get.ensures.value
    ∙ kind_at fs ms ks q (Some c.in-Some.place) c.self.invariant.0 c.in-Some.ensures
    ∙ ap (λ (v : Masters). (kinds_of v.library v.functions).kind q) c.self.view_is
