use Rattle.std.proofs.Common.{◌+◌, ◌∙◌, [], map, take, sym, ap, arith, subst}
use Rattle.std.specs.FinMap.{insert}
use Rattle.std.proofs.lemmas.List.{take_all}
use Rattle.eco_net.specs.declared.rows.CompRow.{CompRow}
use Rattle.eco_net.specs.Kept.{IsIndexOf}
use Rattle.eco_net.proofs.Places.{index_nil}
use Rattle.eco_net.proofs.Removed.{index_more}
use Rattle.eco_net.proofs.removal.index_of.Goals as goal

pub loop-place-init : goal.loop-place-init
loop-place-init c = subst (IsIndexOf []) (sym c.in_ok-index.ensures) index_nil

pub loop-place-preserved : goal.loop-place-preserved
loop-place-preserved c =
    subst (IsIndexOf (map (λ r. r.name) (take (c.loop-place.place + 1) c.args.comps.now)))
    (sym (c.in_ok-insert.ensures.ok ∙ ap (λ name. insert c.loop-place.index name c.loop-place.place) c.bytes.ensures))
    (index_more c.args.comps.now c.loop-place.place c.index-comps-place.result c.loop-place.index c.loop-place-test.true c.index-comps-place.is c.requires.apart c.loop-place.invariant)

pub returns : goal.returns
returns c =
    subst (λ rows. IsIndexOf (map (λ (r : CompRow). r.name) rows) c.loop-place.index) (take_all c.loop-place.place c.args.comps.now (omega (arith, c.loop-place-test.false))) c.loop-place.invariant
