use Rattle.std.proofs.Common.{◌+◌, drop, ap, ◌∙◌, sym}
use Rattle.std.proofs.lemmas.List.{drop_all}
use Rattle.eco_func.specs.Masters.{all_differ}
use Rattle.eco_func.proofs.Differing.{differ_so_far, seen_none, twice, once}
use Rattle.eco_func.proofs.PinNames.{left_from}
use Rattle.eco_func.proofs.differ.differ.Goals as goal

pub loop-name-init : goal.loop-name-init
loop-name-init c = seen_none c.args.names.now ∙ ap (λ s. differ_so_far s c.args.names.now) (sym c.new-seen.ensures.empty)

pub returns-then-not-branch : goal.returns-then-not-branch
returns-then-not-branch c =
    let names = c.args.names.now in
    let i = c.loop-name.name-index in
    let n = c.name-item.result in
    twice (all_differ names) names c.loop-name.seen.keys i n c.bytes.result (left_from names i n c.loop-name-test.true c.name-item.is) c.bytes.ensures
    c.in_ok-insert.field-0 c.in_ok-insert.ensures.added c.loop-name.invariant c.if-not-branch.true

pub loop-name-preserved : goal.loop-name-preserved
loop-name-preserved c =
    let names = c.args.names.now in
    let i = c.loop-name.name-index in
    let n = c.name-item.result in
    once (all_differ names) names c.loop-name.seen.keys i n c.bytes.result (left_from names i n c.loop-name-test.true c.name-item.is) c.bytes.ensures
    c.in_ok-insert.field-0 c.in_ok-insert.ensures.added c.loop-name.invariant c.if-not-branch.false
    ∙ ap (λ s. differ_so_far s (drop (i + 1) names)) (sym c.in_ok-insert.ensures.keys)

pub returns : goal.returns
returns c = sym (c.loop-name.invariant ∙ ap (differ_so_far c.loop-name.seen.keys) (drop_all c.loop-name.name-index c.args.names.now c.loop-name-test.false))
