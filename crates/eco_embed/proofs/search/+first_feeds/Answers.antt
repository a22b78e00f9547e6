use Rattle.std.proofs.Common.{◌≡◌, ◌+◌, ◌-◌, ◌/◌, ◌^◌, suc, length, take, ◌∙◌, ap, sym, subst, arith}
use Rattle.std.proofs.lemmas.List.{length-take-le}
use Rattle.eco_func.proofs.Powers.{few_rows}
use Rattle.eco_embed.proofs.Folding.{half}
use Rattle.eco_embed.proofs.Searching.{Tried, tried_more, found, none_left, unreached}
use Rattle.eco_embed.proofs.search.+first_feeds.Goals as goal

pub fed-left-requires-clause-few : goal.fed-left-requires-clause-few
fed-left-requires-clause-few t c = omega (arith, few_rows c.args.pins c.requires.few, c.requires.words)

pub slice_bounds-left-end : goal.slice_bounds-left-end
slice_bounds-left-end t c = omega (arith, few_rows c.args.pins c.requires.few, c.requires.words, c.fed-left.ensures.places)

pub slice_bounds-first_feeds-end : goal.slice_bounds-first_feeds-end
slice_bounds-first_feeds-end t c =
    sym (length-take-le _ _ (omega (arith, few_rows c.args.pins c.requires.few, c.requires.words, c.fed-left.ensures.places)))

pub first_feeds-requires : goal.first_feeds-requires
first_feeds-requires t c =
    let words = c.args.words.now in
    let some : c.args.pins ≡ suc (c.args.pins - 1) = omega arith in
    let count : length (take (length words / 2) c.fed-left.result) ≡ 2 ^ (c.args.pins - 1) =
    length-take-le _ _ (omega (arith, few_rows c.args.pins c.requires.few, c.requires.words, c.fed-left.ensures.places))
    ∙ half words (c.args.pins - 1) (c.requires.words ∙ ap (λ n. 2 ^ n) some) in
    (omega (arith, c.decreases), (c.requires.rows, (c.requires.feeds, (omega (arith, c.requires.few), count))))

pub loop-number-preserved : goal.loop-number-preserved
loop-number-preserved t c =
    let want = c.args.want.now in
    let words = c.args.words.now in
    let pins = c.args.pins in
    let f = c.numbered-feed.result in
    let is = c.numbered-feed.ensures.number in
    let next = tried_more want c.requires.rows words c.fed-left.result pins (omega arith) c.requires.words f c.fed-left.ensures.words
    (subst (Tried want words pins) (sym is) c.loop-number.invariant) c.in_default.ensures in
    subst (λ n. Tried want words pins (n + 1)) is next

pub returns-in-Some : goal.returns-in-Some
returns-in-Some t c =
    let want = c.args.want.now in
    let words = c.args.words.now in
    let pins = c.args.pins in
    let f = c.numbered-feed.result in
    let is = c.numbered-feed.ensures.number in
    found want c.requires.rows words c.fed-left.result pins (omega arith) c.requires.words f c.fed-left.ensures.words c.requires.few
    (c.numbered-feed.ensures.among want.inputs (omega (arith, c.loop-number-test.true, c.requires.feeds)))
    (subst (Tried want words pins) (sym is) c.loop-number.invariant) c.in-Some.rest c.before-in-Some.result c.in-Some.ensures c.before-in-Some.ensures

pub returns : goal.returns
returns t c =
    let want = c.args.want.now in
    let words = c.args.words.now in
    let pins = c.args.pins in
    let end : c.loop-number.number ≡ want.inputs + 2 = omega (arith, c.loop-number-test.false, c.requires.feeds, c.loop-number.auto.number-end) in
    none_left want words pins (omega arith) (subst (Tried want words pins) end c.loop-number.invariant)

pub returns-then-not-reaches : goal.returns-then-not-reaches
returns-then-not-reaches t c = unreached c.args.want.now c.args.words.now c.args.pins c.requires.words c.reaches.result c.if-not-reaches.true c.reaches.ensures.1
