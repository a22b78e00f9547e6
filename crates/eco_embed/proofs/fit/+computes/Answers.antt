use Rattle.std.proofs.Common.{length, ◌∙◌, sym, arith}
use Rattle.std.proofs.lemmas.List.{length-take-le}
use Rattle.eco_func.proofs.Powers.{few_rows}
use Rattle.eco_embed.proofs.Folding.{half, longer, all_meet, meet_all}
use Rattle.eco_embed.proofs.Serving.{first_among}
use Rattle.eco_embed.proofs.fit.+computes.Goals as goal

pub fed-requires-clause-few : goal.fed-requires-clause-few
fed-requires-clause-few t c = omega (arith, few_rows (length c.args.feeds.now) c.requires.few, c.requires.words)

pub slice_bounds-computes-end : goal.slice_bounds-computes-end
slice_bounds-computes-end t c = omega (arith, few_rows (length c.args.feeds.now) c.requires.few, c.requires.words, c.fed.ensures.places)

pub slice_bounds-computes-end-in-Some : goal.slice_bounds-computes-end-in-Some
slice_bounds-computes-end-in-Some t c =
    sym (length-take-le _ _ (omega (arith, few_rows (length c.args.feeds.now) c.requires.few, c.requires.words, c.fed.ensures.places)))

pub computes-requires : goal.computes-requires
computes-requires t c =
    let words = c.args.words.now in
    let feeds = c.args.feeds.now in
    let one_less = c.in-Some.ensures.cases.1 in
    let is = c.in-Some.ensures.cases.0 in
    let long = longer c.args.want.now c.requires.rows words c.fed.result feeds c.in-Some.first.now c.in-Some.rest.now is c.requires.words c.fed.ensures.words in (
      omega (arith, one_less, c.decreases),
      (
        c.requires.rows,
        (
          length-take-le _ _ (omega (arith, few_rows (length feeds) c.requires.few, c.requires.words, c.fed.ensures.places)) ∙ half words (length c.in-Some.rest.now) long,
          (omega (arith, one_less, c.requires.few), (first_among c.in-Some.first.now c.in-Some.rest.now feeds is c.requires.among).1),
        ),
      ),
    )

pub returns-in-Some : goal.returns-in-Some
returns-in-Some t c =
    let want = c.args.want.now in
    let words = c.args.words.now in
    let feeds = c.args.feeds.now in
    let is = c.in-Some.ensures.cases.0 in (
      λ h. all_meet want c.requires.rows words c.fed.result feeds c.in-Some.first.now c.in-Some.rest.now is c.requires.words c.fed.ensures.words (c.computes.ensures.0 h),
      λ m. c.computes.ensures.1 (meet_all want c.requires.rows words c.fed.result feeds c.in-Some.first.now c.in-Some.rest.now is c.requires.words c.fed.ensures.words m),
    )
