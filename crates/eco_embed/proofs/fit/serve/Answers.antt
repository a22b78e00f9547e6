use Rattle.std.proofs.Common.{◌≡◌, ◌*◌, ◌%◌, ◌^◌, ◌≤◌, take, ◌∙◌, ap, sym, subst, arith}
use Rattle.std.proofs.lemmas.List.{length-take-le}
use Rattle.std.proofs.lemmas.Nat.{one_shl}
use Rattle.std.specs.List.{list_all}
use Rattle.eco_embed.specs.Feeds.{is_among}
use Rattle.eco_embed.specs.Words.{Meets}
use Rattle.eco_func.proofs.Powers.{few_rows}
use Rattle.eco_embed.proofs.Serving.{serves, meets, all_among}
use Rattle.eco_embed.proofs.fit.serve.Goals as goal

pub slice_bounds-computes-end : goal.slice_bounds-computes-end
slice_bounds-computes-end c =
    let i = c.inputs-then-are_among.result in
    omega (arith, one_shl i 64 (omega (arith, c.inputs-then-are_among.ensures.few)), few_rows i c.inputs-then-are_among.ensures.few, c.words_of.ensures.places)

pub slice_bounds-computes-end-then-are_among : goal.slice_bounds-computes-end-then-are_among
slice_bounds-computes-end-then-are_among c =
    let i = c.inputs-then-are_among.result in
    sym (length-take-le _ _ (omega (arith, one_shl i 64 (omega (arith, c.inputs-then-are_among.ensures.few)), few_rows i c.inputs-then-are_among.ensures.few, c.words_of.ensures.places)))

pub computes-requires-clause-words : goal.computes-requires-clause-words
computes-requires-clause-words c =
    let i = c.inputs-then-are_among.result in
    length-take-le _ _ (omega (arith, one_shl i 64 (omega (arith, c.inputs-then-are_among.ensures.few)), few_rows i c.inputs-then-are_among.ensures.few, c.words_of.ensures.places))
    ∙ one_shl i 64 (omega (arith, c.inputs-then-are_among.ensures.few))
    ∙ ap (λ n. 2 ^ n) (c.inputs-then-are_among.ensures.value ∙ sym c.requires)

pub computes-requires-clause-among : goal.computes-requires-clause-among
computes-requires-clause-among c =
    all_among c.inputs.result c.inputs.ensures.few c.args.feeds.now (sym c.are_among.ensures ∙ c.if-are_among.true)

pub returns-then-are_among : goal.returns-then-are_among
returns-then-are_among c =
    let want = c.args.want.now in
    let table = c.args.table.now in
    let words = c.words_of.result in
    let feeds = c.args.feeds.now in
    let i = c.inputs-then-are_among.result in
    let few : want.inputs ≤ 6 = omega (arith, c.inputs.ensures.few, c.inputs.ensures.value) in
    let front : 1 * 2 ^ i % 18446744073709551616 ≡ 2 ^ table.inputs =
    one_shl i 64 (omega (arith, c.inputs-then-are_among.ensures.few)) ∙ ap (λ n. 2 ^ n) c.inputs-then-are_among.ensures.value in
    let among = ap (λ k. list_all (is_among k) feeds) (sym c.inputs.ensures.value) ∙ sym c.are_among.ensures ∙ c.if-are_among.true in (
      λ h. serves want table few words c.words_of.ensures.words feeds c.requires among (subst (λ n. Meets want (take n words) feeds) front (c.computes.ensures.0 h)),
      λ s. c.computes.ensures.1 (subst (λ n. Meets want (take n words) feeds) (sym front) (meets want table few words c.words_of.ensures.words feeds c.requires s)),
    )
