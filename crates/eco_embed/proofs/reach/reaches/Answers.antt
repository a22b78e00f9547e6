use Rattle.std.proofs.Common.{◌≡◌, ◌-◌, ◌^◌, ◌≤◌, ◌<◌, cond, get_or, IsTrue, nat_eq, length, bit_and, ◌∙◌, ap, sym, subst, arith, refl, ℕ}
use Rattle.std.proofs.lemmas.Bool.Decides.{nat_tests}
use Rattle.eco_func.specs.Tables.{bit}
use Rattle.eco_embed.proofs.Reaching.{Seen, none_seen, seen_more, all_reached, each_reached}
use Rattle.eco_embed.proofs.reach.reaches.Goals as goal

tested : (x y : ℕ) → x ≡ y → IsTrue (nat_eq x y)
tested x y e = grind (arith, nat_tests)

pub loop-word-preserved : goal.loop-word-preserved
loop-word-preserved c =
    let words = c.args.words.now in
    let place = c.loop-word.word-index in
    let fits : get_or words place 0 < 18446744073709551616 = omega (arith, c.type_inv.words place) in
    seen_more words place c.loop-word.ones c.loop-word.zeros (get_or words place 0) refl fits c.loop-word.invariant

equal : (x y : ℕ) → IsTrue (nat_eq x y) → x ≡ y
equal x y e = grind (arith, nat_tests)

pub loop-word-init : goal.loop-word-init
loop-word-init c = none_seen c.args.words.now

pub returns : goal.returns
returns c =
    let want = c.args.want.now in
    let words = c.args.words.now in
    let few = subst (λ n. n ≤ 6) c.inputs.ensures.value c.inputs.ensures.few in
    let end : c.loop-word.word-index ≡ length words = omega (arith, c.loop-word-test.false, c.loop-word.auto.word-index-end) in
    let seen = subst (λ n. Seen words n c.loop-word.ones c.loop-word.zeros) end c.loop-word.invariant in
    let mask = c.low_rows-rows.ensures ∙ ap (λ i. 2 ^ (2 ^ i) - 1) c.inputs.ensures.value in
    let is = λ (r : ℕ). c.chosen.ensures r ∙ ap (λ b. cond (bit b r) (bit c.loop-word.ones r) (bit c.loop-word.zeros r)) c.bits.ensures.value in (
      λ t.
          each_reached want words c.loop-word.ones c.loop-word.zeros c.chosen.result few seen is
          (subst (λ m. bit_and c.chosen.result m ≡ m) mask (equal (bit_and c.chosen.result c.low_rows-rows.result) c.low_rows-rows.result t)),
      λ reach.
          tested (bit_and c.chosen.result c.low_rows-rows.result) c.low_rows-rows.result
          (subst (λ m. bit_and c.chosen.result m ≡ m) (sym mask) (all_reached want words c.loop-word.ones c.loop-word.zeros c.chosen.result few seen is reach)),
    )
