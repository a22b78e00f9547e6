use Rattle.std.proofs.Common.{◌≡◌, ℕ, ◌-◌, ◌%◌, ◌^◌, ◌<◌, ◌↔◌, IsTrue, nat_eq, ◌∙◌, ap, sym, subst, arith, bit_and}
use Rattle.std.proofs.lemmas.Bool.Decides.{nat_tests}
use Rattle.std.proofs.lemmas.Nat.{and_mask}
use Rattle.eco_func.specs.Tables.{bit}
use Rattle.eco_func.proofs.RowBits.{agree}
use Rattle.eco_embed.proofs.words.agrees.Goals as goal

-- the word's low bits, and the test of them
tested : (w b k m : ℕ) → m ≡ 2 ^ k - 1 → b < 2 ^ k → (IsTrue (nat_eq (bit_and w m) b)) ↔ ((r : ℕ) → r < k → bit w r ≡ bit b r)
tested w b k m e fits =
    let low : bit_and w m ≡ w % 2 ^ k = ap (bit_and w) e ∙ and_mask w k in
    let same = agree w b k fits in
    (λ t. same.0 (sym low ∙ is_same (bit_and w m) b t), λ t. is_tested (bit_and w m) b (low ∙ same.1 t))
  where
    is_same : (x y : ℕ) → IsTrue (nat_eq x y) → x ≡ y
    is_same x y t = grind (arith, nat_tests)

    is_tested : (x y : ℕ) → x ≡ y → IsTrue (nat_eq x y)
    is_tested x y t = grind (arith, nat_tests)

pub returns : goal.returns
returns c =
    let want = c.args.want.now in
    let mask = c.low_rows.ensures ∙ ap (λ i. 2 ^ (2 ^ i) - 1) c.inputs.ensures.value in
    let t = tested c.args.word want.bits (2 ^ want.inputs) c.low_rows.result mask c.bits.ensures.is_table.within in (
      λ h. t.0 (subst (λ b. IsTrue (nat_eq (bit_and c.args.word c.low_rows.result) b)) c.bits.ensures.value h),
      λ h. subst (λ b. IsTrue (nat_eq (bit_and c.args.word c.low_rows.result) b)) (sym c.bits.ensures.value) (t.1 h),
    )
