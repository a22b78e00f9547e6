use Rattle.std.proofs.Common.{◌≡◌, ◌+◌, ◌^◌, ◌<◌, ◌∙◌, suc, true, false, ◌∷◌, drop, drop-cons, add-one, ap, sym, subst, arith}
use Rattle.std.proofs.lemmas.Nat.{one_shl}
use Rattle.eco_func.proofs.RowSteps.{RowSoFar, one_more}
use Rattle.eco_func.proofs.table.row_of.Goals.{then-bit, else-bit}
use Rattle.eco_func.proofs.table.row_of.Goals as goal

pub loop-place-preserved : goal.loop-place-preserved
loop-place-preserved c =
    let bits = c.args.bits.now in
    let place = c.loop-place.place in
    let sofar = c.loop-place.row in
    let left = drop-cons bits place false c.loop-place-test.true in
    elim c.if-bit.branch [
      | then-bit w ↦
          let front : drop place bits ≡ true ∷ drop (place + 1) bits = rw add-one (left ∙ ap (λ x. x ∷ drop (suc place) bits) w.if-bit.true) in
          let small : place < 8 = omega (arith, c.requires) in
          let e : c.if-bit.row ≡ sofar + 2 ^ place = omega (arith, w.row-is, one_shl place 8 small) in
          subst (λ r. RowSoFar bits r (place + 1)) (sym e) (one_more bits sofar place true front c.loop-place.invariant)
      | else-bit w ↦
          let front : drop place bits ≡ false ∷ drop (place + 1) bits = rw add-one (left ∙ ap (λ x. x ∷ drop (suc place) bits) w.if-bit.false) in
          let e : c.if-bit.row ≡ sofar + 0 = omega (arith, w.row-is) in
          subst (λ r. RowSoFar bits r (place + 1)) (sym e) (one_more bits sofar place false front c.loop-place.invariant)
    ]
