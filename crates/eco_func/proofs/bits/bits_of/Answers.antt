use Rattle.std.proofs.Common.{arith, subst, sym, ◌≡◌, ◌+◌, ◌^◌, ◌<◌}
use Rattle.std.proofs.lemmas.Nat.{one_shl}
use Rattle.eco_func.proofs.BitText.{Read, at_place, read_zero, read_one}
use Rattle.eco_func.proofs.bits.bits_of.Goals.{in-48, in-49}
use Rattle.eco_func.proofs.bits.bits_of.Goals as goal

pub loop-place-preserved : goal.loop-place-preserved
loop-place-preserved c =
    let text = c.args.text.now in
    let place = c.loop-place.place in
    elim c.match-byte.branch [
      | in-48 w ↦
          subst (λ b. Read text b (place + 1)) (sym w.bits-is)
          (read_zero text c.loop-place.bits place (at_place text place 48 c.loop-place-test.true w.in-48.is) c.loop-place.invariant)
      | in-49 w ↦
          let small : place < 64 = omega arith in
          let e : c.match-byte.bits ≡ c.loop-place.bits + 2 ^ place = omega (arith, w.bits-is, one_shl place 64 small) in
          subst (λ b. Read text b (place + 1)) (sym e)
          (read_one text c.loop-place.bits place (at_place text place 49 c.loop-place-test.true w.in-49.is) c.loop-place.invariant)
    ]
