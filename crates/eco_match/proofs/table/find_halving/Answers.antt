use Rattle.std.proofs.Common.{◌+◌, ◌-◌, ◌/◌, ◌≤◌, ◌<◌, sym, arith, inl, inr}
use Rattle.eco_match.proofs.Find.{find-only, find-none}
use Rattle.eco_match.proofs.table.find_halving.Goals as goal
use Rattle.eco_match.proofs.Order.{split, below, same, above, compare'}

pub returns-then-spares-middle : goal.returns-then-spares-middle
returns-then-spares-middle c =
    let start = c.args.start in
    let middle = c.halves.low + (c.halves.high - c.halves.low) / 2 in
    let first : start ≤ middle = omega arith in
    let last : middle < c.args.end = omega arith in
    sym (find-only c.args.spares.now c.args.costs.now c.args.spare start (c.args.end - start) middle first (omega arith) c.if-spares-middle.true
    (λ i low high e. elim (compare' i middle) [
      | below b ↦ absurd (let r = c.requires.rising i middle low b last in omega (arith, r, e, c.if-spares-middle.true))
      | same q ↦ q
      | above b ↦ absurd (let r = c.requires.rising middle i first b (omega (arith, high, first, last)) in omega (arith, r, e, c.if-spares-middle.true))
    ]))

pub returns : goal.returns
returns c =
    sym (find-none c.args.spares.now c.args.costs.now c.args.spare c.args.start (c.args.end - c.args.start)
    (λ j low high e. elim (split (c.halves.low - j)) [
      | inl z ↦ (let r = c.halves.invariant.after j (omega arith) (omega arith) in omega (arith, r, e))
      | inr p ↦ (let r = c.halves.invariant.before j low (omega arith) in omega (arith, r, e))
    ]))
