use Rattle.std.proofs.Common.{sym, ◌∙◌, ◌≡◌, ◌-◌, ap, ℕ, arith, pos, slice_index_or, rules}
use Rattle.eco_match.specs.Work.{natural, price_at}
use Rattle.eco_match.proofs.Numbers.{price_at-gate, price_at-zero}
use Rattle.eco_match.proofs.work.price_of.Goals as goal

pub returns-then-place-eq0 : goal.returns-then-place-eq0
returns-then-place-eq0 c = sym (ap (λ (i : ℕ). price_at c.args.out.now i) c.if-place-eq0.true ∙ price_at-zero c.args.out.now)

pub returns-else-place-eq0 : goal.returns-else-place-eq0
returns-else-place-eq0 c =
    let e : c.natural_of.result ≡ natural (slice_index_or c.args.out.now.price (c.args.place - 1) (pos 0)) = search rules in
    e ∙ sym (price_at-gate c.args.out.now c.args.place (omega arith))
