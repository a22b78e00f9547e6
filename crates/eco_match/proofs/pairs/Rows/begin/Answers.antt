use Rattle.std.proofs.Common.{arith, length, refl, ap, List, ℕ, ◌≡◌, ◌∙◌, ◌+◌, subst, sym}
use Rattle.std.specs.Prelude.{slice_range}
use Rattle.std.specs.List.{Contains}
use Rattle.eco_bench.specs.declared.span.Span.{Span}
use Rattle.eco_bench.specs.Region.{IsStanding}
use Rattle.eco_bench.proofs.Apart.{apart-swap, within-of}
use Rattle.eco_match.specs.declared.pairs.Rows.{Rows}
use Rattle.eco_match.proofs.Begun.{Over, Empty, rows-begun, cost-begun, only-written}
use Rattle.eco_match.proofs.Kept.{words-len}
use Rattle.eco_match.proofs.pairs.Rows.begin.Goals as goal

pub returns : goal.returns
returns c =
    let r : Rows = record { span = c.carve-span.result; gates = c.args.gates; spares = c.args.spares; pairs = c.args.pairs; filled = 0 } in
    let area = c.carve-span.new.self in
    let words = c.clear.new.words in
    let stands : IsStanding area r.span = subst (λ (spans : List Span). Contains spans r.span) (sym c.carve-span.ensures.standing) (0, omega arith, refl) in
    let within = within-of area r.span c.carve-span.ensures.carved stands in
    let len : length words ≡ c.carve-span.result.len =
    (let a = words-len area r within c.carve-span.ensures.carved.fits in let b = ap (λ (xs : List ℕ). length xs) c.words_mut.ensures.value in omega (arith, a, b, c.clear.auto.words)) in
    let over : Over area r words = record { stands = within; fits = c.carve-span.ensures.carved.fits; size = len } in
    let empty : Empty r words = record { gates = omega arith; filled = refl; size = omega (arith, len); zeros = c.clear.ensures } in
    let only = only-written area r words over in
    record {
      sizes = (refl, refl, refl, refl);
      rows = rows-begun area r words (omega (arith, c.ranges.spares)) over empty stands c.carve-span.ensures.carved;
      empty = cost-begun area r words over empty;
      span = (c.carve-span.ensures.span.0, c.carve-span.ensures.span.1 ∙ c.bench_need.ensures);
      standing = c.carve-span.ensures.standing;
      used = omega (arith, c.carve-span.ensures.used, c.bench_need.ensures);
      size = omega (arith, only.size, ap (λ (ws : List ℕ). length ws) c.carve-span.ensures.words);
      kept = λ other stood. only.apart other (apart-swap other c.carve-span.result (c.carve-span.ensures.apart other stood)) ∙ ap (λ (ws : List ℕ). slice_range ws other.start (other.start + other.len)) c.carve-span.ensures.words;
    }
