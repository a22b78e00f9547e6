use Rattle.std.proofs.Common.{arith, ap, subst, ◌∙◌, List, ℕ, Option, drop}
use Rattle.eco_bench.proofs.Apart.{within-of}
use Rattle.eco_match.specs.MatchOut.{IsAnswer, IsExact}
use Rattle.eco_match.specs.Rows.{row_bounds, columns_of, work_len}
use Rattle.eco_match.proofs.Kept.{Written, only-work, rows-kept, costs-kept, costs-read}
use Rattle.eco_match.proofs.least.match_least.Goals as goal

pub returns : goal.returns
returns c =
    let area = c.args.bench.now in
    let r = c.args.rows.now in
    let h = c.split_at_mut-head in
    let o = c.split_at_mut-work in
    let v = c.words_mut-words.ensures.value in
    let work = c.match_parts.new.work in
    let w : Written area r h.result.0.now work o.result.1.now = record {
      stands = within-of area r.span c.requires.rows.carved c.requires.rows.stands;
      fits = c.requires.rows.carved.fits;
      size = omega (arith, c.requires.rows.size);
      head_is = h.ensures.front ∙ ap (λ (xs : List ℕ). row_bounds r xs) v;
      columns_is = o.ensures.back ∙ ap (λ (n : ℕ). drop n h.result.1.now) c.work_words.ensures ∙ ap (λ (xs : List ℕ). drop (work_len r) xs) h.ensures.back ∙ ap (λ (xs : List ℕ). columns_of r xs) v;
      work_is = omega (arith, o.ensures.front_len, c.work_words.ensures, c.match_parts.auto.work);
    } in
    let read = costs-read area r h.result.0.now work o.result.1.now w in
    let only = only-work area r h.result.0.now work o.result.1.now w in
    record {
      answer = subst (λ (costs : ℕ → ℕ → Option ℕ). IsAnswer r.gates r.spares costs c.match_parts.new.out c.match_parts.result) read c.match_parts.ensures.answer;
      exact = subst (λ (costs : ℕ → ℕ → Option ℕ). IsExact r.gates costs c.match_parts.new.out c.match_parts.result) read c.match_parts.ensures.exact;
      room = omega (arith, only.used, only.size);
      kept = only;
      rows = rows-kept area r h.result.0.now work o.result.1.now w c.requires.rows;
      costs = costs-kept area r h.result.0.now work o.result.1.now w;
    }
