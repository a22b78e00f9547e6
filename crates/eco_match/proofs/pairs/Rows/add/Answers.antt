use Rattle.std.proofs.Common.{arith, ap, ◌∙◌, List, ℕ, drop, refl}
use Rattle.eco_match.specs.Rows.{row_bounds, columns_of, work_len}
use Rattle.eco_match.proofs.Grown.{wrote, Wrote, rows-added, rows-cost-added, only-wrote}
use Rattle.eco_match.proofs.pairs.Rows.add.Goals as goal

pub returns : goal.returns
returns c =
    let r = c.args.self.now in
    let area = c.args.bench.now in
    let gate = c.args.gate in
    let spare = c.args.spare in
    let cost = c.args.cost in
    let h = c.split_at_mut-head in
    let o = c.split_at_mut-columns in
    let v = c.words_mut-words.ensures.value in
    let work = o.result.0.now in
    let head = c.write_pair.new.head in
    let columns = c.write_pair.new.columns in
    let w : Wrote area r gate spare cost work head columns =
    wrote area r gate spare cost h.result.0.now o.result.1.now work head columns
    (record {
      rows = c.requires.rows;
      gate_in = c.requires.gate;
      spare_in = c.requires.spare;
      room = c.requires.room;
      small = omega (arith, c.requires.cost);
      next = c.requires.next;
      head_is = h.ensures.front ∙ ap (λ (xs : List ℕ). row_bounds r xs) v;
      columns_is = o.ensures.back ∙ ap (λ (n : ℕ). drop n h.result.1.now) c.work_words.ensures ∙ ap (λ (xs : List ℕ). drop (work_len r) xs) h.ensures.back ∙ ap (λ (xs : List ℕ). columns_of r xs) v;
      work_is = omega (arith, o.ensures.front_len, c.work_words.ensures);
      written = c.write_pair.ensures;
      head_len = c.write_pair.auto.head;
      columns_len = c.write_pair.auto.columns;
    }) in
    record {
      shape = refl;
      rows = rows-added area r gate spare cost work head columns w;
      added = rows-cost-added area r gate spare cost work head columns w;
      kept = only-wrote area r gate spare cost work head columns w;
    }
