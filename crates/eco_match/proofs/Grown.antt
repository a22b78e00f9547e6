use Rattle.std.proofs.Common.{ℕ, ◌+◌, ◌-◌, ◌*◌, ◌^◌, ◌≤◌, ◌<◌, ◌≡◌, inl, inr, List, ◌++◌, length, take, drop, slice_index, slice_set, Option, Some, IsSome, Bool, refl, sym, ap, ◌∙◌, arith, subst, if◌then◌else◌, length-append, length-drop}
use Rattle.std.proofs.Math.ListN.{length-set}
use Rattle.std.proofs.lemmas.List.{length-take-le, get_or-take, get_or-set_same, get_or-set_other}
use Rattle.eco_bench.specs.Region.{Area, with_words, ChangesOnly}
use Rattle.eco_match.specs.declared.pairs.Rows.{Rows}
use Rattle.eco_match.specs.Rows.{AreRows, AreParts, rows_words, work_len, row_bounds, columns_of, starts_of, ends_of, row_spares, costs_of, rows_cost, parts_cost, PairWritten, ComesNext, wider, with_pair}
use Rattle.eco_match.proofs.Find.{row-pair}
use Rattle.eco_bench.proofs.Apart.{within-of, carved-written}
use Rattle.eco_bench.proofs.Writing.{take-front, drop-front}
use Rattle.eco_match.proofs.Kept.{part-len, Written}
use Rattle.eco_match.proofs.Begun.{Over, rows-written, length-written, only-written}
use Rattle.eco_match.proofs.Added.{Added, grew-added, cost-added, equal-true, equal-false}
use Rattle.eco_match.proofs.Order.{split}

pub record Step (r : Rows) (gate spare cost : ℕ) (head columns head' columns' : List ℕ) : Type 0 where
  pub parts : AreParts r head columns
  pub gate_in : gate < r.gates
  pub spare_in : spare < r.spares
  pub room : r.filled < r.pairs
  pub small : cost < 2 ^ 59
  pub next : ComesNext r.gates (parts_cost r head columns) gate spare
  pub written : PairWritten r (gate + 1) spare cost head columns head' columns'
  pub head_len : length head' ≡ length head
  pub columns_len : length columns' ≡ length columns

some-of : (o : Option ℕ) (c : ℕ) → o ≡ Some c → IsSome o
some-of o c e = rw e refl

-- a pair that stands is a candidate
stands-at : (r : Rows) (gate spare cost : ℕ) (head columns head' columns' : List ℕ) → Step r gate spare cost head columns head' columns' → (g j : ℕ) → (slice_index (starts_of r head) (g + 1) ≤ j) × (j < slice_index (ends_of r head) (g + 1)) → IsSome (parts_cost r head columns g (slice_index (row_spares r columns) j))
stands-at r gate spare cost head columns head' columns' w g j row = some-of (parts_cost r head columns g (slice_index (row_spares r columns) j)) (slice_index (costs_of r columns) j) (row-pair (starts_of r head) (ends_of r head) (row_spares r columns) (costs_of r columns) g j w.parts.rising row)

ends-len : (r : Rows) (gate spare cost : ℕ) (head columns head' columns' : List ℕ) → Step r gate spare cost head columns head' columns' → length (ends_of r head) ≡ r.gates + 1
ends-len r gate spare cost head columns head' columns' w = (let a = length-drop (r.gates + 1) head in omega (arith, a, w.parts.head_len))

starts-len : (r : Rows) (gate spare cost : ℕ) (head columns head' columns' : List ℕ) → Step r gate spare cost head columns head' columns' → length (starts_of r head) ≡ r.gates + 1
starts-len r gate spare cost head columns head' columns' w = length-take-le (r.gates + 1) head (omega (arith, w.parts.head_len))

later-none : (r : Rows) (gate spare cost : ℕ) (head columns head' columns' : List ℕ) → Step r gate spare cost head columns head' columns' → (h : ℕ) → gate + 1 < h → h ≤ r.gates → slice_index (ends_of r head) h ≡ 0
later-none r gate spare cost head columns head' columns' w h more less =
    elim (w.parts.packed h less) [
      | inl z ↦ z
      | inr q ↦ absurd (
          let g = h - 1 in
          let e : h ≡ g + 1 = omega (arith, more) in
          let a = ap (λ (k : ℕ). slice_index (starts_of r head) k) e in
          let b = ap (λ (k : ℕ). slice_index (ends_of r head) k) e in
          let j = slice_index (starts_of r head) (g + 1) in
          let some = stands-at r gate spare cost head columns head' columns' w g j (omega arith, omega (arith, a, b, q)) in
          elim (w.next g (slice_index (row_spares r columns) j) (omega (arith, more, less)) some) [
            | inl early ↦ omega (arith, early, more)
            | inr here ↦ omega (arith, here.0, more)
          ])
    ]

rises-here : (r : Rows) (gate spare cost : ℕ) (head columns head' columns' : List ℕ) → Step r gate spare cost head columns head' columns' → (j : ℕ) → slice_index (starts_of r head) (gate + 1) ≤ j → j < slice_index (ends_of r head) (gate + 1) → slice_index (row_spares r columns) j < spare
rises-here r gate spare cost head columns head' columns' w j low high =
    elim (w.next gate (slice_index (row_spares r columns) j) w.gate_in (stands-at r gate spare cost head columns head' columns' w gate j (low, high))) [
      | inl early ↦ absurd (omega (arith, early))
      | inr here ↦ here.1
    ]

start-first : (r : Rows) (gate spare cost : ℕ) (head columns head' columns' : List ℕ) → Step r gate spare cost head columns head' columns' → slice_index (ends_of r head) (gate + 1) ≡ 0 → starts_of r head' ≡ slice_set (starts_of r head) (gate + 1) r.filled
start-first r gate spare cost head columns head' columns' w z = w.written.starts ∙ ap (λ (b : Bool). if b then slice_set (starts_of r head) (gate + 1) r.filled else starts_of r head) (equal-true (slice_index (ends_of r head) (gate + 1)) 0 z)

start-more : (r : Rows) (gate spare cost : ℕ) (head columns head' columns' : List ℕ) → Step r gate spare cost head columns head' columns' → 0 < slice_index (ends_of r head) (gate + 1) → starts_of r head' ≡ starts_of r head
start-more r gate spare cost head columns head' columns' w p = w.written.starts ∙ ap (λ (b : Bool). if b then slice_set (starts_of r head) (gate + 1) r.filled else starts_of r head) (equal-false (slice_index (ends_of r head) (gate + 1)) 0 (omega (arith, p)))

spare-there : (r : Rows) (gate spare cost : ℕ) (head columns head' columns' : List ℕ) → Step r gate spare cost head columns head' columns' → (j : ℕ) → j ≤ r.filled → slice_index (row_spares (wider r) columns') j ≡ slice_index (slice_set (take r.pairs columns) r.filled spare) j
spare-there r gate spare cost head columns head' columns' w j less =
    get_or-take (r.filled + 1) columns' j 0 (omega (arith, less)) ∙ sym (get_or-take r.pairs columns' j 0 (omega (arith, less, w.room))) ∙ ap (λ (xs : List ℕ). slice_index xs j) w.written.spares

cost-there : (r : Rows) (gate spare cost : ℕ) (head columns head' columns' : List ℕ) → Step r gate spare cost head columns head' columns' → (j : ℕ) → j ≤ r.filled → slice_index (costs_of (wider r) columns') j ≡ slice_index (slice_set (drop r.pairs columns) r.filled cost) j
cost-there r gate spare cost head columns head' columns' w j less =
    get_or-take (r.filled + 1) (drop r.pairs columns') j 0 (omega (arith, less)) ∙ ap (λ (xs : List ℕ). slice_index xs j) w.written.costs

added-of : (r : Rows) (gate spare cost : ℕ) (head columns head' columns' : List ℕ) → Step r gate spare cost head columns head' columns' → Added r.gates r.filled r.spares (gate + 1) spare cost (starts_of r head) (ends_of r head) (row_spares r columns) (costs_of r columns) (starts_of r head') (ends_of r head') (row_spares (wider r) columns') (costs_of (wider r) columns')
added-of r gate spare cost head columns head' columns' w =
    let en-len = ends-len r gate spare cost head columns head' columns' w in
    let st-len = starts-len r gate spare cost head columns head' columns' w in
    let dropped = length-drop r.pairs columns in
    let dropped' = length-drop r.pairs columns' in
    let taken = length-take-le r.pairs columns (omega (arith, w.parts.columns_len)) in
    record {
      good = w.parts.good;
      rising = w.parts.rising;
      packed = w.parts.packed;
      last = w.parts.last;
      rows_len = en-len;
      filled_is = length-take-le r.filled columns (omega (arith, w.parts.columns_len, w.parts.filled));
      place_in = omega (arith, w.gate_in);
      later = later-none r gate spare cost head columns head' columns' w;
      rises = rises-here r gate spare cost head columns head' columns' w;
      spare_below = w.spare_in;
      cost_small = w.small;
      st_len = length-take-le (r.gates + 1) head' (omega (arith, w.head_len, w.parts.head_len)) ∙ sym st-len;
      en_len = ap (λ (xs : List ℕ). length xs) w.written.ends ∙ length-set (ends_of r head) (gate + 1) (r.filled + 1);
      sp_len = length-take-le (r.filled + 1) columns' (omega (arith, w.columns_len, w.parts.columns_len, w.room));
      co_len = length-take-le (r.filled + 1) (drop r.pairs columns') (omega (arith, dropped', w.columns_len, w.parts.columns_len, w.room));
      st_first = λ z. ap (λ (xs : List ℕ). slice_index xs (gate + 1)) (start-first r gate spare cost head columns head' columns' w z) ∙ get_or-set_same (starts_of r head) (gate + 1) r.filled 0 (omega (arith, st-len, w.gate_in));
      st_more = λ p. ap (λ (xs : List ℕ). slice_index xs (gate + 1)) (start-more r gate spare cost head columns head' columns' w p);
      st_other = λ k ne. elim (split (slice_index (ends_of r head) (gate + 1))) [
        | inl z ↦ ap (λ (xs : List ℕ). slice_index xs k) (start-first r gate spare cost head columns head' columns' w z) ∙ get_or-set_other (starts_of r head) (gate + 1) k r.filled 0 ne
        | inr p ↦ ap (λ (xs : List ℕ). slice_index xs k) (start-more r gate spare cost head columns head' columns' w p)
      ];
      en_here = ap (λ (xs : List ℕ). slice_index xs (gate + 1)) w.written.ends ∙ get_or-set_same (ends_of r head) (gate + 1) (r.filled + 1) 0 (omega (arith, en-len, w.gate_in));
      en_other = λ k ne. ap (λ (xs : List ℕ). slice_index xs k) w.written.ends ∙ get_or-set_other (ends_of r head) (gate + 1) k (r.filled + 1) 0 ne;
      sp_old = λ j less. spare-there r gate spare cost head columns head' columns' w j (omega (arith, less)) ∙ get_or-set_other (take r.pairs columns) r.filled j spare 0 (omega (arith, less)) ∙ get_or-take r.pairs columns j 0 (omega (arith, less, w.room)) ∙ sym (get_or-take r.filled columns j 0 less);
      co_old = λ j less. cost-there r gate spare cost head columns head' columns' w j (omega (arith, less)) ∙ get_or-set_other (drop r.pairs columns) r.filled j cost 0 (omega (arith, less)) ∙ sym (get_or-take r.filled (drop r.pairs columns) j 0 less);
      sp_new = spare-there r gate spare cost head columns head' columns' w r.filled (omega arith) ∙ get_or-set_same (take r.pairs columns) r.filled spare 0 (omega (arith, taken, w.room));
      co_new = cost-there r gate spare cost head columns head' columns' w r.filled (omega arith) ∙ get_or-set_same (drop r.pairs columns) r.filled cost 0 (omega (arith, dropped, w.room, w.parts.columns_len));
    }

pub parts-added : (r : Rows) (gate spare cost : ℕ) (head columns head' columns' : List ℕ) → Step r gate spare cost head columns head' columns' → AreParts (wider r) head' columns'
parts-added r gate spare cost head columns head' columns' w =
    let added = grew-added r.gates r.filled r.spares (gate + 1) spare cost (starts_of r head) (ends_of r head) (row_spares r columns) (costs_of r columns) (starts_of r head') (ends_of r head') (row_spares (wider r) columns') (costs_of (wider r) columns') (added-of r gate spare cost head columns head' columns' w) in
    record {
      gates = w.parts.gates;
      filled = omega (arith, w.room);
      head_len = w.head_len ∙ w.parts.head_len;
      columns_len = omega (arith, w.columns_len, w.parts.columns_len);
      good = added.good;
      rising = added.rising;
      packed = added.packed;
      last = added.last;
    }

pub costs-added : (r : Rows) (gate spare cost : ℕ) (head columns head' columns' : List ℕ) → Step r gate spare cost head columns head' columns' → (g s : ℕ) → g < r.gates → parts_cost (wider r) head' columns' g s ≡ with_pair (parts_cost r head columns) gate spare cost g s
costs-added r gate spare cost head columns head' columns' w g s less =
    cost-added r.gates r.filled r.spares (gate + 1) spare cost (starts_of r head) (ends_of r head) (row_spares r columns) (costs_of r columns) (starts_of r head') (ends_of r head') (row_spares (wider r) columns') (costs_of (wider r) columns') (added-of r gate spare cost head columns head' columns' w) gate g s refl less

-- the region after a pair more
pub record Wrote (area : Area) (r : Rows) (gate spare cost : ℕ) (work head' columns' : List ℕ) : Type 0 where
  pub rows : AreRows area r
  pub work_is : length work ≡ work_len r
  pub step : Step r gate spare cost (row_bounds r (rows_words area r)) (columns_of r (rows_words area r)) head' columns'
  pub size : length (head' ++ (work ++ columns')) ≡ r.span.len

over-of : (area : Area) (r : Rows) (gate spare cost : ℕ) (work head' columns' : List ℕ) → Wrote area r gate spare cost work head' columns' → Over area r (head' ++ (work ++ columns'))
over-of area r gate spare cost work head' columns' w = record { stands = within-of area r.span w.rows.carved w.rows.stands; fits = w.rows.carved.fits; size = w.size }

head-read : (area : Area) (r : Rows) (gate spare cost : ℕ) (work head' columns' : List ℕ) → Wrote area r gate spare cost work head' columns' → row_bounds r (rows_words (with_words area r.span.start (head' ++ (work ++ columns'))) r) ≡ head'
head-read area r gate spare cost work head' columns' w =
    ap (λ (xs : List ℕ). row_bounds r xs) (rows-written area r (head' ++ (work ++ columns')) (over-of area r gate spare cost work head' columns' w))
    ∙ take-front (2 * (r.gates + 1)) head' (work ++ columns') (sym (w.step.head_len ∙ w.rows.parts.head_len))

columns-read : (area : Area) (r : Rows) (gate spare cost : ℕ) (work head' columns' : List ℕ) → Wrote area r gate spare cost work head' columns' → columns_of r (rows_words (with_words area r.span.start (head' ++ (work ++ columns'))) r) ≡ columns'
columns-read area r gate spare cost work head' columns' w =
    ap (λ (xs : List ℕ). columns_of r xs) (rows-written area r (head' ++ (work ++ columns')) (over-of area r gate spare cost work head' columns' w))
    ∙ ap (λ (xs : List ℕ). drop (work_len r) xs) (drop-front (2 * (r.gates + 1)) head' (work ++ columns') (sym (w.step.head_len ∙ w.rows.parts.head_len)))
    ∙ drop-front (work_len r) work columns' (sym w.work_is)

pub rows-added : (area : Area) (r : Rows) (gate spare cost : ℕ) (work head' columns' : List ℕ) → Wrote area r gate spare cost work head' columns' → AreRows (with_words area r.span.start (head' ++ (work ++ columns'))) (wider r)
rows-added area r gate spare cost work head' columns' w =
    record {
      stands = w.rows.stands;
      carved = carved-written area r.span.start (head' ++ (work ++ columns')) (length-written area r (head' ++ (work ++ columns')) (over-of area r gate spare cost work head' columns' w)) w.rows.carved;
      few = w.rows.few;
      size = w.rows.size;
      parts = rw (head-read area r gate spare cost work head' columns' w, columns-read area r gate spare cost work head' columns' w)
          (parts-added r gate spare cost (row_bounds r (rows_words area r)) (columns_of r (rows_words area r)) head' columns' w.step);
    }

pub rows-cost-added : (area : Area) (r : Rows) (gate spare cost : ℕ) (work head' columns' : List ℕ) → Wrote area r gate spare cost work head' columns' → (g s : ℕ) → g < r.gates → rows_cost (with_words area r.span.start (head' ++ (work ++ columns'))) (wider r) g s ≡ with_pair (rows_cost area r) gate spare cost g s
rows-cost-added area r gate spare cost work head' columns' w g s less =
    ap (λ (xs : List ℕ). parts_cost (wider r) xs (columns_of r (rows_words (with_words area r.span.start (head' ++ (work ++ columns'))) r)) g s) (head-read area r gate spare cost work head' columns' w)
    ∙ ap (λ (xs : List ℕ). parts_cost (wider r) head' xs g s) (columns-read area r gate spare cost work head' columns' w)
    ∙ costs-added r gate spare cost (row_bounds r (rows_words area r)) (columns_of r (rows_words area r)) head' columns' w.step g s less

-- what the code of `add` knows when it is done
pub record Code (area : Area) (r : Rows) (gate spare cost : ℕ) (head columns work head' columns' : List ℕ) : Type 0 where
  pub rows : AreRows area r
  pub gate_in : gate < r.gates
  pub spare_in : spare < r.spares
  pub room : r.filled < r.pairs
  pub small : cost < 2 ^ 59
  pub next : ComesNext r.gates (rows_cost area r) gate spare
  pub head_is : head ≡ row_bounds r (rows_words area r)
  pub columns_is : columns ≡ columns_of r (rows_words area r)
  pub work_is : length work ≡ work_len r
  pub written : PairWritten r (gate + 1) spare cost head columns head' columns'
  pub head_len : length head' ≡ length head
  pub columns_len : length columns' ≡ length columns

pub wrote : (area : Area) (r : Rows) (gate spare cost : ℕ) (head columns work head' columns' : List ℕ) → Code area r gate spare cost head columns work head' columns' → Wrote area r gate spare cost work head' columns'
wrote area r gate spare cost head columns work head' columns' w =
    let old : Written area r head work columns = record { stands = within-of area r.span w.rows.carved w.rows.stands; fits = w.rows.carved.fits; size = omega (arith, w.rows.size); head_is = w.head_is; columns_is = w.columns_is; work_is = w.work_is } in
    let len = part-len area r head work columns old in
    let a = length-append head (work ++ columns) in
    let b = length-append work columns in
    let c = length-append head' (work ++ columns') in
    let d = length-append work columns' in
    record {
      rows = w.rows;
      work_is = w.work_is;
      size = omega (arith, len, a, b, c, d, w.head_len, w.columns_len);
      step = record {
        parts = w.rows.parts;
        gate_in = w.gate_in;
        spare_in = w.spare_in;
        room = w.room;
        small = w.small;
        next = w.next;
        written = subst (λ (xs : List ℕ). PairWritten r (gate + 1) spare cost xs (columns_of r (rows_words area r)) head' columns') w.head_is
            (subst (λ (xs : List ℕ). PairWritten r (gate + 1) spare cost head xs head' columns') w.columns_is w.written);
        head_len = w.head_len ∙ ap (λ (xs : List ℕ). length xs) w.head_is;
        columns_len = w.columns_len ∙ ap (λ (xs : List ℕ). length xs) w.columns_is;
      };
    }

pub only-wrote : (area : Area) (r : Rows) (gate spare cost : ℕ) (work head' columns' : List ℕ) → Wrote area r gate spare cost work head' columns' → ChangesOnly area (with_words area r.span.start (head' ++ (work ++ columns'))) r.span
only-wrote area r gate spare cost work head' columns' w = only-written area r (head' ++ (work ++ columns')) (over-of area r gate spare cost work head' columns' w)
