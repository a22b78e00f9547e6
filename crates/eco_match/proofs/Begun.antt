use Rattle.std.proofs.Common.{ℕ, ◌+◌, ◌-◌, ◌*◌, ◌^◌, ◌≤◌, ◌<◌, ◌≡◌, inl, inr, List, length, drop, slice_index, None, sym, ap, ◌∙◌, arith, subst, length-drop}
use Rattle.std.proofs.lemmas.List.{length-take-le, get_or-take, get_or-drop, get_or_past}
use Rattle.eco_bench.specs.Region.{Area, IsCarved, IsStanding, IsWithin, overwritten, with_words, ChangesOnly}
use Rattle.eco_bench.proofs.Apart.{carved-written}
use Rattle.eco_bench.proofs.Writing.{length-overwritten, words_of-written, written-only}
use Rattle.eco_match.specs.declared.pairs.Rows.{Rows}
use Rattle.eco_match.specs.Rows.{AreRows, AreParts, rows_words, work_len, row_bounds, columns_of, starts_of, ends_of, row_spares, costs_of, rows_cost, parts_cost}
use Rattle.eco_match.specs.Table.{find_cost}
use Rattle.eco_match.proofs.Order.{split}

pub record Over (area : Area) (r : Rows) (part : List ℕ) : Type 0 where
  pub stands : IsWithin area r.span
  pub fits : area.used ≤ length area.words
  pub size : length part ≡ r.span.len

-- the span reads as what was written over it
pub rows-written : (area : Area) (r : Rows) (part : List ℕ) → Over area r part → rows_words (with_words area r.span.start part) r ≡ part
rows-written area r part w = words_of-written area r.span part w.stands w.fits w.size

pub length-written : (area : Area) (r : Rows) (part : List ℕ) → Over area r part → length (overwritten area.words r.span.start part) ≡ length area.words
length-written area r part w = length-overwritten area.words part r.span.start (omega (arith, w.stands, w.fits, w.size))

pub only-written : (area : Area) (r : Rows) (part : List ℕ) → Over area r part → ChangesOnly area (with_words area r.span.start part) r.span
only-written area r part w = written-only area r.span part w.stands w.fits w.size

-- rows with no pair
pub record Empty (r : Rows) (words : List ℕ) : Type 0 where
  pub gates : r.gates < 129
  pub filled : r.filled ≡ 0
  pub size : 2 * (r.gates + 1) + work_len r + 2 * r.pairs ≤ length words
  pub zeros : (k : ℕ) → k < 2 * (r.gates + 1) → slice_index words k ≡ 0

head-length : (r : Rows) (words : List ℕ) → Empty r words → length (row_bounds r words) ≡ 2 * (r.gates + 1)
head-length r words w = length-take-le (2 * (r.gates + 1)) words (omega (arith, w.size))

ends-zero : (r : Rows) (words : List ℕ) → Empty r words → (g : ℕ) → slice_index (ends_of r (row_bounds r words)) g ≡ 0
ends-zero r words w g =
    elim (split (r.gates + 1 - g)) [
      | inl past ↦ get_or_past (ends_of r (row_bounds r words)) g 0 (let a = length-drop (r.gates + 1) (row_bounds r words) in let b = head-length r words w in omega (arith, a, b, past))
      | inr inside ↦ get_or-drop (r.gates + 1) (row_bounds r words) g 0 ∙ get_or-take (2 * (r.gates + 1)) words (r.gates + 1 + g) 0 (omega (arith, inside)) ∙ w.zeros (r.gates + 1 + g) (omega (arith, inside))
    ]

spares-none : (r : Rows) (words : List ℕ) → Empty r words → (j : ℕ) → j < length (row_spares r (columns_of r words)) → ⊥
spares-none r words w j less =
    let e : length (row_spares r (columns_of r words)) ≡ 0 = length-take-le r.filled (columns_of r words) (omega (arith, w.filled)) ∙ w.filled in
    omega (arith, e, less)

pub parts-empty : (r : Rows) (words : List ℕ) → Empty r words → AreParts r (row_bounds r words) (columns_of r words)
parts-empty r words w =
    let head = head-length r words w in
    let a = length-drop (work_len r) (drop (2 * (r.gates + 1)) words) in
    let b = length-drop (2 * (r.gates + 1)) words in
    let c = length-drop (r.gates + 1) (row_bounds r words) in
    let d = length-take-le (r.gates + 1) (row_bounds r words) (omega (arith, head)) in
    let e = length-take-le r.filled (columns_of r words) (omega (arith, w.filled)) in
    let f = length-take-le r.filled (drop r.pairs (columns_of r words)) (omega (arith, w.filled)) in
    record {
      gates = w.gates;
      filled = omega (arith, w.filled);
      head_len = head;
      columns_len = omega (arith, a, b, w.size);
      good = record {
        ends_len = omega (arith, c, d, head);
        costs_len = omega (arith, e, f);
        rows = λ g less. (let z = ends-zero r words w g in omega (arith, z));
        below = λ j less. absurd (spares-none r words w j less);
        small = λ j less. absurd (spares-none r words w j less);
      };
      rising = λ g i j row other less. absurd (let z = ends-zero r words w g in omega (arith, z, row.1));
      packed = λ g less. inl (ends-zero r words w g);
      last = λ g less others. inl (ends-zero r words w g);
    }

cost-none : (r : Rows) (words : List ℕ) → Empty r words → (g s : ℕ) → parts_cost r (row_bounds r words) (columns_of r words) g s ≡ None
cost-none r words w g s =
    let head = row_bounds r words in
    let columns = columns_of r words in
    let z = ends-zero r words w (g + 1) in
    let n : slice_index (ends_of r head) (g + 1) - slice_index (starts_of r head) (g + 1) ≡ 0 = omega (arith, z) in
    ap (λ (k : ℕ). find_cost (row_spares r columns) (costs_of r columns) s (slice_index (starts_of r head) (g + 1)) k) n

pub rows-begun : (area : Area) (r : Rows) (part : List ℕ) → r.spares < 2 ^ 32 → Over area r part → Empty r part → IsStanding area r.span → IsCarved area → AreRows (with_words area r.span.start part) r
rows-begun area r part few over empty stands carved =
    let e = rows-written area r part over in
    record {
      stands = stands;
      carved = carved-written area r.span.start part (length-written area r part over) carved;
      few = few;
      size = omega (arith, empty.size, over.size);
      parts = subst (λ (words : List ℕ). AreParts r (row_bounds r words) (columns_of r words)) (sym e) (parts-empty r part empty);
    }

pub cost-begun : (area : Area) (r : Rows) (part : List ℕ) → Over area r part → Empty r part → (g s : ℕ) → rows_cost (with_words area r.span.start part) r g s ≡ None
cost-begun area r part over empty g s =
    subst (λ (words : List ℕ). parts_cost r (row_bounds r words) (columns_of r words) g s ≡ None) (sym (rows-written area r part over)) (cost-none r part empty g s)
