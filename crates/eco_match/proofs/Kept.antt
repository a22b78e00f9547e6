use Rattle.std.proofs.Common.{ℕ, ◌+◌, ◌-◌, ◌*◌, ◌≤◌, ◌≡◌, List, ◌++◌, length, drop, sym, ap, ◌∙◌, arith, length-append, length-drop}
use Rattle.std.proofs.lemmas.List.{length-take-le}
use Rattle.eco_bench.specs.Region.{Area, IsCarved, IsStanding, IsWithin, with_words, ChangesOnly, words_of}
use Rattle.eco_bench.proofs.Apart.{carved-written}
use Rattle.eco_bench.proofs.Writing.{take-front, drop-front, length-overwritten, words_of-written, written-only}
use Rattle.eco_match.specs.declared.pairs.Rows.{Rows}
use Rattle.eco_match.specs.Rows.{AreRows, rows_words, row_bounds, columns_of, work_len, rows_cost, parts_cost}

-- the words of the rows, with others in the place of the work
pub record Written (area : Area) (r : Rows) (head work columns : List ℕ) : Type 0 where
  pub stands : IsWithin area r.span
  pub fits : area.used ≤ length area.words
  pub size : 2 * (r.gates + 1) + work_len r ≤ r.span.len
  pub head_is : head ≡ row_bounds r (rows_words area r)
  pub columns_is : columns ≡ columns_of r (rows_words area r)
  pub work_is : length work ≡ work_len r

pub words-len : (area : Area) (r : Rows) → IsWithin area r.span → area.used ≤ length area.words → length (rows_words area r) ≡ r.span.len
words-len area r stands fits =
    let a = length-drop r.span.start area.words in
    let b = length-take-le (r.span.start + r.span.len - r.span.start) (drop r.span.start area.words) (omega (arith, a, stands, fits)) in
    omega (arith, b)

pub part-len : (area : Area) (r : Rows) (head work columns : List ℕ) → Written area r head work columns → length (head ++ (work ++ columns)) ≡ r.span.len
part-len area r head work columns w =
    let words = rows_words area r in
    let len = words-len area r w.stands w.fits in
    let a = ap (λ (xs : List ℕ). length xs) w.head_is in
    let b = length-take-le (2 * (r.gates + 1)) words (omega (arith, len, w.size)) in
    let c = ap (λ (xs : List ℕ). length xs) w.columns_is in
    let d = length-drop (work_len r) (drop (2 * (r.gates + 1)) words) in
    let e = length-drop (2 * (r.gates + 1)) words in
    let f = length-append work columns in
    let g = length-append head (work ++ columns) in
    omega (arith, len, a, b, c, d, e, f, g, w.work_is, w.size)

head-len : (area : Area) (r : Rows) (head work columns : List ℕ) → Written area r head work columns → length head ≡ 2 * (r.gates + 1)
head-len area r head work columns w =
    let len = words-len area r w.stands w.fits in
    ap (λ (xs : List ℕ). length xs) w.head_is ∙ length-take-le (2 * (r.gates + 1)) (rows_words area r) (omega (arith, len, w.size))

abbrev pub written : Area → Rows → List ℕ → List ℕ → List ℕ → Area
written area r head work columns = with_words area r.span.start (head ++ (work ++ columns))

new-rows : (area : Area) (r : Rows) (head work columns : List ℕ) → Written area r head work columns → rows_words (written area r head work columns) r ≡ head ++ (work ++ columns)
new-rows area r head work columns w = words_of-written area r.span (head ++ (work ++ columns)) w.stands w.fits (part-len area r head work columns w)

head-kept : (area : Area) (r : Rows) (head work columns : List ℕ) → Written area r head work columns →
    row_bounds r (rows_words (written area r head work columns) r) ≡ row_bounds r (rows_words area r)
head-kept area r head work columns w =
    ap (λ (xs : List ℕ). row_bounds r xs) (new-rows area r head work columns w)
    ∙ take-front (2 * (r.gates + 1)) head (work ++ columns) (sym (head-len area r head work columns w)) ∙ w.head_is

columns-kept : (area : Area) (r : Rows) (head work columns : List ℕ) → Written area r head work columns →
    columns_of r (rows_words (written area r head work columns) r) ≡ columns_of r (rows_words area r)
columns-kept area r head work columns w =
    ap (λ (xs : List ℕ). columns_of r xs) (new-rows area r head work columns w)
    ∙ ap (λ (xs : List ℕ). drop (work_len r) xs) (drop-front (2 * (r.gates + 1)) head (work ++ columns) (sym (head-len area r head work columns w)))
    ∙ drop-front (work_len r) work columns (sym w.work_is) ∙ w.columns_is

-- rows stand as before where their parts do
pub rows-stay : (old new : Area) (r : Rows) → AreRows old r → IsStanding new r.span → IsCarved new →
    row_bounds r (rows_words new r) ≡ row_bounds r (rows_words old r) → columns_of r (rows_words new r) ≡ columns_of r (rows_words old r) → AreRows new r
rows-stay old new r rows stands carved head columns = record {
  stands = stands;
  carved = carved;
  few = rows.few;
  size = rows.size;
  parts = rw (head, columns) rows.parts;
}

-- their costs too
pub costs-stay : (old new : Area) (r : Rows) → row_bounds r (rows_words new r) ≡ row_bounds r (rows_words old r) → columns_of r (rows_words new r) ≡ columns_of r (rows_words old r) →
    rows_cost new r ≡ rows_cost old r
costs-stay old new r head columns =
    ap (λ (xs : List ℕ). parts_cost r xs (columns_of r (rows_words new r))) head ∙ ap (λ (xs : List ℕ). parts_cost r (row_bounds r (rows_words old r)) xs) columns

pub only-work : (area : Area) (r : Rows) (head work columns : List ℕ) → Written area r head work columns → ChangesOnly area (written area r head work columns) r.span
only-work area r head work columns w = written-only area r.span (head ++ (work ++ columns)) w.stands w.fits (part-len area r head work columns w)

pub rows-kept : (area : Area) (r : Rows) (head work columns : List ℕ) → Written area r head work columns → AreRows area r → AreRows (written area r head work columns) r
rows-kept area r head work columns w rows =
    let size = length-overwritten area.words (head ++ (work ++ columns)) r.span.start (let p = part-len area r head work columns w in omega (arith, p, w.stands, w.fits)) in
    rows-stay area (written area r head work columns) r rows rows.stands (carved-written area r.span.start (head ++ (work ++ columns)) size rows.carved) (head-kept area r head work columns w) (columns-kept area r head work columns w)

pub costs-kept : (area : Area) (r : Rows) (head work columns : List ℕ) → Written area r head work columns → rows_cost (written area r head work columns) r ≡ rows_cost area r
costs-kept area r head work columns w = costs-stay area (written area r head work columns) r (head-kept area r head work columns w) (columns-kept area r head work columns w)

-- rows stand, with their costs, where their span holds the same words
pub rows-hold : (old new : Area) (r : Rows) → AreRows old r → IsStanding new r.span → IsCarved new → words_of new r.span ≡ words_of old r.span → AreRows new r
rows-hold old new r rows stands carved words =
    rows-stay old new r rows stands carved (ap (λ (xs : List ℕ). row_bounds r xs) words) (ap (λ (xs : List ℕ). columns_of r xs) words)

pub costs-hold : (old new : Area) (r : Rows) → words_of new r.span ≡ words_of old r.span → rows_cost new r ≡ rows_cost old r
costs-hold old new r words = costs-stay old new r (ap (λ (xs : List ℕ). row_bounds r xs) words) (ap (λ (xs : List ℕ). columns_of r xs) words)

-- the costs of the parts are those of the rows
pub costs-read : (area : Area) (r : Rows) (head work columns : List ℕ) → Written area r head work columns → parts_cost r head columns ≡ rows_cost area r
costs-read area r head work columns w =
    ap (λ (xs : List ℕ). parts_cost r xs columns) w.head_is ∙ ap (λ (xs : List ℕ). parts_cost r (row_bounds r (rows_words area r)) xs) w.columns_is
