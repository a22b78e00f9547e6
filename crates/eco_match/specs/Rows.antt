use Rattle.std.specs.Prelude.{ℕ, ◌+◌, ◌*◌, ◌^◌, ◌≤◌, ◌<◌, ◌≡◌, ◌==◌, if◌then◌else◌, Option, Some, List, length, slice_index, take, drop, ◌⊎◌, ◌&&◌, slice_set, IsSome}
use Rattle.eco_match.specs.Table.{AreColumns, row_cost, RowsRise, AreRising}
use Rattle.eco_match.specs.declared.table.Table.{Table}
use Rattle.eco_match.specs.declared.pairs.Rows.{Rows}
use Rattle.eco_bench.specs.Region.{Area, IsCarved, IsStanding, words_of}
use Rattle.eco_match.specs.declared.work.TheConstants.{PLACES}

-- the words of the rows, and the parts that they are cut into: the head, the work and the columns
abbrev pub rows_words : Area → Rows → List ℕ
rows_words area r = words_of area r.span

-- the work: an owner for each spare, and five words for each gate and for the free spares
abbrev pub work_len : Rows → ℕ
work_len r = r.spares + 5 * (r.gates + 1)

-- where the rows start and end, for each gate
abbrev pub row_bounds : Rows → List ℕ → List ℕ
row_bounds r words = take (2 * (r.gates + 1)) words

-- the spares and the costs of the pairs, one after another
abbrev pub columns_of : Rows → List ℕ → List ℕ
columns_of r words = drop (work_len r) (drop (2 * (r.gates + 1)) words)

abbrev pub starts_of : Rows → List ℕ → List ℕ
starts_of r head = take (r.gates + 1) head

abbrev pub ends_of : Rows → List ℕ → List ℕ
ends_of r head = drop (r.gates + 1) head

abbrev pub row_spares : Rows → List ℕ → List ℕ
row_spares r columns = take r.filled columns

abbrev pub costs_of : Rows → List ℕ → List ℕ
costs_of r columns = take r.filled (drop r.pairs columns)

-- the cost of a gate on a spare, by the parts
abbrev pub parts_cost : Rows → List ℕ → List ℕ → ℕ → ℕ → Option ℕ
parts_cost r head columns = row_cost (starts_of r head) (ends_of r head) (row_spares r columns) (costs_of r columns)

-- the cost of a gate on a spare, as the region has it
abbrev pub rows_cost : Area → Rows → ℕ → ℕ → Option ℕ
rows_cost area r = parts_cost r (row_bounds r (rows_words area r)) (columns_of r (rows_words area r))

-- head and columns of rows: the pairs stand in order, gate by gate, and the row of a gate with no pair
-- ends at 0
pub record AreParts (r : Rows) (head columns : List ℕ) : Type 0 where
  pub gates : r.gates < PLACES
  pub filled : r.filled ≤ r.pairs
  pub head_len : length head ≡ 2 * (r.gates + 1)
  pub columns_len : 2 * r.pairs ≤ length columns
  pub good : AreColumns r.spares (starts_of r head) (ends_of r head) (row_spares r columns) (costs_of r columns)
  pub rising : RowsRise (starts_of r head) (ends_of r head) (row_spares r columns)
  pub packed : (g : ℕ) → g ≤ r.gates → (slice_index (ends_of r head) g ≡ 0) ⊎ (slice_index (starts_of r head) g < slice_index (ends_of r head) g)
  pub last : (g : ℕ) → g ≤ r.gates → ((h : ℕ) → g < h → h ≤ r.gates → slice_index (ends_of r head) h ≡ 0) → (slice_index (ends_of r head) g ≡ 0) ⊎ (slice_index (ends_of r head) g ≡ r.filled)

-- the rows were begun on this region, and stand
pub record AreRows (area : Area) (r : Rows) : Type 0 where
  pub stands : IsStanding area r.span
  pub carved : IsCarved area
  pub few : r.spares < 2 ^ 32
  pub size : 2 * (r.gates + 1) + work_len r + 2 * r.pairs ≤ r.span.len
  pub parts : AreParts r (row_bounds r (rows_words area r)) (columns_of r (rows_words area r))

-- the table of the rows
pub record IsTableOf (r : Rows) (t : Table) : Type 0 where
  pub few : r.gates < PLACES
  pub inside : r.gates < length t.ends.now
  pub good : AreColumns r.spares t.starts.now t.ends.now t.spares.now t.costs.now
  pub rising : AreRising t

-- how many words rows and search take
abbrev pub need : ℕ → ℕ → ℕ → ℕ
need gates spares pairs = 8 * (gates + spares) + 2 * pairs + 64

-- rows with one pair more
abbrev pub wider : Rows → Rows
wider r = record { span = r.span; gates = r.gates; spares = r.spares; pairs = r.pairs; filled = r.filled + 1 }

-- where the row of a gate starts once it has one pair more
abbrev pub start_with : Rows → List ℕ → ℕ → List ℕ
start_with r head place = if slice_index (ends_of r head) place == 0 then slice_set (starts_of r head) place r.filled else starts_of r head

-- a pair is written after the others
pub record PairWritten (r : Rows) (place spare cost : ℕ) (head columns head' columns' : List ℕ) : Type 0 where
  pub starts : starts_of r head' ≡ start_with r head place
  pub ends : ends_of r head' ≡ slice_set (ends_of r head) place (r.filled + 1)
  pub spares : take r.pairs columns' ≡ slice_set (take r.pairs columns) r.filled spare
  pub costs : drop r.pairs columns' ≡ slice_set (drop r.pairs columns) r.filled cost

-- only candidates of earlier gates, or earlier spares of the gate, stand
abbrev pub ComesNext : ℕ → (ℕ → ℕ → Option ℕ) → ℕ → ℕ → Type 0
ComesNext gates costs gate spare = (g s : ℕ) → g < gates → IsSome (costs g s) → (g < gate) ⊎ ((g ≡ gate) × (s < spare))

-- the costs with one pair more
abbrev pub with_pair : (ℕ → ℕ → Option ℕ) → ℕ → ℕ → ℕ → ℕ → ℕ → Option ℕ
with_pair costs gate spare cost g s = if (g == gate) && (s == spare) then Some cost else costs g s
