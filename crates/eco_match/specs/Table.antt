use Rattle.std.specs.Prelude.{ℕ, zero, suc, ◌+◌, ◌-◌, ◌^◌, ◌≤◌, ◌<◌, ◌≡◌, ◌==◌, if◌then◌else◌, Option, Some, None, List, length, slice_index}
use Rattle.eco_match.specs.declared.table.Table.{Table}

-- the pair at j is one of the gate's
abbrev pub InRow : Table → ℕ → ℕ → Type 0
InRow t gate j = (slice_index t.starts.now gate ≤ j) × (j < slice_index t.ends.now gate)

-- the spare and the cost of the pair at j
abbrev pub spare_at : Table → ℕ → ℕ
spare_at t j = slice_index t.spares.now j

abbrev pub cost_at : Table → ℕ → ℕ
cost_at t j = slice_index t.costs.now j

-- columns for so many spares, whose costs are small
pub record AreColumns (count : ℕ) (starts ends spares costs : List ℕ) : Type 0 where
  pub ends_len : length ends ≡ length starts
  pub costs_len : length costs ≡ length spares
  pub rows : (g : ℕ) → g < length ends → slice_index ends g ≤ length spares
  pub below : (j : ℕ) → j < length spares → slice_index spares j < count
  pub small : (j : ℕ) → j < length spares → slice_index costs j < 2 ^ 59

-- a table for so many spares
abbrev pub IsCostTable : ℕ → Table → Type 0
IsCostTable count t = AreColumns count t.starts.now t.ends.now t.spares.now t.costs.now

-- the cost beside the spare, among n places from one on
abbrev pub find_cost : List ℕ → List ℕ → ℕ → ℕ → ℕ → Option ℕ
find_cost spares costs s from zero = None
find_cost spares costs s from (suc n) =
    if slice_index spares (from + n) == s then Some (slice_index costs (from + n)) else find_cost spares costs s from n

-- the cost of a gate on a spare; the row of gate g is at g + 1
abbrev pub row_cost : List ℕ → List ℕ → List ℕ → List ℕ → ℕ → ℕ → Option ℕ
row_cost starts ends spares costs g s =
    find_cost spares costs s (slice_index starts (g + 1)) (slice_index ends (g + 1) - slice_index starts (g + 1))

-- the cost of a gate on a spare, by the table
abbrev pub table_cost : Table → ℕ → ℕ → Option ℕ
table_cost t = row_cost t.starts.now t.ends.now t.spares.now t.costs.now

-- the spares of a row rise
abbrev pub RowsRise : List ℕ → List ℕ → List ℕ → Type 0
RowsRise starts ends spares = (g i j : ℕ) → (slice_index starts g ≤ i) × (i < slice_index ends g) → (slice_index starts g ≤ j) × (j < slice_index ends g) → i < j → slice_index spares i < slice_index spares j

abbrev pub AreRising : Table → Type 0
AreRising t = RowsRise t.starts.now t.ends.now t.spares.now
