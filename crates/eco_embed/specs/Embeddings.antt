-- Constant insertion.
use Rattle.std.specs.Prelude.{◌≡◌, ◌≢◌, ℕ, ◌^◌, ◌<◌, true, Bool, List, ◌∷◌, map, length, take, drop, ◌++◌, ◌-◌, replicate, slice_get, Some}
use Rattle.std.specs.List.{list_all}
use Rattle.std.specs.Ordering.{nat_cmp}
use Rattle.std.specs.declared.cmp.Ordering.TheVariants.{Greater}
use Rattle.std.specs.Cmp.Lexicographic.{slice_cmp}
use Rattle.eco_func.specs.declared.output.OutputFn.{OutputFn}
use Rattle.eco_func.specs.Tables.{TruthTable, at, look}
use Rattle.eco_func.specs.Masters.{MasterTables}
use Rattle.eco_embed.specs.declared.feed.Feed.{Feed}
use Rattle.eco_embed.specs.declared.feed.Feed.TheVariants.{Zero}
use Rattle.eco_embed.specs.declared.embedding.Embedding.{Embedding}
use Rattle.eco_embed.specs.Feeds.{feed_value, fed_row, is_among, is_zero, rank, IsNoLaterFeed}

-- The feeds of the master's inputs, and what stands past them.
abbrev pub feeds_of : MasterTables → Embedding → List Feed
feeds_of master e = take (length master.inputs) e.pins

-- The feeds make the wanted table of a table: each is a constant or an input of the gate, and at every row of the gate
-- the table has the wanted value at the row that the feeds make of it.
pub record Serves (want table : TruthTable) (feeds : List Feed) : Type 0 where
  pub among : list_all (is_among want.inputs) feeds ≡ true
  pub computes : (r : ℕ) → r < 2 ^ want.inputs → at table (fed_row feeds r) ≡ at want r

-- What serves has the wanted value at each list of bits of the gate's inputs.
abbrev pub ServesAllBits : Type 0
ServesAllBits =
    (want table : TruthTable) (feeds : List Feed) → Serves want table feeds
    → (bits : List Bool) → length bits ≡ want.inputs → look table (map (feed_value bits) feeds) ≡ look want bits

-- No feeds make the wanted table of a table.
abbrev pub ServesNone : TruthTable → TruthTable → Type 0
ServesNone want table = (feeds : List Feed) → length feeds ≡ table.inputs → ¬ Serves want table feeds

-- Of six places the first have the first feeds that make the wanted table of a table, and the others Zero.
pub record FirstServing (want table : TruthTable) (places : List Feed) : Type 0 where
  pub feeds : List Feed
  pub count : length feeds ≡ table.inputs
  pub serves : Serves want table feeds
  pub shape : places ≡ feeds ++ replicate (6 - table.inputs) Zero
  pub first : (others : List Feed) → length others ≡ table.inputs → Serves want table others → IsNoLaterFeed feeds others

-- An embedding chooses an output of the master, and its feeds of the master's inputs make the wanted table of that
-- output's. Of the six places those past the inputs are Zero.
pub record Embeds (want : TruthTable) (master : MasterTables) (e : Embedding) : Type 0 where
  pub places : length e.pins ≡ 6
  pub chosen : OutputFn
  pub is_output : slice_get master.outputs e.output ≡ Some chosen
  pub serves : Serves want chosen.table (feeds_of master e)
  pub past : list_all is_zero (drop (length master.inputs) e.pins) ≡ true

-- Embeddings in order: by output, then by pins from the first.
abbrev pub key : Embedding → List ℕ
key e = e.output ∷ map rank e.pins

abbrev pub IsNoLater : Embedding → Embedding → Type 0
IsNoLater e f = slice_cmp nat_cmp (key e) (key f) ≢ Greater

-- The first of all embeddings.
pub record IsFirst (want : TruthTable) (master : MasterTables) (e : Embedding) : Type 0 where
  pub embeds : Embeds want master e
  pub first : (f : Embedding) → Embeds want master f → IsNoLater e f
