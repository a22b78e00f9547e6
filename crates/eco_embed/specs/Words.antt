-- A function of several pins as a list of words: the word at a row of the pins has a bit for each row of the gate.
use Rattle.std.specs.Prelude.{◌≡◌, ℕ, ◌+◌, ◌-◌, ◌*◌, ◌^◌, ◌<◌, Bool, true, List, ◌++◌, length, replicate, slice_index, if◌then◌else◌}
use Rattle.std.specs.List.{list_all}
use Rattle.eco_embed.specs.declared.feed.Feed.TheVariants.{Zero}
use Rattle.eco_embed.specs.declared.feed.Feed.{Feed}
use Rattle.eco_embed.specs.Feeds.{feed_bit, fed_row, is_among, IsNoLaterFeed}
use Rattle.eco_func.specs.Tables.{bit}
use Rattle.eco_func.specs.Tables.{TruthTable, at}

-- The value at a row of the gate with these feeds on the pins.
abbrev pub value : List ℕ → List Feed → ℕ → Bool
value words feeds r = bit (slice_index words (fed_row feeds r)) r

-- The feeds give the table that is wanted.
abbrev pub Meets : TruthTable → List ℕ → List Feed → Type 0
Meets want words feeds = (r : ℕ) → r < 2 ^ want.inputs → value words feeds r ≡ at want r

-- The words of what is left where the first pin has this feed.
abbrev pub IsFed : List ℕ → List ℕ → Feed → Type 0
IsFed words left feed =
    (s r : ℕ) → r < 64 → 2 * s + 1 < length words
    → bit (slice_index left s) r ≡ (if feed_bit r feed then bit (slice_index words (2 * s + 1)) r else bit (slice_index words (2 * s)) r)

-- Feeds of so many pins, each a constant or an input of the gate.
abbrev pub AreFeeds : TruthTable → ℕ → List Feed → Type 0
AreFeeds want pins feeds = (length feeds ≡ pins) × (list_all (is_among want.inputs) feeds ≡ true)

-- No feeds of so many pins give the wanted table.
abbrev pub NoFeeds : TruthTable → List ℕ → ℕ → Type 0
NoFeeds want words pins = (feeds : List Feed) → AreFeeds want pins feeds → ¬ Meets want words feeds

-- Of six places the first have the first feeds that give the wanted table, and the others Zero.
pub record FirstFeeds (want : TruthTable) (words : List ℕ) (pins : ℕ) (places : List Feed) : Type 0 where
  pub feeds : List Feed
  pub are : AreFeeds want pins feeds
  pub meets : Meets want words feeds
  pub shape : places ≡ feeds ++ replicate (6 - pins) Zero
  pub first : (others : List Feed) → AreFeeds want pins others → Meets want words others → IsNoLaterFeed feeds others

-- At each row of the gate some word has the wanted value.
abbrev pub Reaches : TruthTable → List ℕ → Type 0
Reaches want words = (r : ℕ) → r < 2 ^ want.inputs → (s : ℕ) × (s < length words) × (bit (slice_index words s) r ≡ at want r)
