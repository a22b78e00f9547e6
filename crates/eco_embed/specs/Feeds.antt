-- What feeds make of a row.
use Rattle.std.specs.Ordering.{nat_cmp}
use Rattle.std.specs.declared.cmp.Ordering.TheVariants.{Greater}
use Rattle.std.specs.Cmp.Lexicographic.{slice_cmp}
use Rattle.std.specs.Prelude.{◌≢◌, ℕ, ◌/◌, ◌%◌, ◌^◌, ◌+◌, ◌==◌, nat_lt, Bool, true, false, List, map, slice_index_or}
use Rattle.eco_embed.specs.declared.feed.Feed.{Feed}
use Rattle.eco_embed.specs.declared.feed.Feed.TheVariants.{Zero, One, Input}
use Rattle.eco_func.specs.Tables.{row, bit}

-- The value that a feed has at a row of the gate's inputs.
abbrev pub feed_bit : ℕ → Feed → Bool
feed_bit r Zero = false
feed_bit r One = true
feed_bit r (Input i) = bit r i

-- The value of a feed where the gate's inputs have these bits.
abbrev pub feed_value : List Bool → Feed → Bool
feed_value bits Zero = false
feed_value bits One = true
feed_value bits (Input i) = slice_index_or bits i false

-- The row of the master's inputs that the feeds make of a row of the gate's inputs.
abbrev pub fed_row : List Feed → ℕ → ℕ
fed_row feeds r = row (map (feed_bit r) feeds)

-- Whether a feed is a constant or one of so many inputs.
abbrev pub is_among : ℕ → Feed → Bool
is_among k Zero = true
is_among k One = true
is_among k (Input i) = nat_lt i k

abbrev pub is_zero : Feed → Bool
is_zero Zero = true
is_zero _ = false

-- Feeds in order: Zero, One, Input 0, Input 1 and so on.
abbrev pub rank : Feed → ℕ
rank Zero = 0
rank One = 1
rank (Input i) = i + 2

-- Lists of feeds in order, pin by pin from the first.
abbrev pub IsNoLaterFeed : List Feed → List Feed → Type 0
IsNoLaterFeed feeds others = slice_cmp nat_cmp (map rank feeds) (map rank others) ≢ Greater
