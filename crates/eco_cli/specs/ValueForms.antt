-- Values that have a form of their own.
use Rattle.std.specs.Prelude.{ℕ, nat_le, ◌==◌, Bool, not, ◌&&◌, ◌||◌, List, [], ◌∷◌, length, codes, if◌then◌else◌}
use Rattle.std.specs.List.{list_all, list_any, slice_split}
use Rattle.std.specs.Str.{bytes_eq}
use Rattle.eco_embed.specs.declared.feed.Feed.{Feed}
use Rattle.eco_embed.specs.declared.feed.Feed.TheVariants as feed

-- what stands before, between and behind the commas
abbrev pub items_of : List ℕ → List (List ℕ)
items_of w = slice_split (λ b. b == 44) w

-- a list of names: no item is empty
abbrev pub is_name_list : List ℕ → Bool
is_name_list w = list_all (λ item. not (bytes_eq item [])) (items_of w)

-- what an input pin of a spare can be put on: a constant, or an input of the gate by its number
abbrev pub feed_words : List (List ℕ)
feed_words = codes "0" ∷ codes "1" ∷ codes "i0" ∷ codes "i1" ∷ codes "i2" ∷ codes "i3" ∷ codes "i4" ∷ codes "i5" ∷ []

abbrev pub is_feed : List ℕ → Bool
is_feed item = list_any (λ w. bytes_eq w item) feed_words

-- the feed that is written so
abbrev pub feed_of : List ℕ → Feed
feed_of item =
    if bytes_eq (codes "0") item then feed.Zero
    else if bytes_eq (codes "1") item then feed.One
    else if bytes_eq (codes "i0") item then feed.Input 0
    else if bytes_eq (codes "i1") item then feed.Input 1
    else if bytes_eq (codes "i2") item then feed.Input 2
    else if bytes_eq (codes "i3") item then feed.Input 3
    else if bytes_eq (codes "i4") item then feed.Input 4
    else feed.Input 5

-- a list of feeds, six at most
abbrev pub is_feed_list : List ℕ → Bool
is_feed_list w = list_all is_feed (items_of w) && nat_le (length (items_of w)) 6

-- how many rows a table of at most six inputs has
abbrev pub row_counts : List ℕ
row_counts = 1 ∷ 2 ∷ 4 ∷ 8 ∷ 16 ∷ 32 ∷ 64 ∷ []

-- a truth table: 0 or 1 for each row
abbrev pub is_table : List ℕ → Bool
is_table w = list_any (λ n. n == length w) row_counts && list_all (λ b. b == 48 || b == 49) w
