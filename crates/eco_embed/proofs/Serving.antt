-- A table's words and the table itself.
use Rattle.std.proofs.Common.{◌≡◌, ℕ, ◌^◌, ◌<◌, ◌≤◌, true, List, [], ◌∷◌, length, take, slice_index, refl, ap, ◌∙◌, sym, subst, arith, Option, Some, None, MatchOption}
use Rattle.std.proofs.lemmas.Bool.{and_parts}
use Rattle.std.proofs.lemmas.Bool.Decides.{nat_tests}
use Rattle.std.proofs.lemmas.List.{get_or-take}
use Rattle.std.specs.List.{list_all}
use Rattle.eco_func.specs.Tables.{TruthTable, at}
use Rattle.eco_embed.specs.declared.feed.Feed.{Feed}
use Rattle.eco_embed.specs.declared.feed.Feed.TheVariants.{Zero, One, Input}
use Rattle.eco_embed.specs.Feeds.{fed_row, is_among}
use Rattle.eco_func.specs.Tables.{bit}
use Rattle.eco_embed.specs.Embeddings.{Serves, ServesNone, FirstServing}
use Rattle.eco_embed.specs.Words.{value, Meets, NoFeeds, FirstFeeds}
use Rattle.eco_func.proofs.Powers.{few_rows}
use Rattle.eco_embed.proofs.Folding.{fed_row_below}

-- the words of a table
abbrev pub AreWords : TruthTable → List ℕ → Type 0
AreWords table words = (s r : ℕ) → s < 2 ^ table.inputs → r < 64 → bit (slice_index words s) r ≡ at table s

module _ (want table : TruthTable) (few : want.inputs ≤ 6) (words : List ℕ) (are : AreWords table words) (feeds : List Feed) (count : length feeds ≡ table.inputs) where
  table_value : (r : ℕ) → r < 2 ^ want.inputs → value (take (2 ^ table.inputs) words) feeds r ≡ at table (fed_row feeds r)
  table_value r h =
      let s = fed_row feeds r in
      let below : s < 2 ^ table.inputs = subst (λ n. s < 2 ^ n) count (fed_row_below feeds r) in
      ap (λ w. bit w r) (get_or-take (2 ^ table.inputs) words s 0 below)
      ∙ are s r below (omega (arith, h, few_rows want.inputs few))

  pub serves : list_all (is_among want.inputs) feeds ≡ true → Meets want (take (2 ^ table.inputs) words) feeds → Serves want table feeds
  serves among m = record { among = among; computes = λ r h. sym (table_value r h) ∙ m r h }

  pub meets : Serves want table feeds → Meets want (take (2 ^ table.inputs) words) feeds
  meets s r h = table_value r h ∙ s.computes r h

module _ (want table : TruthTable) (few : want.inputs ≤ 6) (words : List ℕ) (are : AreWords table words) where
  none_serves : NoFeeds want (take (2 ^ table.inputs) words) table.inputs → ServesNone want table
  none_serves none feeds count s = none feeds (count, s.among) (meets want table few words are feeds count s)

  first_serves : (places : List Feed) → FirstFeeds want (take (2 ^ table.inputs) words) table.inputs places → FirstServing want table places
  first_serves places r = record {
    feeds = r.feeds;
    count = r.are.0;
    serves = serves want table few words are r.feeds r.are.0 r.are.1 r.meets;
    shape = r.shape;
    first = λ others count s. r.first others (count, s.among) (meets want table few words are others count s);
  }

  either : (o : Option (List Feed)) → MatchOption o (NoFeeds want (take (2 ^ table.inputs) words) table.inputs) (FirstFeeds want (take (2 ^ table.inputs) words) table.inputs) → MatchOption o (ServesNone want table) (FirstServing want table)
  either None h = none_serves h
  either (Some places) h = first_serves places h

  -- what the search says of the words, said of the table
  pub of_table : (n pins : ℕ) → n ≡ 2 ^ table.inputs → pins ≡ table.inputs → (o : Option (List Feed))
      → MatchOption o (NoFeeds want (take n words) pins) (FirstFeeds want (take n words) pins) → MatchOption o (ServesNone want table) (FirstServing want table)
  of_table n pins e f o h =
      either o
      (subst (λ p. MatchOption o (NoFeeds want (take (2 ^ table.inputs) words) p) (FirstFeeds want (take (2 ^ table.inputs) words) p)) f
      (subst (λ n. MatchOption o (NoFeeds want (take n words) pins) (FirstFeeds want (take n words) pins)) e h))

-- one of fewer inputs is one of six
among_more : (k : ℕ) → k ≤ 6 → (f : Feed) → is_among k f ≡ true → is_among 6 f ≡ true
among_more k few Zero h = refl
among_more k few One h = refl
among_more k few (Input i) h = grind (arith, nat_tests)

pub all_among : (k : ℕ) → k ≤ 6 → (feeds : List Feed) → list_all (is_among k) feeds ≡ true → list_all (is_among 6) feeds ≡ true
all_among k few [] h = refl
all_among k few (f ∷ fs) h =
    let both = and_parts (is_among k f) (list_all (is_among k) fs) h in
    rw (among_more k few f both.0) (all_among k few fs both.1)

-- the first of six, and those after it
pub first_among : (f : Feed) (fs feeds : List Feed) → feeds ≡ f ∷ fs → list_all (is_among 6) feeds ≡ true → (is_among 6 f ≡ true) × (list_all (is_among 6) fs ≡ true)
first_among f fs feeds is h = and_parts (is_among 6 f) (list_all (is_among 6) fs) (ap (list_all (is_among 6)) (sym is) ∙ h)
