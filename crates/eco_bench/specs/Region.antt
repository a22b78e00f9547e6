-- The region of words that a bench is, and the spans that stand in it.
use Rattle.std.specs.Prelude.{ℕ, ◌+◌, ◌-◌, ◌≤◌, ◌≡◌, ◌≢◌, List, ◌++◌, ◌∷◌, take, drop, length, slice_range, slice_set, All, AllPairs, Contains}
use Rattle.eco_bench.specs.declared.span.Span.{Span}
use Rattle.eco_bench.specs.declared.span.Mark.{Mark}
use Rattle.eco_bench.specs.Spans.{ShareNoWord, EndsBefore, before}

-- the words of a region; how many of them, from the first one on, are carved; and the spans that stand, the newest first
pub record Area : Type 0 where
  pub words : List ℕ
  pub used : ℕ
  pub standing : List Span

-- how many words are left to carve
abbrev pub free_words : Area → ℕ
free_words area = length area.words - area.used

-- the span was carved, and no mark that was set before has ended it
abbrev pub IsStanding : Area → Span → Type 0
IsStanding area span = Contains area.standing span

-- the span lies in the words that are carved
abbrev pub IsWithin : Area → Span → Type 0
IsWithin area span = span.start + span.len ≤ area.used

-- what each bench keeps: the spans that stand lie in its words, each apart from each other one
pub record IsCarved (area : Area) : Type 0 where
  pub fits : area.used ≤ length area.words
  pub within : All (IsWithin area) area.standing
  pub apart : AllPairs ShareNoWord area.standing

-- two different spans that stand share no word
abbrev pub StandApart : Area → Type 0
StandApart area = (a b : Span) → IsStanding area a → IsStanding area b → a ≢ b → ShareNoWord a b

-- the mark was set at a region that had carved no more than this one
abbrev pub IsMarkOf : Area → Mark → Type 0
IsMarkOf area mark = mark.used ≤ area.used

-- the words of a span
abbrev pub words_of : Area → Span → List ℕ
words_of area span = slice_range area.words span.start (span.start + span.len)

-- word k of the span is changed to a value; the spans that share no word with it keep their words
pub record SetsWord (old new : Area) (span : Span) (k value : ℕ) : Type 0 where
  pub changed : words_of new span ≡ slice_set (words_of old span) k value
  pub apart : (other : Span) → ShareNoWord span other → words_of new other ≡ words_of old other

-- the new words, cut or filled up to the old length
abbrev pub refill : List ℕ → List ℕ → List ℕ
refill words new = take (length words) (new ++ drop (length new) words)

-- the words with others written over as many from start on
abbrev pub overwritten : List ℕ → ℕ → List ℕ → List ℕ
overwritten words start part = refill words (take start words ++ (part ++ drop (length part) (drop start words)))

-- the region with others written over its words from start on
abbrev pub with_words : Area → ℕ → List ℕ → Area
with_words a start part = record { words = overwritten a.words start part; used = a.used; standing = a.standing }

-- the same spans stand, and those that share no word with one keep their words
pub record ChangesOnly (old new : Area) (span : Span) : Type 0 where
  pub used : new.used ≡ old.used
  pub standing : new.standing ≡ old.standing
  pub size : length new.words ≡ length old.words
  pub apart : (other : Span) → ShareNoWord span other → words_of new other ≡ words_of old other

-- the words of a span are changed to others, and no other span is changed
pub record SetsWords (old new : Area) (span : Span) (part : List ℕ) : Type 0 where
  pub changed : words_of new span ≡ part
  pub only : ChangesOnly old new span
