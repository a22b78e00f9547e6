-- Spans that stand lie apart.
use Rattle.std.proofs.Common.{ℕ, zero, suc, ◌+◌, ◌≤◌, ◌<◌, ◌≡◌, ◌≢◌, ◌⊎◌, ⊎_elim, Bool, true, false, cond, nat_le, List, [], ◌∷◌, length, refl, sym, ap, ◌∙◌, subst, arith, inl, inr, true≢false}
use Rattle.std.specs.List.{All, AllPairs, Contains, filter, slice_index_or}
use Rattle.std.proofs.lemmas.List.Elements.{All-contains, All-contains_itself, at_from_Contains, All-filter, filter_passes}
use Rattle.std.proofs.lemmas.List.Kept.{AllPairs-filter}
use Rattle.std.proofs.lemmas.Bool.Decides.{leb_tells}
use Rattle.eco_bench.specs.declared.span.Span.{Span}
use Rattle.eco_bench.specs.declared.span.Mark.{Mark}
use Rattle.eco_bench.specs.Spans.{ShareNoWord, EndsBefore, before}
use Rattle.eco_bench.specs.Region.{Area, IsCarved, IsWithin, IsStanding, StandApart, overwritten, with_words}

pub within-of : (area : Area) (span : Span) → IsCarved area → IsStanding area span → IsWithin area span
within-of area span carved stands = All-contains (IsWithin area) area.standing span carved.within stands

pub apart-swap : (a b : Span) → ShareNoWord a b → ShareNoWord b a
apart-swap a b (inl before) = inr before
apart-swap a b (inr after) = inl after

-- two places of a list in one order or the other, or one place
pub places : (i j : ℕ) → ((i < j) ⊎ (j < i)) ⊎ (i ≡ j)
places i j = search (arith)

at-places : (spans : List Span) (a b : Span) (i j : ℕ) → AllPairs ShareNoWord spans → i < length spans → j < length spans →
    ((d : Span) → slice_index_or spans i d ≡ a) → ((d : Span) → slice_index_or spans j d ≡ b) → a ≢ b → ((i < j) ⊎ (j < i)) ⊎ (i ≡ j) → ShareNoWord a b
at-places spans a b i j apart below-i below-j is-a is-b differ (inl (inl less)) =
    subst (λ (x : Span). ShareNoWord x b) (is-a a) (subst (λ (y : Span). ShareNoWord (slice_index_or spans i a) y) (is-b a) (apart i j a less below-j))
at-places spans a b i j apart below-i below-j is-a is-b differ (inl (inr more)) =
    apart-swap b a (subst (λ (x : Span). ShareNoWord x a) (is-b a) (subst (λ (y : Span). ShareNoWord (slice_index_or spans j a) y) (is-a a) (apart j i a more below-i)))
at-places spans a b i j apart below-i below-j is-a is-b differ (inr same) =
    absurd (differ (sym (is-a a) ∙ ap (λ (n : ℕ). slice_index_or spans n a) same ∙ is-b a))

pub stand-apart : (area : Area) → IsCarved area → StandApart area
stand-apart area carved a b stands-a stands-b differ =
    let at-a = at_from_Contains area.standing a stands-a in
    let at-b = at_from_Contains area.standing b stands-b in
    at-places area.standing a b at-a.0 at-b.0 carved.apart at-a.1 at-b.1 at-a.2 at-b.2 differ (places at-a.0 at-b.0)

-- what a filter keeps
module _ {X : Type 0} (p : X → Bool) where
  kept-behind : (b : Bool) (y x : X) (ys : List X) → Contains ys x → Contains (cond b (y ∷ ys) ys) x
  kept-behind true y x ys (k, below, is) = (suc k, omega (arith, below), is)
  kept-behind false y x ys has = has

  kept-first : (b : Bool) (y x : X) (ys : List X) → b ≡ true → y ≡ x → Contains (cond b (y ∷ ys) ys) x
  kept-first true y x ys passes is = (0, omega arith, is)
  kept-first false y x ys passes is = absurd (true≢false (sym passes))

  pub filter-has : (xs : List X) (x : X) → Contains xs x → p x ≡ true → Contains (filter p xs) x
  filter-has [] x (k, below, is) passes = absurd (omega (arith, below))
  filter-has (y ∷ ys) x (zero, below, is) passes = kept-first (p y) y x (filter p ys) (ap p is ∙ passes) is
  filter-has (y ∷ ys) x (suc k, below, is) passes = kept-behind (p y) y x (filter p ys) (filter-has ys x (k, omega (arith, below), is) passes)

  pub filter-from : (xs : List X) (x : X) → Contains (filter p xs) x → Contains xs x × (p x ≡ true)
  filter-from xs x has = (
    All-contains (Contains xs) (filter p xs) x (All-filter p (Contains xs) xs (All-contains_itself xs)) has,
    All-contains (λ y. p y ≡ true) (filter p xs) x (filter_passes p xs) has,
  )

ends-before : (mark : Mark) (span : Span) → nat_le (span.start + span.len) mark.used ≡ true → EndsBefore mark span
ends-before mark span passes = elim (leb_tells (span.start + span.len) mark.used) [
  | inl within ↦ within.1
  | inr beyond ↦ absurd (true≢false (sym passes ∙ beyond.0))
]

is-before : (mark : Mark) (span : Span) → EndsBefore mark span → nat_le (span.start + span.len) mark.used ≡ true
is-before mark span ends = elim (leb_tells (span.start + span.len) mark.used) [
  | inl within ↦ within.0
  | inr beyond ↦ absurd (omega (arith, ends, beyond.1))
]

pub before-has : (mark : Mark) (spans : List Span) (span : Span) → Contains spans span × EndsBefore mark span → Contains (before mark spans) span
before-has mark spans span (has, ends) = filter-has (λ (s : Span). nat_le (s.start + s.len) mark.used) spans span has (is-before mark span ends)

pub before-from : (mark : Mark) (spans : List Span) (span : Span) → Contains (before mark spans) span → Contains spans span × EndsBefore mark span
before-from mark spans span has =
    let from = filter-from (λ (s : Span). nat_le (s.start + s.len) mark.used) spans span has in
    (from.0, ends-before mark span from.1)

-- the spans that are left end before the mark
pub carved-before : (words : List ℕ) (used : ℕ) (spans : List Span) (mark : Mark) →
    IsCarved (record { words = words; used = used; standing = spans }) → mark.used ≤ used →
    IsCarved (record { words = words; used = mark.used; standing = before mark spans })
carved-before words used spans mark carved less = record {
  fits = omega (arith, carved.fits, less);
  within = λ k d below. ends-before mark (slice_index_or (before mark spans) k d) (filter_passes (λ (s : Span). nat_le (s.start + s.len) mark.used) spans k d below);
  apart = AllPairs-filter ShareNoWord (λ (s : Span). nat_le (s.start + s.len) mark.used) spans carved.apart;
}

-- other words of the same length keep what a bench keeps
pub carved-written : (area : Area) (start : ℕ) (part : List ℕ) → length (overwritten area.words start part) ≡ length area.words → IsCarved area → IsCarved (with_words area start part)
carved-written area start part size carved = record {
  fits = omega (arith, carved.fits, size);
  within = carved.within;
  apart = carved.apart;
}
