-- Feeds tried in their order.
use Rattle.std.proofs.Common.{◌≡◌, ◌≢◌, ℕ, zero, suc, ◌+◌, ◌-◌, ◌/◌, ◌^◌, ◌<◌, ◌≤◌, Bool, true, false, List, [], ◌∷◌, ◌++◌, length, map, take, replicate, refl, ap, ◌∙◌, sym, subst, arith, ⊎_elim, Ordering, Less, Equal, Greater, nat_cmp}
use Rattle.std.proofs.lemmas.Bool.{and_parts, cases_lt}
use Rattle.std.proofs.lemmas.Bool.Decides.{nat_tests}
use Rattle.std.specs.List.{list_all}
use Rattle.std.specs.Ordering.{ordering_then}
use Rattle.std.specs.Cmp.Lexicographic.{slice_cmp}
use Rattle.eco_func.specs.Tables.{TruthTable}
use Rattle.eco_embed.specs.declared.feed.Feed.{Feed}
use Rattle.eco_embed.specs.declared.feed.Feed.TheVariants.{Zero, One, Input}
use Rattle.eco_embed.specs.Feeds.{fed_row, is_among, rank, IsNoLaterFeed}
use Rattle.eco_embed.specs.Words.{Meets, IsFed, AreFeeds, NoFeeds, FirstFeeds, Reaches}
use Rattle.eco_embed.proofs.Folding.{fed_row_below, rest_meets, meets_rest}

-- no feeds that begin with a feed of a lower number give the wanted table
pub record Tried (want : TruthTable) (words : List ℕ) (pins number : ℕ) : Type 0 where
  pub none : (f : Feed) (fs : List Feed) → rank f < number → AreFeeds want pins (f ∷ fs) → Meets want words (f ∷ fs) → ⊥

pub none_tried : (want : TruthTable) (words : List ℕ) (pins : ℕ) → Tried want words pins 0
none_tried want words pins = record { none = λ f fs h. absurd (omega arith) }

-- a number is that of one feed
same_feed : (f g : Feed) → rank f ≡ rank g → f ≡ g
same_feed Zero Zero e = refl
same_feed Zero One e = absurd (omega arith)
same_feed Zero (Input j) e = absurd (omega arith)
same_feed One Zero e = absurd (omega arith)
same_feed One One e = refl
same_feed One (Input j) e = absurd (omega arith)
same_feed (Input i) Zero e = absurd (omega arith)
same_feed (Input i) One e = absurd (omega arith)
same_feed (Input i) (Input j) e = let same : i ≡ j = omega arith in ap Input same

-- a feed of the gate has a number below this
rank_below : (k : ℕ) (f : Feed) → is_among k f ≡ true → rank f < k + 2
rank_below k Zero h = omega arith
rank_below k One h = omega arith
rank_below k (Input i) h = grind (arith, nat_tests)

-- ---- order

cmp_less : (x y : ℕ) → x < y → nat_cmp x y ≡ Less
cmp_less x y h = grind (arith, nat_tests)

cmp_same : (x : ℕ) → nat_cmp x x ≡ Equal
cmp_same x = grind (arith, nat_tests)

not_greater : (o : Ordering) → o ≡ Less → o ≢ Greater
not_greater o e h = absurd (cc)

pub head_less : (x y : ℕ) (xs ys : List ℕ) → x < y → slice_cmp nat_cmp (x ∷ xs) (y ∷ ys) ≢ Greater
head_less x y xs ys h = not_greater (slice_cmp nat_cmp (x ∷ xs) (y ∷ ys)) (ap (λ o. ordering_then o (slice_cmp nat_cmp xs ys)) (cmp_less x y h))

pub head_same : (x : ℕ) (xs ys : List ℕ) → slice_cmp nat_cmp xs ys ≢ Greater → slice_cmp nat_cmp (x ∷ xs) (x ∷ ys) ≢ Greater
head_same x xs ys h e = h (sym (ap (λ o. ordering_then o (slice_cmp nat_cmp xs ys)) (cmp_same x)) ∙ e)

-- ---- Zero past the pins

take_zeros : (m : ℕ) → take m (replicate (suc m) Zero) ≡ replicate m Zero
take_zeros zero = refl
take_zeros (suc m) = ap (λ xs. Zero ∷ xs) (take_zeros m)

take_front : (fs : List Feed) (m k : ℕ) → k ≡ length fs + m → take k (fs ++ replicate (suc m) Zero) ≡ fs ++ replicate m Zero
take_front [] m k e = let same : k ≡ m = omega arith in ap (λ n. take n (replicate (suc m) Zero)) same ∙ take_zeros m
take_front (f ∷ fs) m zero e = absurd (omega arith)
take_front (f ∷ fs) m (suc k) e = ap (λ xs. f ∷ xs) (take_front fs m k (omega arith))

-- ---- one pin

first_is : (want : TruthTable) (pins : ℕ) (f : Feed) (fs : List Feed) → AreFeeds want pins (f ∷ fs) → is_among want.inputs f ≡ true
first_is want pins f fs a = (and_parts (is_among want.inputs f) (list_all (is_among want.inputs) fs) a.1).0

rest_are : (want : TruthTable) (pins : ℕ) (f : Feed) (fs : List Feed) → AreFeeds want pins (f ∷ fs) → AreFeeds want (pins - 1) fs
rest_are want pins f fs a = (let e = a.0 in omega arith, (and_parts (is_among want.inputs f) (list_all (is_among want.inputs) fs) a.1).1)

module _ (want : TruthTable) (few : want.inputs ≤ 6) (words left : List ℕ) (pins : ℕ) (some : 0 < pins) (long : length words ≡ 2 ^ pins) (f : Feed) (halves : IsFed words left f) where
  longer : (fs : List Feed) → AreFeeds want pins (f ∷ fs) → length words ≡ 2 ^ suc (length fs)
  longer fs a = long ∙ ap (λ n. 2 ^ n) (sym a.0)

  rest_meet : (fs : List Feed) → AreFeeds want pins (f ∷ fs) → Meets want words (f ∷ fs) → Meets want (take (length words / 2) left) fs
  rest_meet fs a = meets_rest want few words left f fs (longer fs a) halves

  -- a feed after which nothing is found is tried
  pub tried_more : Tried want words pins (rank f) → NoFeeds want (take (length words / 2) left) (pins - 1) → Tried want words pins (rank f + 1)
  tried_more t nothing = record {
    none = λ g gs h a m.
        ⊎_elim (λ less. t.none g gs less a m)
        (λ most.
        let e : g ≡ f = same_feed g f (omega arith) in
        let a' = subst (λ g. AreFeeds want pins (g ∷ gs)) e a in
        nothing gs (rest_are want pins f gs a') (rest_meet gs a' (subst (λ g. Meets want words (g ∷ gs)) e m)))
        (cases_lt (rank g) (rank f));
  }

  module _ (most : pins ≤ 6) (among : is_among want.inputs f ≡ true) (t : Tried want words pins (rank f)) (rest places : List Feed) (r : FirstFeeds want (take (length words / 2) left) (pins - 1) rest) (e : places ≡ f ∷ take 5 rest) where
    are : AreFeeds want pins (f ∷ r.feeds)
    are = (let n = r.are.0 in omega arith, rw (among, r.are.1))

    zeros : 6 - (pins - 1) ≡ suc (6 - pins)
    zeros = omega arith

    shape : f ∷ take 5 rest ≡ (f ∷ r.feeds) ++ replicate (6 - pins) Zero
    shape =
        ap (λ xs. f ∷ xs)
        (ap (take 5) (r.shape ∙ ap (λ n. r.feeds ++ replicate n Zero) zeros)
        ∙ take_front r.feeds (6 - pins) 5 (let n = r.are.0 in omega arith))

    first : (others : List Feed) → AreFeeds want pins others → Meets want words others → IsNoLaterFeed (f ∷ r.feeds) others
    first [] a m = absurd (let n = a.0 in omega arith)
    first (g ∷ gs) a m =
        ⊎_elim (λ less. absurd (t.none g gs less a m))
        (λ most. ⊎_elim (λ more. head_less (rank f) (rank g) (map rank r.feeds) (map rank gs) more)
        (λ least.
        let same : g ≡ f = same_feed g f (omega arith) in
        let a' = subst (λ g. AreFeeds want pins (g ∷ gs)) same a in
        let m' = subst (λ g. Meets want words (g ∷ gs)) same m in
        subst (λ g. IsNoLaterFeed (f ∷ r.feeds) (g ∷ gs)) (sym same)
        (head_same (rank f) (map rank r.feeds) (map rank gs) (r.first gs (rest_are want pins f gs a') (rest_meet gs a' m'))))
        (cases_lt (rank f) (rank g)))
        (cases_lt (rank g) (rank f))

    -- the first feed after which something is found begins the first feeds
    pub found : FirstFeeds want words pins places
    found = record {
      feeds = f ∷ r.feeds;
      are = are;
      meets = rest_meets want few words left f r.feeds (longer r.feeds are) halves r.meets;
      shape = e ∙ shape;
      first = first;
    }

-- all feeds are tried
pub none_left : (want : TruthTable) (words : List ℕ) (pins : ℕ) → 0 < pins → Tried want words pins (want.inputs + 2) → NoFeeds want words pins
none_left want words pins some t [] a m = absurd (let n = a.0 in omega arith)
none_left want words pins some t (f ∷ fs) a m = t.none f fs (rank_below want.inputs f (first_is want pins f fs a)) a m

-- where a row is reached by no word nothing is found
pub unreached : (want : TruthTable) (words : List ℕ) (pins : ℕ) → length words ≡ 2 ^ pins → (b : Bool) → b ≡ false → (Reaches want words → b ≡ true) → NoFeeds want words pins
unreached want words pins long true e h feeds a m = absurd (cc)
unreached want words pins long false e h feeds a m =
    absurd (different (h (λ r lt. (fed_row feeds r, subst (λ n. fed_row feeds r < n) (ap (λ n. 2 ^ n) a.0 ∙ sym long) (fed_row_below feeds r), m r lt))))
  where
    different : false ≡ true → ⊥
    different e = cc
