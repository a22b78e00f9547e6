use Rattle.std.proofs.Common.{ℕ, ◌+◌, ◌*◌, ◌^◌, ◌≤◌, ◌≡◌, ◌≢◌, List, length, slice_index, slice_set, ◌∙◌, arith}
use Rattle.std.proofs.Math.ListN.{length-set}
use Rattle.std.proofs.lemmas.List.{get_or-set_same, get_or-set_other, get_or_past}
use Rattle.eco_match.specs.Work.{HasPlace, rank_at, far_at, from_at, via_at, SetsRank, SetsLink}

pub sets-rank : (tree : List ℕ) (p rank : ℕ) → HasPlace tree p → SetsRank p rank tree (slice_set tree (5 * p) rank)
unfolding rank_at far_at from_at via_at
sets-rank tree p rank has = record {
  here = get_or-set_same tree (5 * p) rank 0 (omega (arith, has));
  others = λ k ne. get_or-set_other tree (5 * p) (5 * k) rank 0 (omega arith);
  links = λ k. record {
    far = (let a = get_or-set_other tree (5 * p) (5 * k + 1) rank 0 (omega arith) in
        let b = get_or-set_other tree (5 * p) (5 * k + 2) rank 0 (omega arith) in
        omega (arith, a, b));
    from = get_or-set_other tree (5 * p) (5 * k + 3) rank 0 (omega arith);
    via = get_or-set_other tree (5 * p) (5 * k + 4) rank 0 (omega arith);
  };
}

-- four words after one another
abbrev pub set_four : List ℕ → ℕ → ℕ → ℕ → ℕ → ℕ → List ℕ
set_four xs i a b c d = slice_set (slice_set (slice_set (slice_set xs (i + 1) a) (i + 2) b) (i + 3) c) (i + 4) d

-- a place that is none of the four
four-apart : (xs : List ℕ) (i k a b c d : ℕ) → k ≢ i + 1 → k ≢ i + 2 → k ≢ i + 3 → k ≢ i + 4 → slice_index (set_four xs i a b c d) k ≡ slice_index xs k
four-apart xs i k a b c d one two three four =
    get_or-set_other (slice_set (slice_set (slice_set xs (i + 1) a) (i + 2) b) (i + 3) c) (i + 4) k d 0 four
    ∙ get_or-set_other (slice_set (slice_set xs (i + 1) a) (i + 2) b) (i + 3) k c 0 three
    ∙ get_or-set_other (slice_set xs (i + 1) a) (i + 2) k b 0 two
    ∙ get_or-set_other xs (i + 1) k a 0 one

four-first : (xs : List ℕ) (i a b c d : ℕ) → i + 5 ≤ length xs → slice_index (set_four xs i a b c d) (i + 1) ≡ a
four-first xs i a b c d has =
    get_or-set_other (slice_set (slice_set (slice_set xs (i + 1) a) (i + 2) b) (i + 3) c) (i + 4) (i + 1) d 0 (omega arith)
    ∙ get_or-set_other (slice_set (slice_set xs (i + 1) a) (i + 2) b) (i + 3) (i + 1) c 0 (omega arith)
    ∙ get_or-set_other (slice_set xs (i + 1) a) (i + 2) (i + 1) b 0 (omega arith)
    ∙ get_or-set_same xs (i + 1) a 0 (omega (arith, has))

four-second : (xs : List ℕ) (i a b c d : ℕ) → i + 5 ≤ length xs → slice_index (set_four xs i a b c d) (i + 2) ≡ b
four-second xs i a b c d has =
    let l = length-set xs (i + 1) a in
    get_or-set_other (slice_set (slice_set (slice_set xs (i + 1) a) (i + 2) b) (i + 3) c) (i + 4) (i + 2) d 0 (omega arith)
    ∙ get_or-set_other (slice_set (slice_set xs (i + 1) a) (i + 2) b) (i + 3) (i + 2) c 0 (omega arith)
    ∙ get_or-set_same (slice_set xs (i + 1) a) (i + 2) b 0 (omega (arith, l, has))

four-third : (xs : List ℕ) (i a b c d : ℕ) → i + 5 ≤ length xs → slice_index (set_four xs i a b c d) (i + 3) ≡ c
four-third xs i a b c d has =
    let l = length-set xs (i + 1) a in
    let m = length-set (slice_set xs (i + 1) a) (i + 2) b in
    get_or-set_other (slice_set (slice_set (slice_set xs (i + 1) a) (i + 2) b) (i + 3) c) (i + 4) (i + 3) d 0 (omega arith)
    ∙ get_or-set_same (slice_set (slice_set xs (i + 1) a) (i + 2) b) (i + 3) c 0 (omega (arith, l, m, has))

four-fourth : (xs : List ℕ) (i a b c d : ℕ) → i + 5 ≤ length xs → slice_index (set_four xs i a b c d) (i + 4) ≡ d
four-fourth xs i a b c d has =
    let l = length-set xs (i + 1) a in
    let m = length-set (slice_set xs (i + 1) a) (i + 2) b in
    let n = length-set (slice_set (slice_set xs (i + 1) a) (i + 2) b) (i + 3) c in
    get_or-set_same (slice_set (slice_set (slice_set xs (i + 1) a) (i + 2) b) (i + 3) c) (i + 4) d 0 (omega (arith, l, m, n, has))

pub sets-link : (tree : List ℕ) (p low high from via far : ℕ) → HasPlace tree p → low + 2 ^ 64 * high ≡ far →
    SetsLink p far from via tree (set_four tree (5 * p) low high from via)
unfolding rank_at far_at from_at via_at
sets-link tree p low high from via far has sum = record {
  far_is = (let a = four-first tree (5 * p) low high from via has in
      let b = four-second tree (5 * p) low high from via has in
      omega (arith, a, b, sum));
  from_is = four-third tree (5 * p) low high from via has;
  via_is = four-fourth tree (5 * p) low high from via has;
  others = λ k ne. record {
    far = (let a = four-apart tree (5 * p) (5 * k + 1) low high from via (omega arith) (omega arith) (omega arith) (omega arith) in
        let b = four-apart tree (5 * p) (5 * k + 2) low high from via (omega arith) (omega arith) (omega arith) (omega arith) in
        omega (arith, a, b));
    from = four-apart tree (5 * p) (5 * k + 3) low high from via (omega arith) (omega arith) (omega arith) (omega arith);
    via = four-apart tree (5 * p) (5 * k + 4) low high from via (omega arith) (omega arith) (omega arith) (omega arith);
  };
  ranks = λ k. four-apart tree (5 * p) (5 * k) low high from via (omega arith) (omega arith) (omega arith) (omega arith);
}

-- past the places no word is read
pub rank-past : (tree : List ℕ) (places k : ℕ) → length tree ≡ 5 * places → places ≤ k → rank_at tree k ≡ 0
unfolding rank_at
rank-past tree places k size past = get_or_past tree (5 * k) 0 (omega (arith, size, past))
