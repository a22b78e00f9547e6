-- Names that differ, one after another.
use Rattle.std.proofs.Common.{◌≡◌, ℕ, ◌&&◌, ◌||◌, not, Bool, true, false, List, [], ◌∷◌, ◌+◌, drop, Ordering, Less, Equal, Greater, is_eq, nat_cmp, Bor, refl, ap, ap₂, ◌∙◌, sym}
use Rattle.std.specs.List.{list_any, list_all}
use Rattle.std.specs.Str.{bytes_eq}
use Rattle.std.specs.Ordering.{match_ordering, ordering_reverse}
use Rattle.std.specs.Cmp.Lexicographic.{slice_cmp}
use Rattle.std.specs.BTreeSet.{insert_key}
use Rattle.std.specs.BTreeMap.{is_at}
use Rattle.std.proofs.lemmas.Cmp.{nat_list_cmp_total}
use Rattle.std.proofs.lemmas.Map.Text.{is_eq-slice_cmp}
use Rattle.eco_func.specs.Masters.{all_differ}

abbrev pub has : List (Bor (List ℕ)) → List ℕ → Bool
has seen n = list_any (λ s. bytes_eq n s.now) seen

abbrev pub fresh : List (Bor (List ℕ)) → List (List ℕ) → Bool
fresh seen names = list_all (λ n. not (has seen n)) names

-- the names differ from each other and from those that were seen
abbrev pub differ_so_far : List (Bor (List ℕ)) → List (List ℕ) → Bool
differ_so_far seen names = all_differ names && fresh seen names

abbrev order : Bor (List ℕ) → Bor (List ℕ) → Ordering
order a b = slice_cmp nat_cmp a.now b.now

bytes_eq-sym : (a b : List ℕ) → bytes_eq a b ≡ bytes_eq b a
bytes_eq-sym a b = sym (is_eq-slice_cmp a b) ∙ ap is_eq (nat_list_cmp_total.antisymm a b) ∙ turned (slice_cmp nat_cmp b a) ∙ is_eq-slice_cmp b a
  where
    turned : (o : Ordering) → is_eq (ordering_reverse o) ≡ is_eq o
    turned Less = refl
    turned Equal = refl
    turned Greater = refl

-- ---- a set's names

pub has_from : (seen : List (Bor (List ℕ))) (k : Bor (List ℕ)) → list_any (is_at (order k)) seen ≡ has seen k.now
has_from [] k = refl
has_from (s ∷ seen) k = ap₂ (λ a b. a || b) (is_eq-slice_cmp k.now s.now) (has_from seen k)

again : (a b : Bool) → (a || b) ≡ (a || (a || b))
again true b = refl
again false b = refl

swapped : (a b c : Bool) → (a || (b || c)) ≡ (b || (a || c))
swapped true true c = refl
swapped true false c = refl
swapped false true c = refl
swapped false false c = refl

inserted : (seen : List (Bor (List ℕ))) (k : Bor (List ℕ)) (n : List ℕ) → has (insert_key order seen k) n ≡ (bytes_eq n k.now || has seen n)
inserted [] k n = refl
inserted (s ∷ seen) k n = by (inserted seen k n) (order k s) refl
  where
    by : has (insert_key order seen k) n ≡ (bytes_eq n k.now || has seen n) → (o : Ordering) → order k s ≡ o → has (match_ordering o (k ∷ s ∷ seen) (s ∷ seen) (s ∷ insert_key order seen k)) n ≡ (bytes_eq n k.now || has (s ∷ seen) n)
    by ih Less e = refl
    by ih Equal e =
        let same : bytes_eq n s.now ≡ bytes_eq n k.now = sym (is_eq-slice_cmp n s.now) ∙ ap is_eq (nat_list_cmp_total.antisymm n s.now) ∙ ap (λ o. is_eq (ordering_reverse o)) (sym (nat_list_cmp_total.congr k.now s.now n e)) ∙ ap is_eq (sym (nat_list_cmp_total.antisymm n k.now)) ∙ is_eq-slice_cmp n k.now in
        again (bytes_eq n s.now) (has seen n) ∙ ap (λ b. b || has (s ∷ seen) n) same
    by ih Greater e = ap (λ b. bytes_eq n s.now || b) ih ∙ swapped (bytes_eq n s.now) (bytes_eq n k.now) (has seen n)

-- ---- one more name

shuffled : (a h l f : Bool) → (not (a || h) && (not l && f)) ≡ (not (a || l) && (not h && f))
shuffled true h l f = refl
shuffled false true true f = refl
shuffled false true false f = refl
shuffled false false true f = refl
shuffled false false false f = refl

fresh_inserted : (seen : List (Bor (List ℕ))) (k : Bor (List ℕ)) (names : List (List ℕ)) → fresh (insert_key order seen k) names ≡ (not (list_any (bytes_eq k.now) names) && fresh seen names)
fresh_inserted seen k [] = refl
fresh_inserted seen k (m ∷ ms) =
    ap₂ (λ a b. not a && b) (inserted seen k m ∙ ap (λ a. a || has seen m) (bytes_eq-sym m k.now)) (fresh_inserted seen k ms)
    ∙ shuffled (bytes_eq k.now m) (has seen m) (list_any (bytes_eq k.now) ms) (fresh seen ms)

never : (a b : Bool) → (a && (false && b)) ≡ false
never true b = refl
never false b = refl

joined : (l d f : Bool) → ((not l && d) && (true && f)) ≡ (d && (not l && f))
joined true true f = refl
joined true false f = refl
joined false d f = refl

-- a name that was seen
pub seen_before : (seen : List (Bor (List ℕ))) (n : List ℕ) (rest : List (List ℕ)) → has seen n ≡ true → differ_so_far seen (n ∷ rest) ≡ false
seen_before seen n rest h = ap (λ b. all_differ (n ∷ rest) && (not b && fresh seen rest)) h ∙ never (all_differ (n ∷ rest)) (fresh seen rest)

-- a new name
pub seen_now : (seen : List (Bor (List ℕ))) (k : Bor (List ℕ)) (rest : List (List ℕ)) → has seen k.now ≡ false → differ_so_far seen (k.now ∷ rest) ≡ differ_so_far (insert_key order seen k) rest
seen_now seen k rest h =
    ap (λ b. all_differ (k.now ∷ rest) && (not b && fresh seen rest)) h
    ∙ joined (list_any (bytes_eq k.now) rest) (all_differ rest) (fresh seen rest)
    ∙ ap (λ b. all_differ rest && b) (sym (fresh_inserted seen k rest))

-- none was seen
pub seen_none : (names : List (List ℕ)) → all_differ names ≡ differ_so_far [] names
seen_none names = plus (all_differ names) ∙ ap (λ b. all_differ names && b) (sym (all_fresh names))
  where
    plus : (a : Bool) → a ≡ (a && true)
    plus true = refl
    plus false = refl

    all_fresh : (names : List (List ℕ)) → fresh [] names ≡ true
    all_fresh [] = refl
    all_fresh (n ∷ ns) = all_fresh ns

module _ (all : Bool) (names : List (List ℕ)) (seen : List (Bor (List ℕ))) (i : ℕ) (n : List ℕ) (k : Bor (List ℕ)) (left : drop i names ≡ n ∷ drop (i + 1) names) (same : k.now ≡ n)
    (added : Bool) (new : added ≡ not (list_any (is_at (order k)) seen)) (sofar : all ≡ differ_so_far seen (drop i names)) where
  front : all ≡ differ_so_far seen (k.now ∷ drop (i + 1) names)
  front = sofar ∙ ap (differ_so_far seen) (left ∙ ap (λ m. m ∷ drop (i + 1) names) (sym same))

  other : (b : Bool) → added ≡ b → has seen k.now ≡ not b
  other b is = sym (has_from seen k) ∙ turn (list_any (is_at (order k)) seen) b (sym new ∙ is)
    where
      turn : (a b : Bool) → not a ≡ b → a ≡ not b
      turn true b h = ap not h
      turn false b h = ap not h

  -- the name stands twice
  pub twice : added ≡ false → false ≡ all
  twice is = sym (front ∙ seen_before seen k.now (drop (i + 1) names) (other false is))

  -- the name is new
  pub once : added ≡ true → all ≡ differ_so_far (insert_key order seen k) (drop (i + 1) names)
  once is = front ∙ seen_now seen k (drop (i + 1) names) (other true is)
