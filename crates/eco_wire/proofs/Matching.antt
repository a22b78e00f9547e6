-- What `matchit` finds is a row whose pattern the path has.
use Rattle.std.proofs.Common.{◌≡◌, ◌≢◌, ℕ, zero, suc, ◌-◌, ◌<◌, ◌≤◌, ◌⊎◌, ⊎_elim, inl, inr, Bool, true, false, cond, ◌==◌, ltb, ◌&&◌, List, [], ◌∷◌, ◌++◌, length, take, drop, get_or, Option, Some, None, refl, sym, ap, ◌∙◌, arith, subst, ltb-true}
use Rattle.std.specs.Prelude.{All}
use Rattle.std.specs.List.{list_all}
use Rattle.std.proofs.lemmas.Bool.{eqb-true, eqb-false}
use Rattle.std.proofs.lemmas.List.{take-append-drop, length-take-le}
use Rattle.std.proofs.lemmas.List.Elements.{All-head, All-tail, All-cons, All-nil}
use Rattle.matchit.specs.Rows.{RowsOf, param_token, catch_all_token}
use Rattle.matchit.specs.Seek.{own as ending, step, or_else, seek, param_step, segment, has_slash, longest_from, longest_suffix, better, cuts, with_suffix, same_text, slash}
use Rattle.std.proofs.Math.Seq.{take-length}
use Rattle.matchit.proofs.CountLemmas.{length-segment}
use Rattle.eco_wire.proofs.Digits.{both}
use Rattle.eco_wire.specs.Routes.{IsSegment}

-- the path has this pattern: bytes stand for themselves, and a parameter for a segment
abbrev pub Matches : List ℕ → List ℕ → Type 0
Matches [] path = path ≡ []
Matches (x ∷ pattern) path =
    ((rest : List ℕ) × (path ≡ x ∷ rest) × Matches pattern rest)
    ⊎ (((name : List ℕ) × (rest : List ℕ) × (x ≡ param_token) × IsSegment name × (path ≡ name ++ rest) × Matches pattern rest)
    ⊎ (x ≡ catch_all_token))

abbrev pub IsPlain : List ℕ → Type 0
IsPlain text = All (λ b. b ≢ 47) text

front_plain : (p : List ℕ) (n : ℕ) → n < length (segment p) → IsPlain (take n p)
front_plain [] n less = absurd (omega arith)
front_plain (b ∷ bs) zero less = All-nil (λ b. b ≢ 47)
front_plain (b ∷ bs) (suc n) less = by_slash (front_plain bs n) (b == slash) refl less
  where
    by_slash : (n < length (segment bs) → IsPlain (take n bs)) → (test : Bool) → (b == slash) ≡ test
        → suc n < length (cond test (b ∷ []) (b ∷ segment bs)) → IsPlain (b ∷ take n bs)
    by_slash later true is less = absurd (omega arith)
    by_slash later false is less = All-cons (λ b. b ≢ 47) b (take n bs) (eqb-false b slash is) (later (omega arith))

whole_plain : (p : List ℕ) → has_slash p ≡ false → IsPlain p
whole_plain [] is = All-nil (λ b. b ≢ 47)
whole_plain (b ∷ bs) is = by_slash (whole_plain bs) (b == slash) refl is
  where
    by_slash : (has_slash bs ≡ false → IsPlain bs) → (test : Bool) → (b == slash) ≡ test
        → cond test true (has_slash bs) ≡ false → IsPlain (b ∷ bs)
    by_slash later true same is = cc
    by_slash later false same is = All-cons (λ b. b ≢ 47) b bs (eqb-false b slash same) (later is)

whole_segment : (p : List ℕ) → 0 < length p → has_slash p ≡ false → IsSegment (take (length p) p)
whole_segment p some is =
    subst IsSegment (sym (take-length p)) (let own : IsSegment p = record { some = some; one = whole_plain p is } in own)

-- what stands in front of a part of the segment's end is a segment
segment_front : (p : List ℕ) (n : ℕ) → 0 < n → n < length (segment p) → IsSegment (take n p)
segment_front p n some less = record {
  some = let within : n ≤ length p = omega (arith, length-segment p) in omega (arith, length-take-le n p within);
  one = front_plain p n less;
}

better_fits : (seg best suffix : List ℕ) → (0 < length best → length best < length seg)
    → 0 < length (better seg best suffix) → length (better seg best suffix) < length seg
better_fits seg best suffix fits = by_test (ltb (length best) (length suffix) && cuts seg suffix) refl
  where
    by_test : (test : Bool) → (ltb (length best) (length suffix) && cuts seg suffix) ≡ test
        → 0 < length (cond test suffix best) → length (cond test suffix best) < length seg
    by_test true is some = ltb-true _ _ (both _ _ (both _ _ is).1).0
    by_test false is some = fits some

module _ {K : Type 0} where
  -- the row stands among these
  abbrev pub HasRow : List ℕ → K → RowsOf K → Type 0
  HasRow t k [] = ⊥
  HasRow t k ((u, l) ∷ rs) = ((t ≡ u) × (k ≡ l)) ⊎ HasRow t k rs

  ending_row : (rs : RowsOf K) (k : K) → ending rs ≡ Some k → HasRow [] k rs
  ending_row [] k is = cc
  ending_row (([], l) ∷ rs) k is = inl (refl, cc)
  ending_row ((x ∷ t, l) ∷ rs) k is = inr (ending_row rs k is)

  step_row : (b : ℕ) (rs : RowsOf K) (t : List ℕ) (k : K) → HasRow t k (step b rs) → HasRow (b ∷ t) k rs
  step_row b [] t k row = row
  step_row b (([], l) ∷ rs) t k row = inr (step_row b rs t k row)
  step_row b ((x ∷ u, l) ∷ rs) t k row = by_byte (step_row b rs t k) (x == b) refl row
    where
      by_byte : (HasRow t k (step b rs) → HasRow (b ∷ t) k rs) → (test : Bool) → (x == b) ≡ test
          → HasRow t k (cond test ((u, l) ∷ step b rs) (step b rs)) → HasRow (b ∷ t) k ((x ∷ u, l) ∷ rs)
      by_byte later true is (inl same) = let byte : x ≡ b = eqb-true x b is in inl (cc, same.1)
      by_byte later true is (inr row) = inr (later row)
      by_byte later false is row = inr (later row)

  suffix_row : (s : List ℕ) (rs : RowsOf K) (t : List ℕ) (k : K) → HasRow t k (with_suffix s rs) → HasRow t k rs
  suffix_row s [] t k row = row
  suffix_row s ((u, l) ∷ rs) t k row = by_text (suffix_row s rs t k) (same_text (segment u) s) row
    where
      by_text : (HasRow t k (with_suffix s rs) → HasRow t k rs) → (test : Bool)
          → HasRow t k (cond test ((u, l) ∷ with_suffix s rs) (with_suffix s rs)) → HasRow t k ((u, l) ∷ rs)
      by_text later true (inl same) = inl same
      by_text later true (inr row) = inr (later row)
      by_text later false row = inr (later row)

  -- a suffix that was found is shorter than the segment
  longest_fits : (seg best : List ℕ) (rs : RowsOf K) → (0 < length best → length best < length seg)
      → 0 < length (longest_from seg best rs) → length (longest_from seg best rs) < length seg
  longest_fits seg best [] fits some = fits some
  longest_fits seg best ((u, l) ∷ rs) fits some =
      longest_fits seg (better seg best (segment u)) rs (better_fits seg best (segment u) fits) some

  abbrev pub Takes : RowsOf K → List ℕ → ℕ × RowsOf K → Type 0
  Takes rs p r =
      (t : List ℕ) (k : K) → HasRow t k r.1 → HasRow t k rs × IsSegment (take r.0 p) × (0 < r.0)

  param_takes : (rs : RowsOf K) (p : List ℕ) → 0 < length p → Takes rs p (param_step rs p)
  unfolding param_step
  param_takes rs p some = by_suffix (ltb 0 (length found)) refl
    where
      found : List ℕ
      found = longest_suffix (segment p) rs

      on_slash : (test : Bool) → has_slash p ≡ test → Takes rs p (cond {A = ℕ × RowsOf K} test (0, []) (length p, rs))
      on_slash true is t k row = absurd row
      on_slash false is t k row =
          (row, whole_segment p some is, some)

      by_suffix : (test : Bool) → ltb 0 (length found) ≡ test
          → Takes rs p (cond {A = ℕ × RowsOf K} test (length (segment p) - length found, with_suffix found rs) (cond (has_slash p) (0, []) (length p, rs)))
      by_suffix true is t k row =
          let here : 0 < length found = ltb-true _ _ is in
          let less : length found < length (segment p) = longest_fits (segment p) [] rs (λ none. absurd (omega arith)) here in
          (suffix_row found rs t k row, segment_front p (length (segment p) - length found) (omega arith) (omega arith), omega arith)
      by_suffix false is t k row = on_slash (has_slash p) refl t k row

  or_cases : (x y : Option K) (k : K) → or_else x y ≡ Some k → (x ≡ Some k) ⊎ (y ≡ Some k)
  or_cases None y k is = inr is
  or_cases (Some l) y k is = inl is

  -- what is found is a row whose pattern the path has
  pub sound : (path : List ℕ) (skip : ℕ) (rs : RowsOf K) (k : K) → seek skip rs path ≡ Some k
      → (t : List ℕ) × HasRow t k rs × Matches t (drop skip path)
  unfolding seek
  sound [] zero rs k found = ([], ending_row rs k found, refl)
  sound [] (suc skip) rs k found = ([], ending_row rs k found, refl)
  sound (b ∷ path) (suc skip) rs k found = sound path skip rs k found
  sound (b ∷ path) zero rs k found =
      let p = b ∷ path in
      let r = param_step (step param_token rs) p in
      let rest = or_else (seek (r.0 - 1) r.1 path) (ending (step catch_all_token rs)) in
      let Found : Type 0 = (t : List ℕ) × HasRow t k rs × Matches t p in
      let on_byte : seek 0 (step b rs) path ≡ Some k → Found = λ is.
      let (t, row, m) = sound path 0 (step b rs) k is in
      (b ∷ t, step_row b rs t k row, inl (path, refl, m)) in
      let on_param : seek (r.0 - 1) r.1 path ≡ Some k → Found = λ is.
      let (t, row, m) = sound path (r.0 - 1) r.1 k is in
      let takes = param_takes (step param_token rs) p (omega arith) t k row in
      let behind : drop (r.0 - 1) path ≡ drop r.0 p =
      ap (λ n. drop n p) (let one : suc (r.0 - 1) ≡ r.0 = omega (arith, takes.2) in one) in (
        param_token ∷ t,
        step_row param_token rs t k takes.0,
        inr (inl (take r.0 p, drop r.0 p, refl, takes.1, sym (take-append-drop r.0 p), subst (Matches t) behind m)),
      ) in
      let on_end : ending (step catch_all_token rs) ≡ Some k → Found = λ is. (
        catch_all_token ∷ [],
        step_row catch_all_token rs [] k (ending_row (step catch_all_token rs) k is),
        inr (inr refl),
      ) in
      ⊎_elim on_byte (λ is. ⊎_elim on_param on_end (or_cases _ _ k is)) (or_cases (seek 0 (step b rs) path) rest k found)

-- each byte of a text is one
abbrev pub small_bytes : List ℕ → Bool
small_bytes w = list_all (λ x. ltb x 256) w

pub small_all : (w : List ℕ) → small_bytes w ≡ true → All (λ x. x < 256) w
small_all [] is = All-nil (λ x. x < 256)
small_all (x ∷ w) is =
    let parts = both (ltb x 256) (small_bytes w) is in
    All-cons (λ x. x < 256) x w (ltb-true _ _ parts.0) (small_all w parts.1)

-- a pattern of bytes alone is its path
pub plain_match : (t path : List ℕ) → All (λ x. x < 256) t → Matches t path → path ≡ t
plain_match [] path small m = m
plain_match (x ∷ t) path small (inl (rest, is, m)) =
    is ∙ ap (λ r. x ∷ r) (plain_match t rest (All-tail (λ x. x < 256) x t small) m)
plain_match (x ∷ t) path small (inr (inl (name, rest, is, segment, cut, m))) =
    absurd (let less : x < 256 = All-head (λ x. x < 256) x t small in omega arith)
plain_match (x ∷ t) path small (inr (inr is)) =
    absurd (let less : x < 256 = All-head (λ x. x < 256) x t small in omega arith)

-- the bytes in front of a pattern stand in front of its path
pub front_match : (w t path : List ℕ) → All (λ x. x < 256) w → Matches (w ++ t) path → (rest : List ℕ) × (path ≡ w ++ rest) × Matches t rest
front_match [] t path small m = (path, refl, m)
front_match (x ∷ w) t path small (inl (later, is, m)) =
    let (rest, cut, n) = front_match w t later (All-tail (λ x. x < 256) x w small) m in
    (rest, is ∙ ap (λ r. x ∷ r) cut, n)
front_match (x ∷ w) t path small (inr (inl (name, rest, is, segment, cut, m))) =
    absurd (let less : x < 256 = All-head (λ x. x < 256) x w small in omega arith)
front_match (x ∷ w) t path small (inr (inr is)) =
    absurd (let less : x < 256 = All-head (λ x. x < 256) x w small in omega arith)

-- a parameter stands for a segment of bytes
pub param_match : (t path : List ℕ) → get_or path 0 0 < 256 → Matches (param_token ∷ t) path
    → (name : List ℕ) × (rest : List ℕ) × IsSegment name × (path ≡ name ++ rest) × Matches t rest
param_match t path byte (inl (rest, is, m)) =
    absurd (let first : get_or path 0 0 ≡ 256 = ap (λ p. get_or p 0 0) is in omega arith)
param_match t path byte (inr (inl (name, rest, is, segment, cut, m))) = (name, rest, segment, cut, m)
param_match t path byte (inr (inr is)) = absurd (omega arith)
