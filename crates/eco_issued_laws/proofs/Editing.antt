-- Words of an edited text.
use Rattle.std.proofs.Common.{◌≡◌, ℕ, zero, suc, ◌+◌, ◌-◌, ◌<◌, ◌≤◌, false, List, [], ◌∷◌, ◌++◌, length, take, drop, slice_range, refl, ap, sym, ◌∙◌, subst, arith, append_assoc}
use Rattle.std.proofs.lemmas.List.{length-append, drop-drop, take-append-drop}
use Rattle.eco_text.specs.Words.{Token, Walk, word_then, between, step, walk, ◌+++◌}
use Rattle.eco_issued_laws.specs.Issued.{Edit, edited}
use Rattle.eco_text.proofs.Stepping.{Closes, stepped}
use Rattle.eco_issued_laws.proofs.Keeping.{SameAll}
use Rattle.eco_issued_laws.proofs.Cutting.{Cut, cut, Gap, gap, no_word}
use Rattle.eco_issued_laws.proofs.Pieces.{IsPiece}

-- the walk from a place of the text
pub record At (text : List ℕ) (q : ℕ) (u : Walk) : Type 0 where
  pub is : u ≡ walk between q (drop q text)
  pub within : q ≤ length text

-- the first edit comes later
abbrev pub Ahead : List ℕ → ℕ → List Edit → Type 0
Ahead text q [] = Unit {0}
Ahead text q (e ∷ es) = (q < e.start) × (e.start ≤ length text)

take_two : (n m : ℕ) (xs : List ℕ) → take (n + m) xs ≡ take n xs ++ take m (drop n xs)
take_two zero m xs = ap (λ k. take k xs) (omega arith)
take_two (suc n) m [] = take_nothing (suc n + m) ∙ sym (take_nothing m)
  where
    take_nothing : (k : ℕ) → (◌≡◌ {A = List ℕ} (take k []) [])
    take_nothing zero = refl
    take_nothing (suc k) = refl
take_two (suc n) m (x ∷ xs) = let at : suc n + m ≡ suc (n + m) = omega arith in ap (λ k. take k (x ∷ xs)) at ∙ ap (λ ys. x ∷ ys) (take_two n m xs)

pub slice_two : (text : List ℕ) (q n b : ℕ) → q + n ≤ b → slice_range text q b ≡ take n (drop q text) ++ slice_range text (q + n) b
slice_two text q n b le =
    let parts : b - q ≡ n + (b - (q + n)) = omega arith in
    ap (λ k. take k (drop q text)) parts ∙ take_two n (b - (q + n)) (drop q text) ∙ ap (λ ys. take n (drop q text) ++ take (b - (q + n)) ys) (drop-drop n q text)

edited_two : (text : List ℕ) (q n : ℕ) (es : List Edit) → Ahead text (q + n) es → edited text q es ≡ take n (drop q text) ++ edited text (q + n) es
edited_two text q n [] ahead = sym (take-append-drop n (drop q text)) ∙ ap (λ ys. take n (drop q text) ++ ys) (drop-drop n q text)
edited_two text q n (e ∷ es) ahead =
    ap (λ ys. ys ++ (e.bytes ++ edited text e.end es)) (slice_two text q n e.start (omega (arith, ahead.0)))
    ∙ append_assoc (take n (drop q text)) (slice_range text (q + n) e.start) (e.bytes ++ edited text e.end es)

closes_take : (bs : List ℕ) (n : ℕ) (z : List ℕ) → Closes bs → 0 < n → n ≤ length bs → Closes (take n bs ++ z)
closes_take bs zero z c lt le = absurd (omega (arith, lt))
closes_take [] (suc n) z c lt le = absurd (omega (arith, le))
closes_take (b ∷ bs) (suc n) z c lt le = c

pub drop_length : (q : ℕ) (xs : List ℕ) → q ≤ length xs → length (drop q xs) + q ≡ length xs
drop_length q xs le = omega (arith, le, ap length (take-append-drop q xs), length-append (take q xs) (drop q xs), take_length q xs le)
  where
    take_length : (k : ℕ) (ys : List ℕ) → k ≤ length ys → length (take k ys) ≡ k
    take_length zero ys le = refl
    take_length (suc k) [] le = absurd (omega (arith, le))
    take_length (suc k) (y ∷ ys) le = let rest : length (take k ys) ≡ k = take_length k ys (omega (arith, le)) in omega (arith, rest)

pub closes_edited : (text : List ℕ) (q : ℕ) (es : List Edit) → Closes (drop q text) → q ≤ length text → Ahead text q es → Closes (edited text q es)
closes_edited text q [] c le ahead = c
closes_edited text q (e ∷ es) c le ahead =
    closes_take (drop q text) (e.start - q) (e.bytes ++ edited text e.end es) c (omega (arith, ahead.0)) (omega (arith, ahead.1, drop_length q text le))

-- a plain word of the text ends here, and the text goes on
pub record Behind (text : List ℕ) (q : ℕ) (ts : List Token) (end : ℕ) (r : Walk) : Type 0 where
  pub at : At text end r
  pub closed : Closes (drop end text)
  pub later : q ≤ end
  -- the same words stand in the edited text
  pub again : (p : ℕ) (es : List Edit) → Ahead text end es → (ss : List Token) × (k : ℕ) × SameAll ts ss × (walk between p (edited text q es) ≡ ss +++ walk between k (edited text end es))
  -- and they are a piece
  pub piece : IsPiece (slice_range text q end) ts

pub behind : (text : List ℕ) (q : ℕ) (u : Walk) (fs : List Token) (t : Token) (r : Walk) → At text q u → u ≡ (fs ++ t ∷ []) +++ r → t.quoted ≡ false → Behind text q (fs ++ t ∷ []) t.end r
behind text q u fs t r at e quoted = record {
  at = record { is = c.rest ∙ ap (λ ys. walk between (q + c.n) ys) (drop-drop c.n q text) ∙ ap (λ k. walk between k (drop k text)) (sym c.end_is); within = omega (arith, c.end_is, c.within, drop_length q text at.within) };
  closed = closes;
  later = omega (arith, c.end_is);
  again = found;
  piece = whole;
}
  where
    c : Cut between q (drop q text) (fs ++ t ∷ []) t.end r
    c = cut (drop q text) between q fs t r (sym at.is ∙ e) quoted

    closes : Closes (drop t.end text)
    closes = subst (λ ys. Closes ys) (drop-drop c.n q text ∙ ap (λ k. drop k text) (sym c.end_is)) c.closed

    end_within : t.end ≤ length text
    end_within = omega (arith, c.end_is, c.within, drop_length q text at.within)

    found : (p : ℕ) (es : List Edit) → Ahead text t.end es → (ss : List Token) × (k : ℕ) × SameAll (fs ++ t ∷ []) ss × (walk between p (edited text q es) ≡ ss +++ walk between k (edited text t.end es))
    found p es ahead =
        let y = c.again between p (edited text t.end es) tt (closes_edited text t.end es closes end_within ahead) in
        (y.0, p + c.n, y.1, ap (λ ys. walk between p ys) (edited_two text q c.n es (subst (λ k. Ahead text k es) c.end_is ahead) ∙ ap (λ k. take c.n (drop q text) ++ edited text k es) (sym c.end_is)) ∙ y.2)

    long : length (take c.n (drop q text)) ≡ c.n
    long = omega (arith, ap length (take-append-drop c.n (drop q text)), length-append (take c.n (drop q text)) (drop c.n (drop q text)), drop_length c.n (drop q text) c.within)

    same_slice : slice_range text q t.end ≡ take c.n (drop q text)
    same_slice = let n_is : t.end - q ≡ c.n = omega (arith, c.end_is) in ap (λ k. take k (drop q text)) n_is

    whole : IsPiece (slice_range text q t.end) (fs ++ t ∷ [])
    whole p z closes' =
        let y = c.again between p z tt closes' in
        (y.0, y.1, ap (λ ys. walk between p (ys ++ z)) same_slice ∙ y.2 ∙ ap (λ k. y.0 +++ walk between (p + k) z) (sym (ap length same_slice ∙ long)))

beyond_blank : (bs : List ℕ) (q : ℕ) (t : Token) (r : Walk) → Closes bs → walk between q bs ≡ word_then t r → q < t.start
beyond_blank [] q t r closes e = absurd (no_word [] t r e)
beyond_blank (b ∷ bs) q t r closes e =
    let to : step between q b ≡ between = rw closes refl in
    let g = (gap bs (q + 1) t r).0 (sym (stepped between q b bs between [] to refl) ∙ e) in
    omega (arith, g.start_is)

-- the text from its next word on
pub record Before (text : List ℕ) (q start : ℕ) (u : Walk) : Type 0 where
  pub at : At text start u
  pub later : q ≤ start
  pub inside : start < length text
  pub beyond : Closes (drop q text) → q < start
  pub again : (p : ℕ) (z : List ℕ) → (k : ℕ) × (walk between p (slice_range text q start ++ z) ≡ walk between k z)

pub before : (text : List ℕ) (q : ℕ) (t : Token) (r : Walk) → At text q (word_then t r) → Before text q t.start (word_then t r)
before text q t r at = record {
  at = record { is = g.rest ∙ ap (λ ys. walk between (q + g.n) ys) (drop-drop g.n q text) ∙ ap (λ k. walk between k (drop k text)) (sym g.start_is); within = omega (arith, g.start_is, g.within, drop_length q text at.within) };
  later = omega (arith, g.start_is);
  inside = omega (arith, g.start_is, g.within, drop_length q text at.within);
  beyond = λ closes. beyond_blank (drop q text) q t r closes (sym at.is);
  again = λ p z. (p + g.n, ap (λ ys. walk between p (ys ++ z)) same_slice ∙ g.again p z);
}
  where
    g : Gap between q (drop q text) t.start (word_then t r)
    g = (gap (drop q text) q t r).0 (sym at.is)

    same_slice : slice_range text q t.start ≡ take g.n (drop q text)
    same_slice = let n_is : t.start - q ≡ g.n = omega (arith, g.start_is) in ap (λ k. take k (drop q text)) n_is

closes_front : (bs : List ℕ) (n : ℕ) → Closes bs → Closes (take n bs)
closes_front bs zero c = tt
closes_front [] (suc n) c = tt
closes_front (b ∷ bs) (suc n) c = c

pub closes_slice : (text : List ℕ) (a b : ℕ) → Closes (drop a text) → Closes (slice_range text a b)
closes_slice text a b c = closes_front (drop a text) (b - a) c
