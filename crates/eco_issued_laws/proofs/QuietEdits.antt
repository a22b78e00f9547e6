-- Edits that put a stretch of a text in its own place change nothing.
use Rattle.std.specs.List.{AllByRecursion}
use Rattle.std.proofs.Common.{◌≡◌, ℕ, zero, suc, ◌+◌, ◌-◌, ◌≤◌, List, [], ◌∷◌, ◌++◌, take, drop, slice_range, refl, ap, sym, ◌∙◌, arith, append_assoc}
use Rattle.std.proofs.lemmas.List.{drop-drop, take-append-drop}
use Rattle.eco_issued_laws.specs.Issued.{Edit, edited, InOrder}

-- ---- slices

nothing : (k : ℕ) → let none : List ℕ = [] in take k none ≡ none
nothing zero = refl
nothing (suc k) = refl

take_more : (m n : ℕ) (xs : List ℕ) → take (m + n) xs ≡ take m xs ++ take n (drop m xs)
take_more zero n xs = ap (λ k. take k xs) (omega arith)
take_more (suc m) n [] = nothing (suc m + n) ∙ sym (nothing n)
take_more (suc m) n (x ∷ xs) = ap (λ k. take k (x ∷ xs)) (let e : suc m + n ≡ suc (m + n) = omega arith in e) ∙ ap (λ ys. x ∷ ys) (take_more m n xs)

pub slice_split : (text : List ℕ) (a b c : ℕ) → a ≤ b → b ≤ c → slice_range text a c ≡ slice_range text a b ++ slice_range text b c
slice_split text a b c p q =
    let long : c - a ≡ b - a + (c - b) = omega (arith, p, q) in
    let at : a + (b - a) ≡ b = omega (arith, p) in
    ap (λ k. take k (drop a text)) long ∙ take_more (b - a) (c - b) (drop a text) ∙ ap (λ ys. take (b - a) (drop a text) ++ take (c - b) ys) (drop-drop (b - a) a text ∙ ap (λ k. drop k text) at)

drop_split : (text : List ℕ) (a b : ℕ) → a ≤ b → drop a text ≡ slice_range text a b ++ drop b text
drop_split text a b p =
    let at : a + (b - a) ≡ b = omega (arith, p) in
    sym (take-append-drop (b - a) (drop a text)) ∙ ap (λ ys. take (b - a) (drop a text) ++ ys) (drop-drop (b - a) a text ∙ ap (λ k. drop k text) at)

pub empty_slice : (text : List ℕ) (n : ℕ) → slice_range text n n ≡ []
empty_slice text n = ap (λ k. take k (drop n text)) (let e : n - n ≡ 0 = omega arith in e)

-- the edited text from a place on, up to a later one before any edit, and from there on
pub ahead : (text : List ℕ) (at m hi : ℕ) (es : List Edit) → at ≤ m → InOrder m hi es → edited text at es ≡ slice_range text at m ++ edited text m es
ahead text at m hi [] le order = drop_split text at m le
ahead text at m hi (e ∷ es) le order =
    ap (λ k. k ++ (e.bytes ++ edited text e.end es)) (slice_split text at m e.start le order.0) ∙ append_assoc (slice_range text at m) (slice_range text m e.start) (e.bytes ++ edited text e.end es)

-- an edit that puts a stretch in its own place changes nothing
pub quiet : (text : List ℕ) (at hi : ℕ) (e : Edit) (es : List Edit) → e.bytes ≡ slice_range text e.start e.end → at ≤ e.start → e.start ≤ e.end → InOrder e.end hi es → edited text at (e ∷ es) ≡ edited text at es
quiet text at hi e es same a b order =
    ap (λ k. slice_range text at e.start ++ (k ++ edited text e.end es)) same
    ∙ sym (append_assoc (slice_range text at e.start) (slice_range text e.start e.end) (edited text e.end es))
    ∙ ap (λ k. k ++ edited text e.end es) (sym (slice_split text at e.start e.end a b))
    ∙ sym (ahead text at e.end hi es (omega (arith, a, b)) order)

pub order_earlier : (lo lo' hi : ℕ) (es : List Edit) → lo' ≤ lo → InOrder lo hi es → InOrder lo' hi es
order_earlier lo lo' hi [] le order = omega (arith, le, order)
order_earlier lo lo' hi (e ∷ es) le order = (omega (arith, le, order.0), order.1, order.2)

abbrev pub IsQuiet : List ℕ → Edit → Type 0
IsQuiet text e = e.bytes ≡ slice_range text e.start e.end

-- edits none of which changes anything
pub all_quiet : (text : List ℕ) (at lo hi : ℕ) (es : List Edit) → AllByRecursion (IsQuiet text) es → at ≤ lo → InOrder lo hi es → edited text at es ≡ drop at text
all_quiet text at lo hi [] all before order = refl
all_quiet text at lo hi (e ∷ es) all before order = quiet text at hi e es all.0 (omega (arith, before, order.0)) order.1 order.2 ∙ all_quiet text at e.start hi es all.1 (omega (arith, before, order.0)) (order_earlier e.end e.start hi es order.1 order.2)
