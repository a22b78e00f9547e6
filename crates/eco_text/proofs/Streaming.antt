use Rattle.std.proofs.Common.{◌≡◌, ℕ, ◌+◌, ◌-◌, ◌<◌, ◌≤◌, min, List, [], ◌++◌, length, take, drop, refl, ap, sym, ◌∙◌, arith, length-append, length-drop, length-take}
use Rattle.std.proofs.lemmas.List.{drop-drop, take_at, take-append-drop, drop_all}

-- a read of the next n bytes into the front of a piece
pub read_takes : (bytes piece front : List ℕ) (at n : ℕ) → at ≤ length bytes → n ≡ min (length piece) (length bytes - at) → front ≡ take (at + n - at) (drop at bytes) →
    (n ≤ length (front ++ drop n piece)) × (drop at bytes ≡ take n (front ++ drop n piece) ++ drop (at + n) bytes) × (n ≡ 0 → 0 < length (front ++ drop n piece) → drop (at + n) bytes ≡ [])
read_takes bytes piece front at n within count is =
    let whole : at + n - at ≡ n = omega arith in
    let front_is : front ≡ take n (drop at bytes) = rw whole at is in
    let len : length front ≡ n = ap length front_is ∙ simp (length-take, length-drop) (omega arith) in (
      (let all : length front + (length piece - n) ≡ length (front ++ drop n piece) = simp (length-append, length-drop) refl in omega arith),
      sym (take-append-drop n (drop at bytes)) ∙ rw (take_at front (drop n piece) n len, front_is, drop-drop n at bytes) refl,
      λ none room. drop_all (at + n) bytes (let all : length front + (length piece - n) ≡ length (front ++ drop n piece) = simp (length-append, length-drop) refl in omega arith),
    )
