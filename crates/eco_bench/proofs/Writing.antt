use Rattle.std.proofs.Common.{ℕ, ◌+◌, ◌-◌, ◌≤◌, ◌≡◌, List, ◌++◌, length, take, drop, refl, sym, ap, ◌∙◌, arith, length-append, length-drop, inl, inr}
use Rattle.std.proofs.Math.Seq.{take-append_seam, drop-append_seam, drop-append-add}
use Rattle.std.proofs.lemmas.List.{length-take-le, drop-drop, take-append-le, drop-append-le, take-append-drop}
use Rattle.eco_bench.specs.declared.span.Span.{Span}
use Rattle.eco_bench.specs.Spans.{ShareNoWord}
use Rattle.eco_bench.specs.Region.{Area, overwritten, with_words, words_of, IsWithin, ChangesOnly, SetsWords}

pub take-front : (n : ℕ) (xs ys : List ℕ) → n ≡ length xs → take n (xs ++ ys) ≡ xs
take-front n xs ys e = rw e (take-append_seam xs ys)

pub drop-front : (n : ℕ) (xs ys : List ℕ) → n ≡ length xs → drop n (xs ++ ys) ≡ ys
drop-front n xs ys e = rw e (drop-append_seam xs ys)

-- words that are written over others, all within the list
pub overwritten-is : (words part : List ℕ) (start : ℕ) → start + length part ≤ length words →
    overwritten words start part ≡ take start words ++ (part ++ drop (length part) (drop start words))
overwritten-is words part start fits =
    let new : List ℕ = take start words ++ (part ++ drop (length part) (drop start words)) in
    let a = length-take-le start words (omega arith) in
    let b = length-drop start words in
    let c = length-drop (length part) (drop start words) in
    let d = length-append part (drop (length part) (drop start words)) in
    let e = length-append (take start words) (part ++ drop (length part) (drop start words)) in
    take-front (length words) new (drop (length new) words) (omega (arith, a, b, c, d, e, fits))

pub length-overwritten : (words part : List ℕ) (start : ℕ) → start + length part ≤ length words →
    length (overwritten words start part) ≡ length words
length-overwritten words part start fits =
    let a = length-take-le start words (omega arith) in
    let b = length-drop start words in
    let c = length-drop (length part) (drop start words) in
    let d = length-append part (drop (length part) (drop start words)) in
    let e = length-append (take start words) (part ++ drop (length part) (drop start words)) in
    ap (λ (xs : List ℕ). length xs) (overwritten-is words part start fits) ∙ omega (arith, a, b, c, d, e, fits)

-- a piece that ends within the first list
pub piece-front : (a k : ℕ) (xs ys : List ℕ) → a + k ≤ length xs → take k (drop a (xs ++ ys)) ≡ take k (drop a xs)
piece-front a k xs ys fits =
    let d = length-drop a xs in
    ap (λ (zs : List ℕ). take k zs) (drop-append-le a xs ys (omega arith)) ∙ take-append-le k (drop a xs) ys (omega (arith, d))

pub piece-before : (words part : List ℕ) (start a k : ℕ) → start + length part ≤ length words → a + k ≤ start →
    take k (drop a (overwritten words start part)) ≡ take k (drop a words)
piece-before words part start a k fits before =
    let len = length-take-le start words (omega arith) in
    let tail : List ℕ = part ++ drop (length part) (drop start words) in
    ap (λ (zs : List ℕ). take k (drop a zs)) (overwritten-is words part start fits)
    ∙ piece-front a k (take start words) tail (omega (arith, len))
    ∙ sym (piece-front a k (take start words) (drop start words) (omega (arith, len)))
    ∙ ap (λ (zs : List ℕ). take k (drop a zs)) (take-append-drop start words)

pub tail-after : (words part : List ℕ) (start a : ℕ) → start + length part ≤ length words → start + length part ≤ a →
    drop a (overwritten words start part) ≡ drop a words
tail-after words part start a fits after =
    let d : ℕ = a - start - length part in
    let rest : List ℕ = drop (length part) (drop start words) in
    let len = length-take-le start words (omega arith) in
    let place : a ≡ length (take start words) + (length part + d) = omega (arith, len) in
    let sum : start + (length part + d) ≡ a = omega arith in
    ap (λ (zs : List ℕ). drop a zs) (overwritten-is words part start fits)
    ∙ ap (λ (n : ℕ). drop n (take start words ++ (part ++ rest))) place
    ∙ drop-append-add (take start words) (part ++ rest) (length part + d)
    ∙ drop-append-add part rest d
    ∙ drop-drop d (length part) (drop start words)
    ∙ drop-drop (length part + d) start words
    ∙ ap (λ (n : ℕ). drop n words) sum

pub piece-written : (words part : List ℕ) (start : ℕ) → start + length part ≤ length words →
    take (length part) (drop start (overwritten words start part)) ≡ part
piece-written words part start fits =
    let rest : List ℕ = drop (length part) (drop start words) in
    let len = length-take-le start words (omega arith) in
    ap (λ (zs : List ℕ). take (length part) (drop start zs)) (overwritten-is words part start fits)
    ∙ ap (λ (zs : List ℕ). take (length part) zs) (drop-front start (take start words) (part ++ rest) (sym len))
    ∙ take-append_seam part rest

-- the words of a span that others are written over
pub words_of-written : (old : Area) (span : Span) (part : List ℕ) → IsWithin old span → old.used ≤ length old.words → length part ≡ span.len →
    words_of (with_words old span.start part) span ≡ part
words_of-written old span part stands fits size =
    let count : span.start + span.len - span.start ≡ length part = omega (arith, size) in
    ap (λ (n : ℕ). take n (drop span.start (overwritten old.words span.start part))) count
    ∙ piece-written old.words part span.start (omega (arith, stands, fits, size))

pub words_of-apart : (old : Area) (span other : Span) (part : List ℕ) → IsWithin old span → old.used ≤ length old.words → length part ≡ span.len → ShareNoWord span other →
    words_of (with_words old span.start part) other ≡ words_of old other
words_of-apart old span other part stands fits size apart =
    let within : span.start + length part ≤ length old.words = omega (arith, stands, fits, size) in
    let count : other.start + other.len - other.start ≡ other.len = omega arith in
    elim apart [
      | inl after ↦ ap (λ (zs : List ℕ). take (other.start + other.len - other.start) zs) (tail-after old.words part span.start other.start within (omega (arith, after, size)))
      | inr before ↦ piece-before old.words part span.start other.start (other.start + other.len - other.start) within (omega (arith, before, count))
    ]

pub written-only : (old : Area) (span : Span) (part : List ℕ) → IsWithin old span → old.used ≤ length old.words → length part ≡ span.len →
    ChangesOnly old (with_words old span.start part) span
written-only old span part stands fits size = record {
  used = refl;
  standing = refl;
  size = length-overwritten old.words part span.start (omega (arith, stands, fits, size));
  apart = λ other apart. words_of-apart old span other part stands fits size apart;
}

pub written-words : (old : Area) (span : Span) (part : List ℕ) → IsWithin old span → old.used ≤ length old.words → length part ≡ span.len →
    SetsWords old (with_words old span.start part) span part
written-words old span part stands fits size = record {
  changed = words_of-written old span part stands fits size;
  only = written-only old span part stands fits size;
}
