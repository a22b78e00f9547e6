-- One word of a walk, by the lengths that the code finds.
use Rattle.std.proofs.Common.{◌≡◌, ℕ, suc, ◌+◌, ◌-◌, ◌<◌, ◌==◌, ◌&&◌, Bool, true, false, not, List, [], ◌∷◌, ◌++◌, length, take, drop, get_or, slice_range, Option, Some, None, refl, ap, sym, ◌∙◌, subst, arith, if◌then◌else◌, append_assoc, append-nil}
use Rattle.std.specs.List.{position_or_len}
use Rattle.std.proofs.lemmas.List.{drop_more, drop-drop}
use Rattle.std.proofs.lemmas.Grind.{common_steps}
use Rattle.eco_text.specs.Words.{Walk, finished, open_quote, word_then, between, comment, plain, quote, is_blank, plain_word, quoted_word, walk}
use Rattle.eco_text.proofs.Stepping.{flush, stepped}
use Rattle.eco_text.specs.Bytes.{begins_word, is_line_feed, quoted_len, option_add}
use Rattle.eco_text.specs.Cursor.{from}

line_blank : (b : ℕ) → (b == 10) ≡ true → is_blank b ≡ true
line_blank b i = grind (arith, common_steps)

-- a comment up to its line feed
pub in_comment : (bs : List ℕ) (p : ℕ) → walk comment p bs ≡ walk between (p + position_or_len is_line_feed bs) (drop (position_or_len is_line_feed bs) bs)
in_comment [] p = ap finished (omega arith)
in_comment (b ∷ bs) p = go (b == 10) refl (in_comment bs (p + 1))
  where
    go : (i : Bool) → (b == 10) ≡ i → walk comment (p + 1) bs ≡ walk between (p + 1 + position_or_len is_line_feed bs) (drop (position_or_len is_line_feed bs) bs) →
        walk comment p (b ∷ bs) ≡ walk between (p + position_or_len is_line_feed (b ∷ bs)) (drop (position_or_len is_line_feed (b ∷ bs)) (b ∷ bs))
    go true i rest =
        let here : position_or_len is_line_feed (b ∷ bs) ≡ 0 = rw i refl in
        let at : p ≡ p + 0 = omega arith in
        stepped comment p b bs between [] (rw i refl) refl ∙ sym (stepped between p b bs between [] (rw (line_blank b i) refl) refl) ∙ ap (λ k. walk between k (b ∷ bs)) at ∙ ap (λ k. walk between (p + k) (drop k (b ∷ bs))) (sym here)
    go false i rest =
        let here : position_or_len is_line_feed (b ∷ bs) ≡ suc (position_or_len is_line_feed bs) = rw i (omega arith) in
        let at : p + 1 + position_or_len is_line_feed bs ≡ p + suc (position_or_len is_line_feed bs) = omega arith in
        stepped comment p b bs comment [] (rw i refl) refl ∙ rest ∙ ap (λ k. walk between k (drop (position_or_len is_line_feed bs) bs)) at ∙ ap (λ k. walk between (p + k) (drop k (b ∷ bs))) (sym here)

pub in_plain : (bs : List ℕ) (s p : ℕ) (w : List ℕ) (n : ℕ) → n ≡ position_or_len is_blank bs →
    walk (plain s w) p bs ≡ word_then (plain_word s (w ++ take n bs) (p + n)) (walk between (p + n) (drop n bs))
in_plain [] s p w n e =
    let at : p ≡ p + 0 = omega arith in
    let whole : w ≡ w ++ [] = sym (append-nil w) in
    ap (λ k. word_then (plain_word s k p) (finished p)) whole ∙ ap (λ k. word_then (plain_word s (w ++ []) k) (finished k)) at ∙ ap (λ k. word_then (plain_word s (w ++ take k []) (p + k)) (walk between (p + k) (drop k []))) (sym e)
in_plain (b ∷ bs) s p w n e = go (is_blank b) refl (λ v m. in_plain bs s (p + 1) v m)
  where
    go : (i : Bool) → is_blank b ≡ i → ((v : List ℕ) (m : ℕ) → m ≡ position_or_len is_blank bs → walk (plain s v) (p + 1) bs ≡ word_then (plain_word s (v ++ take m bs) (p + 1 + m)) (walk between (p + 1 + m) (drop m bs))) →
        walk (plain s w) p (b ∷ bs) ≡ word_then (plain_word s (w ++ take n (b ∷ bs)) (p + n)) (walk between (p + n) (drop n (b ∷ bs)))
    go true i rec =
        let here : n ≡ 0 = e ∙ rw i refl in
        let at : p ≡ p + 0 = omega arith in
        let whole : w ≡ w ++ [] = sym (append-nil w) in
        flush s p w (b ∷ bs) i ∙ ap (λ k. word_then (plain_word s k p) (walk between p (b ∷ bs))) whole ∙ ap (λ k. word_then (plain_word s (w ++ []) k) (walk between k (b ∷ bs))) at
        ∙ ap (λ k. word_then (plain_word s (w ++ take k (b ∷ bs)) (p + k)) (walk between (p + k) (drop k (b ∷ bs)))) (sym here)
    go false i rec =
        let m = position_or_len is_blank bs in
        let here : n ≡ suc m = e ∙ rw i (omega arith) in
        let at : p + 1 + m ≡ p + suc m = omega arith in
        stepped (plain s w) p b bs (plain s (w ++ b ∷ [])) [] (rw i refl) (rw i refl) ∙ rec (w ++ b ∷ []) m refl
        ∙ ap (λ k. word_then (plain_word s k (p + 1 + m)) (walk between (p + 1 + m) (drop m bs))) (append_assoc w (b ∷ []) (take m bs))
        ∙ ap (λ k. word_then (plain_word s (w ++ b ∷ take m bs) k) (walk between k (drop m bs))) at
        ∙ ap (λ k. word_then (plain_word s (w ++ take k (b ∷ bs)) (p + k)) (walk between (p + k) (drop k (b ∷ bs)))) (sym here)

-- what a quoted word's length says of the walk
abbrev pub Quoted : Option ℕ → ℕ → ℕ → List ℕ → List ℕ → Walk → Type 0
Quoted None s p w bs u = u ≡ open_quote s
Quoted (Some n) s p w bs u = u ≡ word_then (quoted_word s (w ++ take n bs) (p + n)) (walk between (p + n) (drop n bs))

quoted_more : (o : Option ℕ) (s p b : ℕ) (w bs : List ℕ) (u : Walk) → Quoted o s (p + 1) (w ++ b ∷ []) bs u → Quoted (option_add 1 o) s p w (b ∷ bs) u
quoted_more None s p b w bs u e = e
quoted_more (Some n) s p b w bs u e =
    let here : suc n ≡ 1 + n = omega arith in
    let at : p + 1 + n ≡ p + suc n = omega arith in
    e ∙ ap (λ k. word_then (quoted_word s k (p + 1 + n)) (walk between (p + 1 + n) (drop n bs))) (append_assoc w (b ∷ []) (take n bs))
    ∙ ap (λ k. word_then (quoted_word s (w ++ b ∷ take n bs) k) (walk between k (drop n bs))) at
    ∙ ap (λ k. word_then (quoted_word s (w ++ take k (b ∷ bs)) (p + k)) (walk between (p + k) (drop k (b ∷ bs)))) here

pub in_quote : (bs : List ℕ) (esc : Bool) (s p : ℕ) (w : List ℕ) → Quoted (quoted_len esc bs) s p w bs (walk (quote esc s w) p bs)
in_quote [] esc s p w = refl
in_quote (b ∷ bs) esc s p w = go ((b == 34) && not esc) refl (in_quote bs (b == 92) s (p + 1) (w ++ b ∷ []))
  where
    go : (i : Bool) → ((b == 34) && not esc) ≡ i → Quoted (quoted_len (b == 92) bs) s (p + 1) (w ++ b ∷ []) bs (walk (quote (b == 92) s (w ++ b ∷ [])) (p + 1) bs) →
        Quoted (if i then Some 1 else option_add 1 (quoted_len (b == 92) bs)) s p w (b ∷ bs) (walk (quote esc s w) p (b ∷ bs))
    go true i rest = stepped (quote esc s w) p b bs between (quoted_word s (w ++ b ∷ []) (p + 1) ∷ []) (rw i refl) (rw i refl)
    go false i rest =
        subst (λ k. Quoted (option_add 1 (quoted_len (b == 92) bs)) s p w (b ∷ bs) k) (sym (stepped (quote esc s w) p b bs (quote (b == 92) s (w ++ b ∷ [])) [] (rw i refl) (rw i refl)))
        (quoted_more (quoted_len (b == 92) bs) s p b w bs (walk (quote (b == 92) s (w ++ b ∷ [])) (p + 1) bs) rest)

begins_apart : (b : ℕ) → begins_word b ≡ true → (is_blank b ≡ false) × ((b == 35) ≡ false)
begins_apart b begins = grind (arith, common_steps)

quote_begins : (b : ℕ) → (b == 34) ≡ true → begins_word b ≡ true
quote_begins b i = grind (arith, common_steps)

slice_first : (text : List ℕ) (i n : ℕ) → i < length text → slice_range text i (i + 1 + n) ≡ get_or text i 0 ∷ take n (drop (i + 1) text)
slice_first text i n lt =
    let long : i + 1 + n - i ≡ suc n = omega arith in
    ap (λ k. take k (drop i text)) long ∙ ap (take (suc n)) (drop_more text i 0 lt)

behind : (text : List ℕ) (i n : ℕ) → walk between (i + 1 + n) (drop n (drop (i + 1) text)) ≡ from text (i + 1 + n)
behind text i n = ap (walk between (i + 1 + n)) (drop-drop n (i + 1) text)

pub walk_plain : (text : List ℕ) (i n : ℕ) → i < length text → begins_word (get_or text i 0) ≡ true → (get_or text i 0 == 34) ≡ false → n ≡ position_or_len is_blank (drop (i + 1) text) →
    from text i ≡ word_then (record { bytes = slice_range text i (i + 1 + n); quoted = false; start = i; end = i + 1 + n }) (from text (i + 1 + n))
walk_plain text i n lt begins quiet is =
    let a = begins_apart (get_or text i 0) begins in
    ap (walk between i) (drop_more text i 0 lt)
    ∙ stepped between i (get_or text i 0) (drop (i + 1) text) (plain i (get_or text i 0 ∷ [])) [] (rw (a.0, a.1, quiet) refl) refl
    ∙ in_plain (drop (i + 1) text) i (i + 1) (get_or text i 0 ∷ []) n is
    ∙ ap (λ k. word_then (plain_word i k (i + 1 + n)) (walk between (i + 1 + n) (drop n (drop (i + 1) text)))) (sym (slice_first text i n lt))
    ∙ ap (word_then (plain_word i (slice_range text i (i + 1 + n)) (i + 1 + n))) (behind text i n)

opened : (text : List ℕ) (i : ℕ) → i < length text → (get_or text i 0 == 34) ≡ true → from text i ≡ walk (quote false i (get_or text i 0 ∷ [])) (i + 1) (drop (i + 1) text)
opened text i lt quoted =
    let a = begins_apart (get_or text i 0) (quote_begins (get_or text i 0) quoted) in
    ap (walk between i) (drop_more text i 0 lt) ∙ stepped between i (get_or text i 0) (drop (i + 1) text) (quote false i (get_or text i 0 ∷ [])) [] (rw (a.0, a.1, quoted) refl) refl

pub walk_quoted : (text : List ℕ) (i n : ℕ) → i < length text → (get_or text i 0 == 34) ≡ true → quoted_len false (drop (i + 1) text) ≡ Some n →
    from text i ≡ word_then (record { bytes = slice_range text i (i + 1 + n); quoted = true; start = i; end = i + 1 + n }) (from text (i + 1 + n))
walk_quoted text i n lt quoted is =
    opened text i lt quoted
    ∙ subst (λ o. Quoted o i (i + 1) (get_or text i 0 ∷ []) (drop (i + 1) text) (walk (quote false i (get_or text i 0 ∷ [])) (i + 1) (drop (i + 1) text))) is (in_quote (drop (i + 1) text) false i (i + 1) (get_or text i 0 ∷ []))
    ∙ ap (λ k. word_then (quoted_word i k (i + 1 + n)) (walk between (i + 1 + n) (drop n (drop (i + 1) text)))) (sym (slice_first text i n lt))
    ∙ ap (word_then (quoted_word i (slice_range text i (i + 1 + n)) (i + 1 + n))) (behind text i n)

pub walk_open : (text : List ℕ) (i : ℕ) → i < length text → (get_or text i 0 == 34) ≡ true → quoted_len false (drop (i + 1) text) ≡ None → from text i ≡ open_quote i
walk_open text i lt quoted is =
    opened text i lt quoted
    ∙ subst (λ o. Quoted o i (i + 1) (get_or text i 0 ∷ []) (drop (i + 1) text) (walk (quote false i (get_or text i 0 ∷ [])) (i + 1) (drop (i + 1) text))) is (in_quote (drop (i + 1) text) false i (i + 1) (get_or text i 0 ∷ []))

pub walk_blank : (text : List ℕ) (i : ℕ) → i < length text → is_blank (get_or text i 0) ≡ true → from text i ≡ from text (i + 1)
walk_blank text i lt blank = ap (walk between i) (drop_more text i 0 lt) ∙ rw blank refl

pub walk_comment : (text : List ℕ) (i n : ℕ) → i < length text → get_or text i 0 ≡ 35 → n ≡ position_or_len is_line_feed (drop (i + 1) text) → from text i ≡ from text (i + (1 + n))
walk_comment text i n lt sign is =
    ap (walk between i) (drop_more text i 0 lt)
    ∙ rw sign refl
    ∙ in_comment (drop (i + 1) text) (i + 1)
    ∙ ap (λ k. walk between (i + 1 + k) (drop k (drop (i + 1) text))) (sym is)
    ∙ ap (λ ys. walk between (i + 1 + n) ys) (drop-drop n (i + 1) text)
    ∙ ap (λ k. walk between k (drop k text)) (omega arith)
