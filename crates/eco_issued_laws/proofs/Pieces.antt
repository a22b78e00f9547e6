-- Pieces of text that hold whole words.
use Rattle.std.proofs.Common.{◌≡◌, ℕ, ◌+◌, ◌==◌, ◌&&◌, Bool, true, false, not, List, [], ◌∷◌, ◌++◌, length, map, refl, ap, sym, ◌∙◌, subst, arith, true≢false, if◌then◌else◌, append_assoc, append-nil}
use Rattle.std.proofs.lemmas.List.{length-append}
use Rattle.eco_text.specs.Words.{Token, Walk, finished, open_quote, word_then, Mode, between, comment, plain, quote, is_blank, plain_word, quoted_word, step, ends, walk, ◌+++◌}
use Rattle.eco_issued_laws.specs.Printing.{spaced}
use Rattle.eco_text.proofs.Stepping.{Closes, flush, stepped}
use Rattle.eco_issued_laws.proofs.Allowed.{NoBlank, IsWord, bare}
use Rattle.eco_text.proofs.Splicing.{join}
use Rattle.eco_issued_laws.proofs.Keeping.{SameAll, same_join}

-- Before bytes that close a word, these bytes hold just these words.
abbrev pub IsPiece : List ℕ → List Token → Type 0
IsPiece bytes ts = (p : ℕ) (z : List ℕ) → Closes z → (ss : List Token) × SameAll ts ss × (walk between p (bytes ++ z) ≡ ss +++ walk between (p + length bytes) z)

pub closes_join : (a b : List ℕ) → Closes a → Closes b → Closes (a ++ b)
closes_join [] b x y = y
closes_join (c ∷ a) b x y = x

pub piece_none : IsPiece [] []
piece_none p z c = ([], tt, ap (λ k. walk between k z) (omega arith))

pub piece_join : (a b : List ℕ) (ts ss : List Token) → IsPiece a ts → Closes b → IsPiece b ss → IsPiece (a ++ b) (ts ++ ss)
piece_join a b ts ss x c y p z closes =
    let one = x p (b ++ z) (closes_join b z c closes) in
    let two = y (p + length a) z closes in
    let at : p + length a + length b ≡ p + length (a ++ b) = omega (arith, length-append a b) in (
      one.0 ++ two.0,
      same_join ts ss one.0 two.0 one.1 two.1,
      ap (λ k. walk between p k) (append_assoc a b z) ∙ one.2 ∙ ap (λ k. one.0 +++ k) (two.2 ∙ ap (λ k. two.0 +++ walk between k z) at) ∙ sym (join one.0 two.0 (walk between (p + length (a ++ b)) z)),
    )

pub piece_blank : (b : List ℕ) (ts : List Token) → IsPiece b ts → IsPiece (32 ∷ b) ts
piece_blank b ts x p z closes =
    let one = x (p + 1) z closes in
    let at : p + 1 + length b ≡ p + length (32 ∷ b) = omega arith in
    (one.0, one.1, one.2 ∙ ap (λ k. one.0 +++ walk between k z) at)

-- the rest of a word
tail_word : (bs : List ℕ) (s p : ℕ) (w z : List ℕ) → NoBlank bs → Closes z → walk (plain s w) p (bs ++ z) ≡ word_then (plain_word s (w ++ bs) (p + length bs)) (walk between (p + length bs) z)
tail_word [] s p w z blanks closes =
    let at : p ≡ p + 0 = omega arith in
    flush s p w z closes ∙ ap (λ k. word_then (plain_word s k p) (walk between p z)) (sym (append-nil w)) ∙ ap (λ k. word_then (plain_word s (w ++ []) k) (walk between k z)) at
tail_word (b ∷ bs) s p w z blanks closes =
    let at : p + 1 + length bs ≡ p + length (b ∷ bs) = omega arith in
    let to : step (plain s w) p b ≡ plain s (w ++ b ∷ []) = ap (λ k. if k then between else plain s (w ++ b ∷ [])) blanks.0 in
    let gives : ends (plain s w) p b ≡ [] = ap (λ k. if k then plain_word s w p ∷ [] else []) blanks.0 in
    stepped (plain s w) p b (bs ++ z) (plain s (w ++ b ∷ [])) [] to gives
    ∙ tail_word bs s (p + 1) (w ++ b ∷ []) z blanks.1 closes
    ∙ ap (λ k. word_then (plain_word s k (p + 1 + length bs)) (walk between (p + 1 + length bs) z)) (append_assoc w (b ∷ []) bs)
    ∙ ap (λ k. word_then (plain_word s (w ++ b ∷ bs) k) (walk between k z)) at

pub piece_word : (w : List ℕ) → IsWord w → IsPiece w (bare w ∷ [])
piece_word [] word p z closes = absurd word
piece_word (b ∷ bs) word p z closes =
    let at : p + 1 + length bs ≡ p + length (b ∷ bs) = omega arith in
    let to : step between p b ≡ plain p (b ∷ []) = rw (word.0, word.1, word.2) refl in (
      plain_word p (b ∷ bs) (p + 1 + length bs) ∷ [],
      (record { bytes = refl; quoted = refl }, tt),
      stepped between p b (bs ++ z) (plain p (b ∷ [])) [] to refl
          ∙ tail_word bs p (p + 1) (b ∷ []) z word.3 closes
          ∙ ap (λ k. word_then (plain_word p (b ∷ bs) (p + 1 + length bs)) (walk between k z)) at,
    )

abbrev pub AllWords : List (List ℕ) → Type 0
AllWords [] = Unit {0}
AllWords (w ∷ ws) = IsWord w × AllWords ws

pub closes_spaced : (ws : List (List ℕ)) → Closes (spaced ws)
closes_spaced [] = tt
closes_spaced (w ∷ ws) = refl

pub piece_spaced : (ws : List (List ℕ)) → AllWords ws → IsPiece (spaced ws) (map bare ws)
piece_spaced [] words = piece_none
piece_spaced (w ∷ ws) words =
    piece_blank (w ++ spaced ws) (bare w ∷ map bare ws) (piece_join w (spaced ws) (bare w ∷ []) (map bare ws) (piece_word w words.0) (closes_spaced ws) (piece_spaced ws words.1))

-- ---- words of a text that aren't quoted

abbrev pub AllGood : Walk → Type 0
AllGood (finished p) = Unit {0}
AllGood (open_quote p) = Unit {0}
AllGood (word_then t u) = (t.quoted ≡ false → IsWord t.bytes) × AllGood u

abbrev pub GoodMode : Mode → Type 0
GoodMode between = Unit {0}
GoodMode comment = Unit {0}
GoodMode (plain s w) = IsWord w
GoodMode (quote e s w) = Unit {0}

no_blank_push : (bs : List ℕ) (b : ℕ) → NoBlank bs → is_blank b ≡ false → NoBlank (bs ++ b ∷ [])
no_blank_push [] b blanks is = (is, tt)
no_blank_push (c ∷ bs) b blanks is = (blanks.0, no_blank_push bs b blanks.1 is)

word_push : (w : List ℕ) (b : ℕ) → IsWord w → is_blank b ≡ false → IsWord (w ++ b ∷ [])
word_push [] b word is = absurd word
word_push (c ∷ w) b word is = (word.0, word.1, word.2, no_blank_push w b word.3 is)

pub good : (bs : List ℕ) (m : Mode) (p : ℕ) → GoodMode m → AllGood (walk m p bs)
good [] between p g = tt
good [] comment p g = tt
good [] (plain s w) p g = (λ q. g, tt)
good [] (quote e s w) p g = tt
good (b ∷ bs) between p g = in_gap (is_blank b) refl (b == 35) refl (b == 34) refl (λ k h. good bs k (p + 1) h)
  where
    in_gap : (i : Bool) → is_blank b ≡ i → (c : Bool) → (b == 35) ≡ c → (k : Bool) → (b == 34) ≡ k → ((l : Mode) → GoodMode l → AllGood (walk l (p + 1) bs)) → AllGood (walk (step between p b) (p + 1) bs)
    in_gap true i c e k f rec = subst (λ l. AllGood (walk l (p + 1) bs)) (sym (rw i refl)) (rec between tt)
    in_gap false i true e k f rec = subst (λ l. AllGood (walk l (p + 1) bs)) (sym (rw (i, e) refl)) (rec comment tt)
    in_gap false i false e true f rec = subst (λ l. AllGood (walk l (p + 1) bs)) (sym (rw (i, e, f) refl)) (rec (quote false p (b ∷ [])) tt)
    in_gap false i false e false f rec = subst (λ l. AllGood (walk l (p + 1) bs)) (sym (rw (i, e, f) refl)) (rec (plain p (b ∷ [])) (i, e, f, tt))
good (b ∷ bs) comment p g = in_line (b == 10) (λ k h. good bs k (p + 1) h)
  where
    in_line : (i : Bool) → ((l : Mode) → GoodMode l → AllGood (walk l (p + 1) bs)) → AllGood (walk (if i then between else comment) (p + 1) bs)
    in_line true rec = rec between tt
    in_line false rec = rec comment tt
good (b ∷ bs) (plain s w) p g = in_word (is_blank b) refl (λ k h. good bs k (p + 1) h)
  where
    in_word : (i : Bool) → is_blank b ≡ i → ((l : Mode) → GoodMode l → AllGood (walk l (p + 1) bs)) → AllGood ((if i then plain_word s w p ∷ [] else []) +++ walk (if i then between else plain s (w ++ b ∷ [])) (p + 1) bs)
    in_word true i rec = (λ q. g, rec between tt)
    in_word false i rec = rec (plain s (w ++ b ∷ [])) (word_push w b g i)
good (b ∷ bs) (quote e s w) p g = in_quote ((b == 34) && not e) (λ k h. good bs k (p + 1) h)
  where
    in_quote : (i : Bool) → ((l : Mode) → GoodMode l → AllGood (walk l (p + 1) bs)) → AllGood ((if i then quoted_word s (w ++ b ∷ []) (p + 1) ∷ [] else []) +++ walk (if i then between else quote (b == 92) s (w ++ b ∷ [])) (p + 1) bs)
    in_quote true rec = (λ q. absurd (true≢false q), rec between tt)
    in_quote false rec = rec (quote (b == 92) s (w ++ b ∷ [])) tt
