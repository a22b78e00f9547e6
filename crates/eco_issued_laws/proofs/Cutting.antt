-- A text cut after a word, or before one.
use Rattle.std.proofs.Common.{◌≡◌, ℕ, suc, ◌+◌, ◌<◌, ◌≤◌, ◌==◌, ◌&&◌, Bool, true, false, not, List, [], ◌∷◌, ◌++◌, length, take, drop, refl, ap, sym, ◌∙◌, subst, arith, true≢false, if◌then◌else◌}
use Rattle.eco_text.specs.Words.{Token, Walk, finished, open_quote, word_then, Mode, between, comment, plain, quote, is_blank, plain_word, quoted_word, step, ends, walk, ◌+++◌}
use Rattle.eco_text.proofs.Stepping.{Closes, flush, stepped}
use Rattle.eco_text.proofs.Splicing.{join}
use Rattle.eco_issued_laws.proofs.Keeping.{SameAll, same_join, first_is, rest_is}

-- modes that say the same at other places
abbrev pub SameMode : Mode → Mode → Type 0
SameMode between between = Unit {0}
SameMode comment comment = Unit {0}
SameMode (plain s w) (plain t v) = v ≡ w
SameMode (quote e s w) (quote f t v) = (f ≡ e) × (v ≡ w)
SameMode _ _ = ⊥

-- ---- one byte, at two places

begun : ℕ → ℕ → Mode
begun p b = if b == 35 then comment else if b == 34 then quote false p (b ∷ []) else plain p (b ∷ [])

same_begun : (p q b : ℕ) (t s : Bool) → SameMode (if t then comment else if s then quote false p (b ∷ []) else plain p (b ∷ [])) (if t then comment else if s then quote false q (b ∷ []) else plain q (b ∷ []))
same_begun p q b true s = tt
same_begun p q b false true = (refl, refl)
same_begun p q b false false = refl

same_between : (p q b : ℕ) (t : Bool) → SameMode (if t then between else if b == 35 then comment else if b == 34 then quote false p (b ∷ []) else plain p (b ∷ [])) (if t then between else if b == 35 then comment else if b == 34 then quote false q (b ∷ []) else plain q (b ∷ []))
same_between p q b true = tt
same_between p q b false = same_begun p q b (b == 35) (b == 34)

same_comment : (t : Bool) → SameMode (if t then between else comment) (if t then between else comment)
same_comment true = tt
same_comment false = tt

same_plain : (s t b : ℕ) (w v : List ℕ) (i : Bool) → v ≡ w → SameMode (if i then between else plain s (w ++ b ∷ [])) (if i then between else plain t (v ++ b ∷ []))
same_plain s t b w v true e = tt
same_plain s t b w v false e = ap (λ k. k ++ b ∷ []) e

same_quote : (s t b : ℕ) (w v : List ℕ) (i : Bool) → v ≡ w → SameMode (if i then between else quote (b == 92) s (w ++ b ∷ [])) (if i then between else quote (b == 92) t (v ++ b ∷ []))
same_quote s t b w v true e = tt
same_quote s t b w v false e = (refl, ap (λ k. k ++ b ∷ []) e)

pub same_step : (m n : Mode) (p q b : ℕ) → SameMode m n → SameMode (step m p b) (step n q b)
same_step between between p q b same = same_between p q b (is_blank b)
same_step comment comment p q b same = same_comment (b == 10)
same_step (plain s w) (plain t v) p q b same = same_plain s t b w v (is_blank b) same
same_step (quote e s w) (quote f t v) p q b same =
    subst (λ k. SameMode (step (quote e s w) p b) (if (b == 34) && not k then between else quote (b == 92) t (v ++ b ∷ []))) (sym same.0) (same_quote s t b w v ((b == 34) && not e) same.1)
same_step between comment p q b same = absurd same
same_step between (plain t v) p q b same = absurd same
same_step between (quote f t v) p q b same = absurd same
same_step comment between p q b same = absurd same
same_step comment (plain t v) p q b same = absurd same
same_step comment (quote f t v) p q b same = absurd same
same_step (plain s w) between p q b same = absurd same
same_step (plain s w) comment p q b same = absurd same
same_step (plain s w) (quote f t v) p q b same = absurd same
same_step (quote e s w) between p q b same = absurd same
same_step (quote e s w) comment p q b same = absurd same
same_step (quote e s w) (plain t v) p q b same = absurd same

ends_plain : (s t p q : ℕ) (w v : List ℕ) (i : Bool) → v ≡ w → SameAll (if i then plain_word s w p ∷ [] else []) (if i then plain_word t v q ∷ [] else [])
ends_plain s t p q w v true e = (record { bytes = e; quoted = refl }, tt)
ends_plain s t p q w v false e = tt

ends_quote : (s t p q b : ℕ) (w v : List ℕ) (i : Bool) → v ≡ w → SameAll (if i then quoted_word s (w ++ b ∷ []) (p + 1) ∷ [] else []) (if i then quoted_word t (v ++ b ∷ []) (q + 1) ∷ [] else [])
ends_quote s t p q b w v true e = (record { bytes = ap (λ k. k ++ b ∷ []) e; quoted = refl }, tt)
ends_quote s t p q b w v false e = tt

pub same_ends : (m n : Mode) (p q b : ℕ) → SameMode m n → SameAll (ends m p b) (ends n q b)
same_ends between between p q b same = tt
same_ends comment comment p q b same = tt
same_ends (plain s w) (plain t v) p q b same = ends_plain s t p q w v (is_blank b) same
same_ends (quote e s w) (quote f t v) p q b same =
    subst (λ k. SameAll (ends (quote e s w) p b) (if (b == 34) && not k then quoted_word t (v ++ b ∷ []) (q + 1) ∷ [] else [])) (sym same.0) (ends_quote s t p q b w v ((b == 34) && not e) same.1)
same_ends between comment p q b same = absurd same
same_ends between (plain t v) p q b same = absurd same
same_ends between (quote f t v) p q b same = absurd same
same_ends comment between p q b same = absurd same
same_ends comment (plain t v) p q b same = absurd same
same_ends comment (quote f t v) p q b same = absurd same
same_ends (plain s w) between p q b same = absurd same
same_ends (plain s w) comment p q b same = absurd same
same_ends (plain s w) (quote f t v) p q b same = absurd same
same_ends (quote e s w) between p q b same = absurd same
same_ends (quote e s w) comment p q b same = absurd same
same_ends (quote e s w) (plain t v) p q b same = absurd same

-- ---- after a word that isn't quoted

-- the first n bytes end with that word, at another place and before other bytes too
pub record Cut (m : Mode) (p : ℕ) (bs : List ℕ) (ts : List Token) (end : ℕ) (r : Walk) : Type 0 where
  pub n : ℕ
  pub end_is : end ≡ p + n
  pub within : n ≤ length bs
  pub rest : r ≡ walk between (p + n) (drop n bs)
  pub closed : Closes (drop n bs)
  pub again : (k : Mode) (q : ℕ) (z : List ℕ) → SameMode m k → Closes z → (ss : List Token) × SameAll ts ss × (walk k q (take n bs ++ z) ≡ ss +++ walk between (q + n) z)

more : (m : Mode) (p b : ℕ) (bs : List ℕ) (ts : List Token) (end : ℕ) (r : Walk) → Cut (step m p b) (p + 1) bs ts end r → Cut m p (b ∷ bs) (ends m p b ++ ts) end r
more m p b bs ts end r c = record {
  n = suc c.n;
  end_is = omega (arith, c.end_is);
  within = omega (arith, c.within);
  rest = c.rest ∙ ap (λ k. walk between k (drop c.n bs)) at;
  closed = c.closed;
  again = found;
}
  where
    at : p + 1 + c.n ≡ p + suc c.n
    at = omega arith

    found : (k : Mode) (q : ℕ) (z : List ℕ) → SameMode m k → Closes z → (ss : List Token) × SameAll (ends m p b ++ ts) ss × (walk k q (b ∷ take c.n bs ++ z) ≡ ss +++ walk between (q + suc c.n) z)
    found k q z same closes =
        let y = c.again (step k q b) (q + 1) z (same_step m k p q b same) closes in
        let there : q + 1 + c.n ≡ q + suc c.n = omega arith in (
          ends k q b ++ y.0,
          same_join (ends m p b) ts (ends k q b) y.0 (same_ends m k p q b same) y.1,
          ap (λ u. ends k q b +++ u) (y.2 ∙ ap (λ j. y.0 +++ walk between j z) there) ∙ sym (join (ends k q b) y.0 (walk between (q + suc c.n) z)),
        )

-- a plain word ends here
last : (s p : ℕ) (w bs : List ℕ) (t : Token) (r : Walk) → Closes bs → plain_word s w p ≡ t → walk between p bs ≡ r → Cut (plain s w) p bs (t ∷ []) t.end r
last s p w bs t r closes same rest = record {
  n = 0;
  end_is = sym (ap (λ k. k.end) same) ∙ here;
  within = omega arith;
  rest = sym rest ∙ ap (λ k. walk between k bs) here;
  closed = closes;
  again = found;
}
  where
    here : p ≡ p + 0
    here = omega arith

    found : (k : Mode) (q : ℕ) (z : List ℕ) → SameMode (plain s w) k → Closes z → (ss : List Token) × SameAll (t ∷ []) ss × (walk k q z ≡ ss +++ walk between (q + 0) z)
    found (plain s' v) q z e c =
        let there : q ≡ q + 0 = omega arith in
        (plain_word s' v q ∷ [], (record { bytes = e ∙ ap (λ k. k.bytes) same; quoted = ap (λ k. k.quoted) same }, tt), flush s' q v z c ∙ ap (λ k. word_then (plain_word s' v q) (walk between k z)) there)
    found between q z e c = absurd e
    found comment q z e c = absurd e
    found (quote f s' v) q z e c = absurd e

pub no_word : {p : ℕ} (fs : List Token) (t : Token) (r : Walk) → finished p ≡ (fs ++ t ∷ []) +++ r → ⊥
no_word [] t r e = cc
no_word (f ∷ fs) t r e = cc

no_quote : {p : ℕ} (fs : List Token) (t : Token) (r : Walk) → open_quote p ≡ (fs ++ t ∷ []) +++ r → ⊥
no_quote [] t r e = cc
no_quote (f ∷ fs) t r e = cc

by_step : (m : Mode) (p b : ℕ) (bs : List ℕ) (k : Mode) (es ts : List Token) (end : ℕ) (r : Walk) → step m p b ≡ k → ends m p b ≡ es → Cut k (p + 1) bs ts end r → Cut m p (b ∷ bs) (es ++ ts) end r
by_step m p b bs k es ts end r to gives c =
    subst (λ l. Cut m p (b ∷ bs) (l ++ ts) end r) gives (more m p b bs ts end r (subst (λ l. Cut l (p + 1) bs ts end r) (sym to) c))

abbrev pub Cuts : List ℕ → Type 0
Cuts bs = (m : Mode) (p : ℕ) (fs : List Token) (t : Token) (r : Walk) → walk m p bs ≡ (fs ++ t ∷ []) +++ r → t.quoted ≡ false → Cut m p bs (fs ++ t ∷ []) t.end r

-- where a byte ends a word, it is the last one, or one before
one_word : (m : Mode) (p b : ℕ) (bs : List ℕ) (w : Token) → Cuts bs → step m p b ≡ between → ends m p b ≡ w ∷ [] → (fs : List Token) (t : Token) (r : Walk) → walk m p (b ∷ bs) ≡ (fs ++ t ∷ []) +++ r → t.quoted ≡ false →
    (w ≡ t → walk between (p + 1) bs ≡ r → Cut m p (b ∷ bs) (t ∷ []) t.end r) → Cut m p (b ∷ bs) (fs ++ t ∷ []) t.end r
one_word m p b bs w cuts to gives [] t r e quoted is_last =
    let is : word_then w (walk between (p + 1) bs) ≡ word_then t r = sym (stepped m p b bs between (w ∷ []) to gives) ∙ e in
    is_last (first_is is) (rest_is is)
one_word m p b bs w cuts to gives (f ∷ fs) t r e quoted is_last =
    let is : word_then w (walk between (p + 1) bs) ≡ word_then f ((fs ++ t ∷ []) +++ r) = sym (stepped m p b bs between (w ∷ []) to gives) ∙ e in
    by_step m p b bs between (f ∷ []) (fs ++ t ∷ []) t.end r to (gives ∙ ap (λ k. k ∷ []) (first_is is)) (cuts between (p + 1) fs t r (rest_is is) quoted)

in_plain : (s p b : ℕ) (w bs : List ℕ) → Cuts bs → (i : Bool) → is_blank b ≡ i → (fs : List Token) (t : Token) (r : Walk) → walk (plain s w) p (b ∷ bs) ≡ (fs ++ t ∷ []) +++ r → t.quoted ≡ false → Cut (plain s w) p (b ∷ bs) (fs ++ t ∷ []) t.end r
in_plain s p b w bs cuts true i fs t r e quoted =
    one_word (plain s w) p b bs (plain_word s w p) cuts (ap (λ k. if k then between else plain s (w ++ b ∷ [])) i) (ap (λ k. if k then plain_word s w p ∷ [] else []) i) fs t r e quoted
    (λ is rest. last s p w (b ∷ bs) t r i is (ap (λ k. walk (if k then between else if b == 35 then comment else if b == 34 then quote false p (b ∷ []) else plain p (b ∷ [])) (p + 1) bs) i ∙ rest))
in_plain s p b w bs cuts false i fs t r e quoted =
    let to : step (plain s w) p b ≡ plain s (w ++ b ∷ []) = ap (λ k. if k then between else plain s (w ++ b ∷ [])) i in
    let gives : ends (plain s w) p b ≡ [] = ap (λ k. if k then plain_word s w p ∷ [] else []) i in
    by_step (plain s w) p b bs (plain s (w ++ b ∷ [])) [] (fs ++ t ∷ []) t.end r to gives (cuts (plain s (w ++ b ∷ [])) (p + 1) fs t r (sym (stepped (plain s w) p b bs (plain s (w ++ b ∷ [])) [] to gives) ∙ e) quoted)

in_quote : (esc : Bool) (s p b : ℕ) (w bs : List ℕ) → Cuts bs → (i : Bool) → ((b == 34) && not esc) ≡ i → (fs : List Token) (t : Token) (r : Walk) → walk (quote esc s w) p (b ∷ bs) ≡ (fs ++ t ∷ []) +++ r → t.quoted ≡ false → Cut (quote esc s w) p (b ∷ bs) (fs ++ t ∷ []) t.end r
in_quote esc s p b w bs cuts true i fs t r e quoted =
    one_word (quote esc s w) p b bs (quoted_word s (w ++ b ∷ []) (p + 1)) cuts (ap (λ k. if k then between else quote (b == 92) s (w ++ b ∷ [])) i) (ap (λ k. if k then quoted_word s (w ++ b ∷ []) (p + 1) ∷ [] else []) i) fs t r e quoted
    (λ is rest. absurd (true≢false (ap (λ k. k.quoted) is ∙ quoted)))
in_quote esc s p b w bs cuts false i fs t r e quoted =
    let to : step (quote esc s w) p b ≡ quote (b == 92) s (w ++ b ∷ []) = ap (λ k. if k then between else quote (b == 92) s (w ++ b ∷ [])) i in
    let gives : ends (quote esc s w) p b ≡ [] = ap (λ k. if k then quoted_word s (w ++ b ∷ []) (p + 1) ∷ [] else []) i in
    by_step (quote esc s w) p b bs (quote (b == 92) s (w ++ b ∷ [])) [] (fs ++ t ∷ []) t.end r to gives (cuts (quote (b == 92) s (w ++ b ∷ [])) (p + 1) fs t r (sym (stepped (quote esc s w) p b bs (quote (b == 92) s (w ++ b ∷ [])) [] to gives) ∙ e) quoted)

pub cut : (bs : List ℕ) → Cuts bs
cut [] between p fs t r e quoted = absurd (no_word fs t r e)
cut [] comment p fs t r e quoted = absurd (no_word fs t r e)
cut [] (plain s w) p [] t r e quoted = last s p w [] t r tt (first_is e) (rest_is e)
cut [] (plain s w) p (f ∷ fs) t r e quoted = absurd (no_word fs t r (rest_is e))
cut [] (quote esc s w) p fs t r e quoted = absurd (no_quote fs t r e)
cut (b ∷ bs) between p fs t r e quoted = more between p b bs (fs ++ t ∷ []) t.end r (cut bs (step between p b) (p + 1) fs t r e quoted)
cut (b ∷ bs) comment p fs t r e quoted = more comment p b bs (fs ++ t ∷ []) t.end r (cut bs (step comment p b) (p + 1) fs t r e quoted)
cut (b ∷ bs) (plain s w) p fs t r e quoted = in_plain s p b w bs (cut bs) (is_blank b) refl fs t r e quoted
cut (b ∷ bs) (quote esc s w) p fs t r e quoted = in_quote esc s p b w bs (cut bs) ((b == 34) && not esc) refl fs t r e quoted

-- ---- before a word

-- the first n bytes are white space and comments, before the word that begins there
pub record Gap (m : Mode) (p : ℕ) (bs : List ℕ) (start : ℕ) (u : Walk) : Type 0 where
  pub n : ℕ
  pub start_is : start ≡ p + n
  pub within : n < length bs
  pub rest : u ≡ walk between (p + n) (drop n bs)
  pub again : (q : ℕ) (z : List ℕ) → walk m q (take n bs ++ z) ≡ walk between (q + n) z

-- the word that goes by begins where its mode says
pub begins_at : (s p : ℕ) (w bs : List ℕ) (t : Token) (r : Walk) → walk (plain s w) p bs ≡ word_then t r → t.start ≡ s
begins_at s p w [] t r e = sym (ap (λ k. k.start) (first_is e))
begins_at s p w (b ∷ bs) t r e = go (is_blank b) refl (begins_at s (p + 1) (w ++ b ∷ []) bs t r)
  where
    go : (i : Bool) → is_blank b ≡ i → (walk (plain s (w ++ b ∷ [])) (p + 1) bs ≡ word_then t r → t.start ≡ s) → t.start ≡ s
    go true i rec = sym (ap (λ k. k.start) (first_is (sym (stepped (plain s w) p b bs between (plain_word s w p ∷ []) (ap (λ k. if k then between else plain s (w ++ b ∷ [])) i) (ap (λ k. if k then plain_word s w p ∷ [] else []) i)) ∙ e)))
    go false i rec = rec (sym (stepped (plain s w) p b bs (plain s (w ++ b ∷ [])) [] (ap (λ k. if k then between else plain s (w ++ b ∷ [])) i) (ap (λ k. if k then plain_word s w p ∷ [] else []) i)) ∙ e)

pub quote_begins_at : (esc : Bool) (s p : ℕ) (w bs : List ℕ) (t : Token) (r : Walk) → walk (quote esc s w) p bs ≡ word_then t r → t.start ≡ s
quote_begins_at esc s p w [] t r e = absurd (no_quote [] t r e)
quote_begins_at esc s p w (b ∷ bs) t r e = go ((b == 34) && not esc) refl (quote_begins_at (b == 92) s (p + 1) (w ++ b ∷ []) bs t r)
  where
    go : (i : Bool) → ((b == 34) && not esc) ≡ i → (walk (quote (b == 92) s (w ++ b ∷ [])) (p + 1) bs ≡ word_then t r → t.start ≡ s) → t.start ≡ s
    go true i rec = sym (ap (λ k. k.start) (first_is (sym (stepped (quote esc s w) p b bs between (quoted_word s (w ++ b ∷ []) (p + 1) ∷ []) (ap (λ k. if k then between else quote (b == 92) s (w ++ b ∷ [])) i) (ap (λ k. if k then quoted_word s (w ++ b ∷ []) (p + 1) ∷ [] else []) i)) ∙ e)))
    go false i rec = rec (sym (stepped (quote esc s w) p b bs (quote (b == 92) s (w ++ b ∷ [])) [] (ap (λ k. if k then between else quote (b == 92) s (w ++ b ∷ [])) i) (ap (λ k. if k then quoted_word s (w ++ b ∷ []) (p + 1) ∷ [] else []) i)) ∙ e)

-- one byte more of white space or a comment
wider : (m k : Mode) (p b : ℕ) (bs : List ℕ) (start : ℕ) (u : Walk) → ((q : ℕ) → step m q b ≡ k) → ((q : ℕ) → ends m q b ≡ []) → Gap k (p + 1) bs start u → Gap m p (b ∷ bs) start u
wider m k p b bs start u to gives g = record {
  n = suc g.n;
  start_is = omega (arith, g.start_is);
  within = omega (arith, g.within);
  rest = g.rest ∙ ap (λ j. walk between j (drop g.n bs)) at;
  again = found;
}
  where
    at : p + 1 + g.n ≡ p + suc g.n
    at = omega arith

    found : (q : ℕ) (z : List ℕ) → walk m q (b ∷ take g.n bs ++ z) ≡ walk between (q + suc g.n) z
    found q z =
        let there : q + 1 + g.n ≡ q + suc g.n = omega arith in
        stepped m q b (take g.n bs ++ z) k [] (to q) (gives q) ∙ g.again (q + 1) z ∙ ap (λ j. walk between j z) there

abbrev pub Gaps : ℕ → List ℕ → Token → Walk → Type 0
Gaps p bs t r = (walk between p bs ≡ word_then t r → Gap between p bs t.start (word_then t r)) × (walk comment p bs ≡ word_then t r → Gap comment p bs t.start (word_then t r))

gap_here : (p b : ℕ) (bs : List ℕ) (t : Token) (r : Walk) → t.start ≡ p → walk between p (b ∷ bs) ≡ word_then t r → Gap between p (b ∷ bs) t.start (word_then t r)
gap_here p b bs t r start e = record {
  n = 0;
  start_is = start ∙ here p;
  within = omega arith;
  rest = sym e ∙ ap (λ k. walk between k (b ∷ bs)) (here p);
  again = λ q z. ap (λ k. walk between k z) (here q);
}
  where
    here : (k : ℕ) → k ≡ k + 0
    here k = omega arith

at_word : (p b : ℕ) (bs : List ℕ) (t : Token) (r : Walk) (k : Bool) → (b == 34) ≡ k → is_blank b ≡ false → (b == 35) ≡ false → walk between p (b ∷ bs) ≡ word_then t r → Gap between p (b ∷ bs) t.start (word_then t r)
at_word p b bs t r true k i c e =
    let to : step between p b ≡ quote false p (b ∷ []) = rw (i, c, k) refl in
    gap_here p b bs t r (quote_begins_at false p (p + 1) (b ∷ []) bs t r (sym (stepped between p b bs (quote false p (b ∷ [])) [] to refl) ∙ e)) e
at_word p b bs t r false k i c e =
    let to : step between p b ≡ plain p (b ∷ []) = rw (i, c, k) refl in
    gap_here p b bs t r (begins_at p (p + 1) (b ∷ []) bs t r (sym (stepped between p b bs (plain p (b ∷ [])) [] to refl) ∙ e)) e

at_sign : (p b : ℕ) (bs : List ℕ) (t : Token) (r : Walk) → Gaps (p + 1) bs t r → (k : Bool) → (b == 35) ≡ k → is_blank b ≡ false → walk between p (b ∷ bs) ≡ word_then t r → Gap between p (b ∷ bs) t.start (word_then t r)
at_sign p b bs t r rec true c i e =
    let to : (q : ℕ) → step between q b ≡ comment = λ q. rw (i, c) refl in
    wider between comment p b bs t.start (word_then t r) to (λ q. refl) (rec.1 (sym (stepped between p b bs comment [] (to p) refl) ∙ e))
at_sign p b bs t r rec false c i e = at_word p b bs t r (b == 34) refl i c e

at_blank : (p b : ℕ) (bs : List ℕ) (t : Token) (r : Walk) → Gaps (p + 1) bs t r → (i : Bool) → is_blank b ≡ i → walk between p (b ∷ bs) ≡ word_then t r → Gap between p (b ∷ bs) t.start (word_then t r)
at_blank p b bs t r rec true i e =
    let to : (q : ℕ) → step between q b ≡ between = λ q. rw i refl in
    wider between between p b bs t.start (word_then t r) to (λ q. refl) (rec.0 (sym (stepped between p b bs between [] (to p) refl) ∙ e))
at_blank p b bs t r rec false i e = at_sign p b bs t r rec (b == 35) refl i e

at_line : (p b : ℕ) (bs : List ℕ) (t : Token) (r : Walk) → Gaps (p + 1) bs t r → (i : Bool) → (b == 10) ≡ i → walk comment p (b ∷ bs) ≡ word_then t r → Gap comment p (b ∷ bs) t.start (word_then t r)
at_line p b bs t r rec true i e =
    let to : (q : ℕ) → step comment q b ≡ between = λ q. ap (λ k. if k then between else comment) i in
    wider comment between p b bs t.start (word_then t r) to (λ q. refl) (rec.0 (sym (stepped comment p b bs between [] (to p) refl) ∙ e))
at_line p b bs t r rec false i e =
    let to : (q : ℕ) → step comment q b ≡ comment = λ q. ap (λ k. if k then between else comment) i in
    wider comment comment p b bs t.start (word_then t r) to (λ q. refl) (rec.1 (sym (stepped comment p b bs comment [] (to p) refl) ∙ e))

pub gap : (bs : List ℕ) (p : ℕ) (t : Token) (r : Walk) → Gaps p bs t r
gap [] p t r = ((λ e. absurd (no_word [] t r e)), (λ e. absurd (no_word [] t r e)))
gap (b ∷ bs) p t r = ((λ e. at_blank p b bs t r (gap bs (p + 1) t r) (is_blank b) refl e), (λ e. at_line p b bs t r (gap bs (p + 1) t r) (b == 10) refl e))
