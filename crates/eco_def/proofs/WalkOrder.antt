-- The words of a text stand one after another.
use Rattle.std.proofs.Common.{◌≡◌, ℕ, ◌+◌, ◌<◌, ◌==◌, ◌&&◌, not, Bool, true, false, List, [], ◌∷◌, ◌++◌, length, refl, sym, subst, arith}
use Rattle.eco_text.specs.Words.{Token, Mode, between, comment, plain, quote, is_blank, plain_word, quoted_word, step, ends, walk, walk_of, ◌+++◌}
use Rattle.eco_text.proofs.Stepping.{stepped}
use Rattle.eco_def.specs.Reading.{IsInOrder}
use Rattle.eco_def.proofs.Placing.{earlier}

-- where the word begins that a mode stands in, or the place itself
abbrev begin : Mode → ℕ → ℕ
begin between p = p
begin comment p = p
begin (plain s w) p = s
begin (quote e s w) p = s

-- that word began before the place
abbrev Began : Mode → ℕ → Type 0
Began between p = Unit {0}
Began comment p = Unit {0}
Began (plain s w) p = s < p
Began (quote e s w) p = s < p

-- one byte on
along : (m : Mode) (p b lo hi : ℕ) (bs : List ℕ) (k : Mode) (es : List Token) → step m p b ≡ k → ends m p b ≡ es → IsInOrder lo hi (es +++ walk k (p + 1) bs) → IsInOrder lo hi (walk m p (b ∷ bs))
along m p b lo hi bs k es to gives order = subst (IsInOrder lo hi) (sym (stepped m p b bs k es to gives)) order

abbrev Ordered : List ℕ → Type 0
Ordered bs = (m : Mode) (p hi : ℕ) → p + length bs ≡ hi → Began m p → IsInOrder (begin m p) hi (walk m p bs)

from_between : (p b hi : ℕ) (bs : List ℕ) → p + 1 + length bs ≡ hi → Ordered bs → (i c q : Bool) → is_blank b ≡ i → (b == 35) ≡ c → (b == 34) ≡ q → IsInOrder p hi (walk between p (b ∷ bs))
from_between p b hi bs is rec true c q i' c' q' = along between p b p hi bs between [] (rw i' refl) refl (earlier (p + 1) p hi (walk between (p + 1) bs) (omega arith) (rec between (p + 1) hi is tt))
from_between p b hi bs is rec false true q i' c' q' = along between p b p hi bs comment [] (rw (i', c') refl) refl (earlier (p + 1) p hi (walk comment (p + 1) bs) (omega arith) (rec comment (p + 1) hi is tt))
from_between p b hi bs is rec false false true i' c' q' = along between p b p hi bs (quote false p (b ∷ [])) [] (rw (i', c', q') refl) refl (rec (quote false p (b ∷ [])) (p + 1) hi is (omega arith))
from_between p b hi bs is rec false false false i' c' q' = along between p b p hi bs (plain p (b ∷ [])) [] (rw (i', c', q') refl) refl (rec (plain p (b ∷ [])) (p + 1) hi is (omega arith))

from_comment : (p b hi : ℕ) (bs : List ℕ) → p + 1 + length bs ≡ hi → Ordered bs → (i : Bool) → (b == 10) ≡ i → IsInOrder p hi (walk comment p (b ∷ bs))
from_comment p b hi bs is rec true i' = along comment p b p hi bs between [] (rw i' refl) refl (earlier (p + 1) p hi (walk between (p + 1) bs) (omega arith) (rec between (p + 1) hi is tt))
from_comment p b hi bs is rec false i' = along comment p b p hi bs comment [] (rw i' refl) refl (earlier (p + 1) p hi (walk comment (p + 1) bs) (omega arith) (rec comment (p + 1) hi is tt))

from_plain : (s p b hi : ℕ) (w bs : List ℕ) → p + 1 + length bs ≡ hi → s < p → Ordered bs → (i : Bool) → is_blank b ≡ i → IsInOrder s hi (walk (plain s w) p (b ∷ bs))
from_plain s p b hi w bs is before rec true i' =
    along (plain s w) p b s hi bs between (plain_word s w p ∷ []) (rw i' refl) (rw i' refl)
    (omega arith, before, earlier (p + 1) p hi (walk between (p + 1) bs) (omega arith) (rec between (p + 1) hi is tt))
from_plain s p b hi w bs is before rec false i' =
    along (plain s w) p b s hi bs (plain s (w ++ b ∷ [])) [] (rw i' refl) (rw i' refl) (rec (plain s (w ++ b ∷ [])) (p + 1) hi is (omega (arith, before)))

from_quote : (e : Bool) (s p b hi : ℕ) (w bs : List ℕ) → p + 1 + length bs ≡ hi → s < p → Ordered bs → (i : Bool) → ((b == 34) && not e) ≡ i → IsInOrder s hi (walk (quote e s w) p (b ∷ bs))
from_quote e s p b hi w bs is before rec true i' =
    along (quote e s w) p b s hi bs between (quoted_word s (w ++ b ∷ []) (p + 1) ∷ []) (rw i' refl) (rw i' refl) (omega arith, omega (arith, before), rec between (p + 1) hi is tt)
from_quote e s p b hi w bs is before rec false i' =
    along (quote e s w) p b s hi bs (quote (b == 92) s (w ++ b ∷ [])) [] (rw i' refl) (rw i' refl) (rec (quote (b == 92) s (w ++ b ∷ [])) (p + 1) hi is (omega (arith, before)))

in_order : (bs : List ℕ) → Ordered bs
in_order [] between p hi is began = (omega arith, omega (arith, is))
in_order [] comment p hi is began = (omega arith, omega (arith, is))
in_order [] (plain s w) p hi is began = (omega arith, began, (omega arith, omega (arith, is)))
in_order [] (quote e s w) p hi is began = (omega arith, omega (arith, is, began))
in_order (b ∷ bs) between p hi is began = from_between p b hi bs (omega (arith, is)) (in_order bs) (is_blank b) (b == 35) (b == 34) refl refl refl
in_order (b ∷ bs) comment p hi is began = from_comment p b hi bs (omega (arith, is)) (in_order bs) (b == 10) refl
in_order (b ∷ bs) (plain s w) p hi is began = from_plain s p b hi w bs (omega (arith, is)) began (in_order bs) (is_blank b) refl
in_order (b ∷ bs) (quote e s w) p hi is began = from_quote e s p b hi w bs (omega (arith, is)) began (in_order bs) ((b == 34) && not e) refl

-- the words of a text lie within it, one after another
pub words_in_order : (text : List ℕ) → IsInOrder 0 (length text) (walk_of text)
words_in_order text = in_order text between 0 (length text) (omega arith) tt
