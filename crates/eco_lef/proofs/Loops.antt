-- A loop that reads statements up to the end of their block.
use Rattle.std.proofs.Common.{◌≡◌, ℕ, zero, suc, ◌+◌, ◌≤◌, List, [], ◌∷◌, ◌++◌, Option, Some, None, Ok, Err, refl, ap, sym, ◌∙◌, arith}
use Rattle.eco_lef.specs.Parsing.{Parser, then_read, then_more, many, many_for, word_count}
use Rattle.eco_lef.specs.declared.fault.LefFault.{LefFault}
use Rattle.eco_lef.specs.Reading.{Reading, left, Reads, Refuses, is_memory}
use Rattle.eco_text.specs.Reading.{IsInOrder}
use Rattle.eco_text.proofs.Calls.{refuses_as}

-- How far such a loop has come: it began at start, has read front, and has left what now has.
pub record Loops {A : Type 0} (inside : List ℕ) (item : List A → Parser (Option A)) (start : Reading) (front : List A) (now : Reading) : Type 0 where
  pub text : now.text ≡ start.text
  pub shorter : word_count (left now) ≤ word_count (left start)
  pub order : (lo hi : ℕ) → IsInOrder lo hi (left start) → IsInOrder lo hi (left now)
  pub fuel : ℕ
  pub enough : word_count (left now) ≤ fuel
  pub same : many_for (suc fuel) inside item front (left now) ≡ many inside item (left start)

pub begun : {A : Type 0} (inside : List ℕ) (item : List A → Parser (Option A)) (start : Reading) → Loops inside item start [] start
begun inside item start = record { text = refl; shorter = omega arith; order = λ lo hi o. o; fuel = word_count (left start); enough = omega arith; same = refl }

-- one more statement was read
pub one_more : {A : Type 0} (inside : List ℕ) (item : List A → Parser (Option A)) (start : Reading) (front : List A) (old new : Reading) (x : A) →
    Loops inside item start front old → new.text ≡ old.text → word_count (left new) + 1 ≤ word_count (left old) → ((lo hi : ℕ) → IsInOrder lo hi (left old) → IsInOrder lo hi (left new)) → item front (left old) ≡ Ok (Some x, left new) → Loops inside item start (front ++ x ∷ []) new
one_more inside item start front old new x l text shorter order value = go l.fuel l.enough l.same
  where
    go : (fuel : ℕ) → word_count (left old) ≤ fuel → many_for (suc fuel) inside item front (left old) ≡ many inside item (left start) → Loops inside item start (front ++ x ∷ []) new
    go zero enough same = absurd (omega (arith, enough, shorter))
    go (suc m) enough same = record {
      text = text ∙ l.text;
      shorter = omega (arith, shorter, l.shorter);
      order = λ lo hi o. order lo hi (l.order lo hi o);
      fuel = m;
      enough = omega (arith, shorter, enough);
      same = sym (ap (λ k. then_read k (then_more (many_for (suc m) inside item) front)) value) ∙ same;
    }

-- the statement that goes wrong
pub stuck : {A B C : Type 0} (inside : List ℕ) (item : List A → Parser (Option A)) (said : List A → Parser B) (view : List ℕ → C → B) (start : Reading) (front : List A) (old new : Reading) (e : LefFault) →
    Loops inside item start front old → new.text ≡ old.text → Refuses (item front (left old)) e → Reads 0 view (λ u. then_read (many inside item u) said) start new (Err e)
stuck inside item said view start front old new e l text is = record {
  text = text ∙ l.text;
  shorter = tt;
  order = λ lo hi o. tt;
  value = refuses_as is_memory (item front (left old)) (then_read (many inside item (left start)) said) e
      (λ k failed. ap (λ r. then_read r said) (sym l.same ∙ ap (λ r. then_read r (then_more (many_for l.fuel inside item) front)) failed)) is;
}

-- the end of the statements
pub ended : {A B C : Type 0} (inside : List ℕ) (item : List A → Parser (Option A)) (said : List A → Parser B) (view : List ℕ → C → B) (start : Reading) (front : List A) (old new : Reading) (x : C) →
    Loops inside item start front old → new.text ≡ old.text → word_count (left new) ≤ word_count (left old) → ((lo hi : ℕ) → IsInOrder lo hi (left old) → IsInOrder lo hi (left new)) → item front (left old) ≡ Ok (None, left new) → said front (left new) ≡ Ok (view start.text x, left new) →
    Reads 0 view (λ u. then_read (many inside item u) said) start new (Ok x)
ended inside item said view start front old new x l text shorter order value is = record {
  text = text ∙ l.text;
  shorter = omega (arith, shorter, l.shorter);
  order = λ lo hi o. order lo hi (l.order lo hi o);
  value = ap (λ r. then_read r said) (sym l.same ∙ ap (λ r. then_read r (then_more (many_for l.fuel inside item) front)) value) ∙ is;
}
