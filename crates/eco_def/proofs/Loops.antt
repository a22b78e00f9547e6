-- A loop that reads values while the next word passes a test.
use Rattle.std.proofs.Common.{◌≡◌, ℕ, zero, suc, ◌≤◌, Bool, true, false, List, [], ◌∷◌, ◌++◌, map, Option, Some, None, Ok, Err, refl, ap, sym, subst, ◌∙◌, arith, if◌then◌else◌}
use Rattle.std.specs.Option.{option_or, option_map}
use Rattle.eco_text.specs.Words.{Token, Walk}
use Rattle.eco_def.specs.Parsing.{Parser, then_read, begins, many, many_for, size}
use Rattle.eco_common.specs.Options.{first_some}
use Rattle.eco_def.specs.declared.fault.DefFault.{DefFault}
use Rattle.eco_def.specs.Reading.{Reading, left, Reads, IsInOrder}
use Rattle.eco_def.proofs.PassedOver.{refuses_as}

-- How far such a loop has come: it began at start, has read front, and has left what now has.
pub record Loops {A : Type 0} (goes : Token → Bool) (item : List A → Parser A) (start : Reading) (front : List A) (now : Reading) : Type 0 where
  pub text : now.text ≡ start.text
  pub shorter : size (left now) ≤ size (left start)
  pub order : (lo hi : ℕ) → IsInOrder lo hi (left start) → IsInOrder lo hi (left now)
  pub fuel : ℕ
  pub enough : size (left now) ≤ fuel
  pub same : many_for (suc fuel) goes item front (left now) ≡ many goes item (left start)

pub begun : {A : Type 0} (goes : Token → Bool) (item : List A → Parser A) (start : Reading) → Loops goes item start [] start
begun goes item start = record { text = refl; shorter = omega arith; order = λ lo hi o. o; fuel = size (left start); enough = omega arith; same = refl }

turn : {A : Type 0} (goes : Token → Bool) (item : List A → Parser A) (fuel : ℕ) (front : List A) (u : Walk) → true ≡ begins goes u → many_for (suc fuel) goes item front u ≡ then_read (item front u) (λ x. many_for fuel goes item (front ++ x ∷ []))
turn goes item fuel front u on = ap (λ b. if b then then_read (item front u) (λ x. many_for fuel goes item (front ++ x ∷ [])) else Ok (front, u)) (sym on)

-- one more value was read
pub one_more : {A B : Type 0} (goes : Token → Bool) (item : List A → Parser A) (view : List ℕ → B → A) (start : Reading) (front : List A) (old new : Reading) (x : B) →
    Loops goes item start front old → true ≡ begins goes (left old) → Reads 1 view (item front) old new (Ok x) → Loops goes item start (front ++ view old.text x ∷ []) new
one_more goes item view start front old new x l on reads = go l.fuel l.enough l.same
  where
    go : (fuel : ℕ) → size (left old) ≤ fuel → many_for (suc fuel) goes item front (left old) ≡ many goes item (left start) → Loops goes item start (front ++ view old.text x ∷ []) new
    go zero enough same = absurd (omega (arith, enough, reads.shorter))
    go (suc m) enough same = record {
      text = reads.text ∙ l.text;
      shorter = omega (arith, reads.shorter, l.shorter);
      order = λ lo hi o. reads.order lo hi (l.order lo hi o);
      fuel = m;
      enough = omega (arith, reads.shorter, enough);
      same = ap (λ k. then_read k (λ x. many_for (suc m) goes item (front ++ x ∷ []))) (sym reads.value) ∙ sym (turn goes item (suc m) front (left old) on) ∙ same;
    }

-- the value that goes wrong
pub stuck : {A B C : Type 0} (goes : Token → Bool) (item : List A → Parser A) (view : List ℕ → B → A) (views : List ℕ → C → List A) (start : Reading) (front : List A) (old new : Reading) (e : DefFault) →
    Loops goes item start front old → true ≡ begins goes (left old) → Reads 1 view (item front) old new (Err e) → Reads 0 views (many goes item) start new (Err e)
stuck goes item view views start front old new e l on reads = record {
  text = reads.text ∙ l.text;
  shorter = tt;
  order = λ lo hi o. tt;
  value = refuses_as (item front (left old)) (many goes item (left start)) e failed reads.value;
}
  where
    failed : (k : DefFault) → item front (left old) ≡ Err k → many goes item (left start) ≡ Err k
    failed k is = sym l.same ∙ turn goes item l.fuel front (left old) on ∙ ap (λ r. then_read r (λ x. many_for l.fuel goes item (front ++ x ∷ []))) is

-- the end of the values
pub ended : {A C : Type 0} (goes : Token → Bool) (item : List A → Parser A) (views : List ℕ → C → List A) (start : Reading) (xs : C) (now : Reading) →
    Loops goes item start (views start.text xs) now → false ≡ begins goes (left now) → Reads 0 views (many goes item) start now (Ok xs)
ended goes item views start xs now l off = record {
  text = l.text;
  shorter = omega (arith, l.shorter);
  order = l.order;
  value = sym l.same ∙ ap (λ b. if b then then_read (item (views start.text xs) (left now)) (λ x. many_for l.fuel goes item (views start.text xs ++ x ∷ [])) else Ok (views start.text xs, left now)) (sym off);
}

pub map_push : {A B : Type 0} (f : A → B) (xs : List A) (x : A) → map f (xs ++ x ∷ []) ≡ map f xs ++ f x ∷ []
map_push f [] x = refl
map_push f (y ∷ xs) x = ap (λ k. f y ∷ k) (map_push f xs x)

-- one more value of a list, as the code has it
pub one_pushed : {A B : Type 0} (goes : Token → Bool) (item : List A → Parser A) (view : List ℕ → B → A) (start : Reading) (xs ys : List B) (old new : Reading) (x : B) → ys ≡ xs ++ x ∷ [] →
    Loops goes item start (map (view start.text) xs) old → true ≡ begins goes (left old) → Reads 1 view (item (map (view start.text) xs)) old new (Ok x) → Loops goes item start (map (view start.text) ys) new
one_pushed goes item view start xs ys old new x pushed l on reads =
    subst (λ k. Loops goes item start k new)
    (ap (λ t. map (view start.text) xs ++ view t x ∷ []) l.text ∙ sym (map_push (view start.text) xs x) ∙ ap (map (view start.text)) (sym pushed))
    (one_more goes item view start (map (view start.text) xs) old new x l on reads)

pub first_some-push : {A : Type 0} (xs : List (Option A)) (o : Option A) → first_some (xs ++ o ∷ []) ≡ option_or (first_some xs) o
first_some-push [] None = refl
first_some-push [] (Some x) = refl
first_some-push (None ∷ xs) o = first_some-push xs o
first_some-push (Some x ∷ xs) o = refl

pub or_map : {A B : Type 0} (f : A → B) (o p : Option A) → option_map f (option_or o p) ≡ option_or (option_map f o) (option_map f p)
or_map f None p = refl
or_map f (Some x) p = refl
