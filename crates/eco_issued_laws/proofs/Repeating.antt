-- Values one after another, read again.
use Rattle.std.proofs.Common.{◌≡◌, ℕ, zero, suc, ◌+◌, ◌<◌, ◌≤◌, Bool, true, false, List, [], ◌∷◌, ◌++◌, map, Ok, refl, ap, sym, ◌∙◌, subst, arith, if◌then◌else◌}
use Rattle.eco_text.specs.Words.{Token, Walk, finished, open_quote, word_then, ◌+++◌}
use Rattle.eco_def.specs.Parsing.{Parser, then_read, ◌>>=◌, begins, many, many_for, size}
use Rattle.eco_issued_laws.proofs.Keeping.{SameAll, SameNext, Reread, Keeps, Tests, same_length, all_same, next_same, cancel, size_join, not_Ok, Ok_is, split, chain, begins_again}

-- each value beside its own
abbrev pub Beside : {A B : Type 0} → (A → B → Type 0) → List A → List B → Type 0
Beside V [] [] = Unit {0}
Beside V [] (y ∷ ys) = ⊥
Beside V (x ∷ xs) [] = ⊥
Beside V (x ∷ xs) (y ∷ ys) = V x y × Beside V xs ys

pub beside_push : {A B : Type 0} (V : A → B → Type 0) (xs : List A) (ys : List B) (x : A) (y : B) → Beside V xs ys → V x y → Beside V (xs ++ x ∷ []) (ys ++ y ∷ [])
beside_push V [] [] x y b v = (v, tt)
beside_push V [] (k ∷ ys) x y b v = absurd b
beside_push V (k ∷ xs) [] x y b v = absurd b
beside_push V (k ∷ xs) (l ∷ ys) x y b v = (b.0, beside_push V xs ys x y b.1 v)

pub beside_map : {A B C : Type 0} {V : A → B → Type 0} (f : A → C) (g : B → C) → ((x : A) (y : B) → V x y → g y ≡ f x) → (xs : List A) (ys : List B) → Beside V xs ys → map g ys ≡ map f xs
beside_map f g e [] [] b = refl
beside_map f g e [] (y ∷ ys) b = absurd b
beside_map f g e (x ∷ xs) [] b = absurd b
beside_map f g e (x ∷ xs) (y ∷ ys) b = let one : g y ≡ f x = e x y b.0 in let rest : map g ys ≡ map f xs = beside_map f g e xs ys b.1 in cc

pub sizes : {A B : Type 0} {n : ℕ} {V : A → B → Type 0} {H : Walk → Walk → Type 0} {q : Parser B} {u r : Walk} {x : A} → Reread n V H q u x r → n + size r ≤ size u
sizes {r} one = omega (arith, one.taken, ap size one.is, size_join one.front r)

module _ {A B : Type 0} (V : A → B → Type 0) (f g : Token → Bool) (test : Tests f g) (item : List A → Parser A) (again : List B → Parser B)
    (each : (xs : List A) (ys : List B) → Beside V xs ys → Keeps 1 V SameNext (item xs) (again ys)) where
  tested : (m : ℕ) (ys : List B) (u r : Walk) (zs : List A) → begins f u ≡ true →
      Reread 1 (Beside V) SameNext (again ys >>= λ y. many_for m g again (ys ++ y ∷ [])) u zs r → Reread 0 (Beside V) SameNext (many_for (suc m) g again ys) u zs r
  tested m ys u r zs is one = record {
    front = one.front;
    is = one.is;
    taken = omega arith;
    ahead = one.ahead;
    again = λ fs s all h.
        let y = one.again fs s all h in
        (y.0, ap (λ b. if b then then_read (again ys (fs +++ s)) (λ y. many_for m g again (ys ++ y ∷ [])) else Ok (ys, fs +++ s)) (begins_again test u (fs +++ s) (one.ahead fs s all h) ∙ is) ∙ y.1, y.2);
  }

  stopped : (m : ℕ) (xs : List A) (ys : List B) → Beside V xs ys → (u r : Walk) (zs : List A) → begins f u ≡ false → xs ≡ zs → u ≡ r → Reread 0 (Beside V) SameNext (many_for (suc m) g again ys) u zs r
  stopped m xs ys beside u r zs off same rest = record {
    front = [];
    is = rest;
    taken = omega arith;
    ahead = head;
    again = found;
  }
    where
      head : (fs : List Token) (s : Walk) → SameAll [] fs → SameNext r s → SameNext u (fs +++ s)
      head [] s all h = subst (λ k. SameNext k s) (sym rest) h
      head (k ∷ fs) s all h = absurd all

      found : (fs : List Token) (s : Walk) → SameAll [] fs → SameNext r s → (ws : List B) × (many_for (suc m) g again ys (fs +++ s) ≡ Ok (ws, s)) × Beside V zs ws
      found [] s all h =
          (ys, ap (λ b. if b then then_read (again ys s) (λ y. many_for m g again (ys ++ y ∷ [])) else Ok (ys, s)) (begins_again test u s (head [] s all h) ∙ off), subst (λ k. Beside V k ys) same beside)
      found (k ∷ fs) s all h = absurd all

  -- a value reads itself again
  itself : (y : List B) (xs : List A) → Beside V xs y → (u middle : Walk) (x : A) → Reread 1 V SameNext (again y) u x middle → (k : B) × V x k
  itself ys xs beside u middle x one = let k = one.again one.front middle (all_same one.front) (next_same middle) in (k.0, k.2)

  abbrev pub Rests : ℕ → Type 0
  Rests n = (m : ℕ) (xs : List A) (ys : List B) → Beside V xs ys → (u : Walk) (zs : List A) (r : Walk) → many_for n f item xs u ≡ Ok (zs, r) → size u < size r + m →
      Reread 0 (Beside V) SameNext (many_for m g again ys) u zs r

  turn : (n : ℕ) → Rests n → (m : ℕ) (xs : List A) (ys : List B) → Beside V xs ys → (u : Walk) (zs : List A) (r : Walk) → size u < size r + m →
      (b : Bool) → begins f u ≡ b → (if b then then_read (item xs u) (λ x. many_for n f item (xs ++ x ∷ [])) else Ok (xs, u)) ≡ Ok (zs, r) → Reread 0 (Beside V) SameNext (many_for m g again ys) u zs r
  turn n rest zero xs ys beside u zs r lt true is e =
      let s = split (item xs) (λ x. many_for n f item (xs ++ x ∷ [])) u zs r e in
      let one = each xs ys beside u s.first s.middle s.first_is in
      let k = itself ys xs beside u s.middle s.first one in
      let two = rest (suc (size s.middle)) (xs ++ s.first ∷ []) (ys ++ k.0 ∷ []) (beside_push V xs ys s.first k.0 beside k.1) s.middle zs r s.then_is (omega arith) in
      absurd (omega (arith, lt, sizes one, sizes two))
  turn n rest zero xs ys beside u zs r lt false is e = absurd (omega (arith, lt, ap (λ k. size k.1) (Ok_is e)))
  turn n rest (suc m) xs ys beside u zs r lt true is e =
      let s = split (item xs) (λ x. many_for n f item (xs ++ x ∷ [])) u zs r e in
      let one = each xs ys beside u s.first s.middle s.first_is in
      tested m ys u r zs is
      (chain one (λ y v. rest m (xs ++ s.first ∷ []) (ys ++ y ∷ []) (beside_push V xs ys s.first y beside v) s.middle zs r s.then_is (omega (arith, lt, sizes one))))
  turn n rest (suc m) xs ys beside u zs r lt false is e = stopped m xs ys beside u r zs is (ap (λ k. k.0) (Ok_is e)) (ap (λ k. k.1) (Ok_is e))

  pub many_again : (n : ℕ) → Rests n
  many_again zero m xs ys beside (finished p) zs r e lt = absurd (not_Ok e)
  many_again zero m xs ys beside (open_quote p) zs r e lt = absurd (not_Ok e)
  many_again zero m xs ys beside (word_then w u) zs r e lt = absurd (not_Ok e)
  many_again (suc n) m xs ys beside u zs r e lt = turn n (many_again n) m xs ys beside u zs r lt (begins f u) refl e

-- the fuel of many is enough
pub keeps_many : {A B : Type 0} (V : A → B → Type 0) {f g : Token → Bool} (item : List A → Parser A) (again : List B → Parser B) → Tests f g →
    ((xs : List A) (ys : List B) → Beside V xs ys → Keeps 1 V SameNext (item xs) (again ys)) → Keeps 0 (Beside V) SameNext (many f item) (many g again)
keeps_many {A} {B} V {f} {g} item again test each u zs r e = record {
  front = one.front;
  is = one.is;
  taken = omega arith;
  ahead = one.ahead;
  again = found;
}
  where
    at : (m : ℕ) → size u < size r + m → Reread 0 (Beside V) SameNext (many_for m g again []) u zs r
    at m lt = many_again V f g test item again each (suc (size u)) m [] [] tt u zs r e lt

    one : Reread 0 (Beside V) SameNext (many_for (suc (size u)) g again []) u zs r
    one = at (suc (size u)) (omega arith)

    found : (fs : List Token) (s : Walk) → SameAll one.front fs → SameNext r s → (ws : List B) × (many g again (fs +++ s) ≡ Ok (ws, s)) × Beside V zs ws
    found fs s all h =
        let enough : size u < size r + suc (size (fs +++ s)) = omega (arith, size_join fs s, same_length one.front fs all, ap size one.is, size_join one.front r) in
        let two = at (suc (size (fs +++ s))) enough in
        two.again fs s (subst (λ k. SameAll k fs) (cancel one.front two.front r (sym one.is ∙ two.is)) all) h
