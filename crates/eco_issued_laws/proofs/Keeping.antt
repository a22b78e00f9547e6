-- What a reading reads again: from words that say the same, whatever follows.
use Rattle.std.proofs.Common.{◌≡◌, ℕ, suc, ◌+◌, ◌≤◌, Bool, true, false, List, [], ◌∷◌, ◌++◌, length, Result, Ok, Err, refl, ap, sym, ◌∙◌, subst, arith, if◌then◌else◌}
use Rattle.std.proofs.lemmas.List.{length-append}
use Rattle.eco_text.specs.Words.{Token, Walk, finished, open_quote, word_then, ◌+++◌}
use Rattle.eco_def.specs.Parsing.{Parser, then_read, ◌>>=◌, give, refuse, begins, any, choose, next, size}
use Rattle.eco_issued_laws.proofs.Faults.{Fault, bad_statement}
use Rattle.eco_text.proofs.Splicing.{join}

-- words that say the same
pub record Same (t s : Token) : Type 0 where
  pub bytes : s.bytes ≡ t.bytes
  pub quoted : s.quoted ≡ t.quoted

abbrev pub SameAll : List Token → List Token → Type 0
SameAll [] [] = Unit {0}
SameAll [] (s ∷ ss) = ⊥
SameAll (t ∷ ts) [] = ⊥
SameAll (t ∷ ts) (s ∷ ss) = Same t s × SameAll ts ss

-- the next words say the same
abbrev pub SameNext : Walk → Walk → Type 0
SameNext (word_then t u) (word_then s v) = Same t s
SameNext (finished p) (finished q) = Unit {0}
SameNext (open_quote p) (open_quote q) = Unit {0}
SameNext _ _ = ⊥

-- whatever follows
abbrev pub Always : Walk → Walk → Type 0
Always r s = Unit {0}

-- A value was read from u, by words of which there are n at least, and r is left.
-- From words that say the same, another reading reads a value that V has beside it, whatever follows that H allows.
pub record Reread {A B : Type 0} (n : ℕ) (V : A → B → Type 0) (H : Walk → Walk → Type 0) (q : Parser B) (u : Walk) (x : A) (r : Walk) : Type 0 where
  pub front : List Token
  pub is : u ≡ front +++ r
  pub taken : n ≤ length front
  pub ahead : (fs : List Token) (s : Walk) → SameAll front fs → H r s → SameNext u (fs +++ s)
  pub again : (fs : List Token) (s : Walk) → SameAll front fs → H r s → (y : B) × (q (fs +++ s) ≡ Ok (y, s)) × V x y

abbrev pub Keeps : {A B : Type 0} → ℕ → (A → B → Type 0) → (Walk → Walk → Type 0) → Parser A → Parser B → Type 0
Keeps {A} {B} n V H p q = (u : Walk) (x : A) (r : Walk) → p u ≡ Ok (x, r) → Reread n V H q u x r

-- a test that words which say the same pass alike
abbrev pub Tests : (Token → Bool) → (Token → Bool) → Type 0
Tests f g = (t s : Token) → Same t s → g s ≡ f t

-- ---- the parts of two lists that say the same

pub record Parts (a b cs : List Token) : Type 0 where
  pub front : List Token
  pub back : List Token
  pub is : cs ≡ front ++ back
  pub front_same : SameAll a front
  pub back_same : SameAll b back

pub parts : (a b cs : List Token) → SameAll (a ++ b) cs → Parts a b cs
parts [] b cs same = record { front = []; back = cs; is = refl; front_same = tt; back_same = same }
parts (t ∷ a) b [] same = absurd same
parts (t ∷ a) b (s ∷ cs) same =
    let p = parts a b cs same.1 in
    record { front = s ∷ p.front; back = p.back; is = ap (λ xs. s ∷ xs) p.is; front_same = (same.0, p.front_same); back_same = p.back_same }

pub same_join : (a b c d : List Token) → SameAll a c → SameAll b d → SameAll (a ++ b) (c ++ d)
same_join [] b [] d x y = y
same_join [] b (s ∷ c) d x y = absurd x
same_join (t ∷ a) b [] d x y = absurd x
same_join (t ∷ a) b (s ∷ c) d x y = (x.0, same_join a b c d x.1 y)

pub same_length : (a c : List Token) → SameAll a c → length c ≡ length a
same_length [] [] x = refl
same_length [] (s ∷ c) x = absurd x
same_length (t ∷ a) [] x = absurd x
same_length (t ∷ a) (s ∷ c) x = ap suc (same_length a c x.1)

pub same_itself : (t : Token) → Same t t
same_itself t = record { bytes = refl; quoted = refl }

pub all_same : (ts : List Token) → SameAll ts ts
all_same [] = tt
all_same (t ∷ ts) = (same_itself t, all_same ts)

-- ---- readings

pub Ok_is : {A : Type 0} {x y : A × Walk} → (◌≡◌ {A = Result (A × Walk) Fault} (Ok x) (Ok y)) → x ≡ y
Ok_is e = cc

pub not_Ok : {A : Type 0} {e : Fault} {x : A} → Err e ≡ Ok x → ⊥
not_Ok e = cc

pub keeps_any : {H : Walk → Walk → Type 0} → Keeps 1 Same H any any
keeps_any (finished p) x r e = absurd (not_Ok e)
keeps_any (open_quote p) x r e = absurd (not_Ok e)
keeps_any {H} (word_then w u) x r e =
    let is : (w, u) ≡ (x, r) = Ok_is e in
    let same : w ≡ x = ap (λ p. p.0) is in
    let rest : u ≡ r = ap (λ p. p.1) is in
    record {
      front = w ∷ [];
      is = ap (word_then w) rest;
      taken = one_word;
      ahead = head;
      again = λ fs s all h. found same fs s all;
    }
  where
    one_word : 1 ≤ length (w ∷ [])
    one_word = omega arith

    head : (fs : List Token) (s : Walk) → SameAll (w ∷ []) fs → H r s → SameNext (word_then w u) (fs +++ s)
    head [] s all h = absurd all
    head (f ∷ fs) s all h = all.0

    found : w ≡ x → (fs : List Token) (s : Walk) → SameAll (w ∷ []) fs → (y : Token) × (any (fs +++ s) ≡ Ok (y, s)) × Same x y
    found same [] s all = absurd all
    found same (f ∷ []) s all = (f, refl, subst (λ z. Same z f) same all.0)
    found same (f ∷ g ∷ fs) s all = absurd all.1

pub keeps_refuse : {A B : Type 0} {n : ℕ} {V : A → B → Type 0} {H : Walk → Walk → Type 0} {q : Parser B} (fault : ℕ → Fault) → Keeps n V H (refuse fault) q
keeps_refuse fault (finished p) x r e = absurd (not_Ok e)
keeps_refuse fault (open_quote p) x r e = absurd (not_Ok e)
keeps_refuse fault (word_then w u) x r e = absurd (not_Ok e)

pub keeps_give : {A B : Type 0} {V : A → B → Type 0} {x : A} {y : B} → V x y → Keeps 0 V SameNext (give x) (give y)
keeps_give {V} {x} {y} v u z r e =
    let same : x ≡ z = ap (λ p. p.0) (Ok_is e) in
    let rest : u ≡ r = ap (λ p. p.1) (Ok_is e) in
    record {
      front = [];
      is = rest;
      taken = omega arith;
      ahead = head rest;
      again = found same;
    }
  where
    head : u ≡ r → (fs : List Token) (s : Walk) → SameAll [] fs → SameNext r s → SameNext u (fs +++ s)
    head rest [] s all h = subst (λ z. SameNext z s) (sym rest) h
    head rest (f ∷ fs) s all h = absurd all

    found : x ≡ z → (fs : List Token) (s : Walk) → SameAll [] fs → SameNext r s → (y' : _) × (give y (fs +++ s) ≡ Ok (y', s)) × V z y'
    found same [] s all h = (y, refl, subst (λ k. V k y) same v)
    found same (f ∷ fs) s all h = absurd all

-- what a reading that is followed by another has read
pub record Split {A B : Type 0} (p : Parser A) (f : A → Parser B) (u : Walk) (x : B) (r : Walk) : Type 0 where
  pub first : A
  pub middle : Walk
  pub first_is : p u ≡ Ok (first, middle)
  pub then_is : f first middle ≡ Ok (x, r)

pub split : {A B : Type 0} (p : Parser A) (f : A → Parser B) (u : Walk) (x : B) (r : Walk) → (p >>= f) u ≡ Ok (x, r) → Split p f u x r
split {A} {B} p f u x r e = go (p u) refl e
  where
    go : (z : Result (A × Walk) Fault) → p u ≡ z → then_read z f ≡ Ok (x, r) → Split p f u x r
    go (Ok y) is e = record { first = y.0; middle = y.1; first_is = is; then_is = e }
    go (Err k) is e = absurd (not_Ok e)

-- ---- one reading after another

pub next_same : (u : Walk) → SameNext u u
next_same (finished p) = tt
next_same (open_quote p) = tt
next_same (word_then w u) = same_itself w

pub size_join : (a : List Token) (r : Walk) → size (a +++ r) ≡ length a + size r
size_join [] r = omega arith
size_join (t ∷ a) r = omega (arith, size_join a r)

pub rest_is : {t s : Token} {u v : Walk} → word_then t u ≡ word_then s v → u ≡ v
rest_is e = cc

pub first_is : {t s : Token} {u v : Walk} → word_then t u ≡ word_then s v → t ≡ s
first_is e = cc

pub cancel : (a b : List Token) (r : Walk) → a +++ r ≡ b +++ r → a ≡ b
cancel [] [] r e = refl
cancel [] (s ∷ b) r e = absurd (omega (arith, ap size e, size_join b r))
cancel (t ∷ a) [] r e = absurd (omega (arith, ap size e, size_join a r))
cancel (t ∷ a) (s ∷ b) r e = let same : a ≡ b = cancel a b r (rest_is e) in let first : t ≡ s = first_is e in cc

-- the next words of readings one after another
front_next : (a c : List Token) (u v : Walk) → SameAll a c → SameNext u v → SameNext (a +++ u) (c +++ v)
front_next [] [] u v all h = h
front_next [] (s ∷ c) u v all h = absurd all
front_next (t ∷ a) [] u v all h = absurd all
front_next (t ∷ a) (s ∷ c) u v all h = all.0

module _ {A B C D : Type 0} {n m : ℕ} {V : A → C → Type 0} {W : B → D → Type 0} {H : Walk → Walk → Type 0} {q : Parser C} {g : C → Parser D} {u middle r : Walk} {x : A} {z : B}
    (first : Reread n V SameNext q u x middle) (second : (y : C) → V x y → Reread m W H (g y) middle z r) where
  -- the value that the first reads again from the same words
  self : (y : C) × (q (first.front +++ middle) ≡ Ok (y, middle)) × V x y
  self = first.again first.front middle (all_same first.front) (next_same middle)

  behind : Reread m W H (g self.0) middle z r
  behind = second self.0 self.2

  one_front : (y : C) (v : V x y) → (second y v).front ≡ behind.front
  one_front y v = cancel (second y v).front behind.front r (sym (second y v).is ∙ behind.is)

  ahead_again : (fs : List Token) (s : Walk) → SameAll (first.front ++ behind.front) fs → H r s → SameNext u (fs +++ s)
  ahead_again fs s all h =
      let p = parts first.front behind.front fs all in
      let back : SameNext middle (p.back +++ s) = behind.ahead p.back s p.back_same h in
      let whole : SameNext u (p.front +++ (p.back +++ s)) = first.ahead p.front (p.back +++ s) p.front_same back in
      subst (λ k. SameNext u k) (sym (join p.front p.back s) ∙ ap (λ k. k +++ s) (sym p.is)) whole

  then_again : (fs : List Token) (s : Walk) → SameAll (first.front ++ behind.front) fs → H r s → (y : D) × ((q >>= g) (fs +++ s) ≡ Ok (y, s)) × W z y
  then_again fs s all h =
      let p = parts first.front behind.front fs all in
      let back : SameNext middle (p.back +++ s) = behind.ahead p.back s p.back_same h in
      let one = first.again p.front (p.back +++ s) p.front_same back in
      let two = (second one.0 one.2).again p.back s (subst (λ k. SameAll k p.back) (sym (one_front one.0 one.2)) p.back_same) h in
      let whole : (q >>= g) (p.front +++ (p.back +++ s)) ≡ Ok (two.0, s) = ap (λ k. then_read k g) one.1 ∙ two.1 in
      (two.0, subst (λ k. (q >>= g) k ≡ Ok (two.0, s)) (sym (join p.front p.back s) ∙ ap (λ k. k +++ s) (sym p.is)) whole, two.2)

  pub chain : Reread (n + m) W H (q >>= g) u z r
  chain = record {
    front = first.front ++ behind.front;
    is = first.is ∙ ap (λ v. first.front +++ v) behind.is ∙ sym (join first.front behind.front r);
    taken = omega (arith, first.taken, behind.taken, length-append first.front behind.front);
    ahead = ahead_again;
    again = then_again;
  }

pub keeps_then : {A B C D : Type 0} {n m : ℕ} {V : A → C → Type 0} {W : B → D → Type 0} {H : Walk → Walk → Type 0} {p : Parser A} {q : Parser C} {f : A → Parser B} {g : C → Parser D} →
    Keeps n V SameNext p q → ((x : A) (y : C) → V x y → Keeps m W H (f x) (g y)) → Keeps (n + m) W H (p >>= f) (q >>= g)
keeps_then {p} {q} {f} {g} kp kf u x r e =
    let s = split p f u x r e in
    chain (kp u s.first s.middle s.first_is) (λ y v. kf s.first y v s.middle x r s.then_is)

-- a reading that only makes another value
pub keeps_as : {A B C D : Type 0} {n : ℕ} {V : A → C → Type 0} {W : B → D → Type 0} {H : Walk → Walk → Type 0} {p : Parser A} {q : Parser C} (f : A → B) (g : C → D) →
    Keeps n V H p q → ((x : A) (y : C) → V x y → W (f x) (g y)) → Keeps n W H (p >>= λ x. give (f x)) (q >>= λ y. give (g y))
keeps_as {A} {B} {C} {D} {n} {V} {W} {H} {p} {q} f g kp kf u z r e =
    let s = split p (λ x. give (f x)) u z r e in
    let value : f s.first ≡ z = ap (λ k. k.0) (Ok_is s.then_is) in
    let rest : s.middle ≡ r = ap (λ k. k.1) (Ok_is s.then_is) in
    let one = kp u s.first r (s.first_is ∙ ap (λ k. Ok (s.first, k)) rest) in
    record {
      front = one.front;
      is = one.is;
      taken = one.taken;
      ahead = one.ahead;
      again = λ fs v all h. found fs v s.first value (one.again fs v all h);
    }
  where
    found : (fs : List Token) (v : Walk) (x : A) → f x ≡ z → (y : C) × (q (fs +++ v) ≡ Ok (y, v)) × V x y → (d : D) × ((q >>= λ k. give (g k)) (fs +++ v) ≡ Ok (d, v)) × W z d
    found fs v x value y = (g y.0, ap (λ k. then_read k (λ k'. give (g k'))) y.1, subst (λ k. W k (g y.0)) value (kf x y.0 y.2))

-- ---- one of two readings

pub begins_again : {f g : Token → Bool} → Tests f g → (u v : Walk) → SameNext u v → begins g v ≡ begins f u
begins_again test (word_then t u) (word_then s v) h = test t s h
begins_again test (word_then t u) (finished q) h = absurd h
begins_again test (word_then t u) (open_quote q) h = absurd h
begins_again test (finished p) (finished q) h = refl
begins_again test (finished p) (open_quote q) h = absurd h
begins_again test (finished p) (word_then s v) h = absurd h
begins_again test (open_quote p) (open_quote q) h = refl
begins_again test (open_quote p) (finished q) h = absurd h
begins_again test (open_quote p) (word_then s v) h = absurd h

pub keeps_choose : {A B : Type 0} {n : ℕ} {V : A → B → Type 0} {H : Walk → Walk → Type 0} {f g : Token → Bool} {p p' : Parser A} {q q' : Parser B} →
    Tests f g → Keeps n V H p q → Keeps n V H p' q' → Keeps n V H (choose f p p') (choose g q q')
keeps_choose {A} {B} {n} {V} {H} {f} {g} {p} {p'} {q} {q'} test yes' no' u x r e = go (begins f u) refl e
  where
    go : (b : Bool) → begins f u ≡ b → (if b then p u else p' u) ≡ Ok (x, r) → Reread n V H (choose g q q') u x r
    go true is e =
        let one = yes' u x r e in
        record {
          front = one.front;
          is = one.is;
          taken = one.taken;
          ahead = one.ahead;
          again = λ fs s all h. let y = one.again fs s all h in (y.0, ap (λ b. if b then q (fs +++ s) else q' (fs +++ s)) (begins_again test u (fs +++ s) (one.ahead fs s all h) ∙ is) ∙ y.1, y.2);
        }
    go false is e =
        let one = no' u x r e in
        record {
          front = one.front;
          is = one.is;
          taken = one.taken;
          ahead = one.ahead;
          again = λ fs s all h. let y = one.again fs s all h in (y.0, ap (λ b. if b then q (fs +++ s) else q' (fs +++ s)) (begins_again test u (fs +++ s) (one.ahead fs s all h) ∙ is) ∙ y.1, y.2);
        }

pub keeps_next : {H : Walk → Walk → Type 0} {f g : Token → Bool} → Tests f g → Keeps 1 Same H (next f) (next g)
keeps_next test = keeps_choose test keeps_any (keeps_refuse bad_statement)
