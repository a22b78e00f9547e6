-- Readings of a text and of the edited text, side by side.
use Rattle.std.proofs.Common.{◌≡◌, ℕ, zero, suc, ◌<◌, ◌≤◌, Bool, true, false, List, [], ◌∷◌, ◌++◌, drop, Ok, refl, ap, sym, ◌∙◌, subst, arith, if◌then◌else◌, append_assoc, append-nil}
use Rattle.std.specs.List.{AllByRecursion, flat_map}
use Rattle.eco_text.specs.Words.{Token, Walk, between, walk}
use Rattle.eco_def.specs.Parsing.{Parser, then_read, begins, choose, many_for, size}
use Rattle.eco_issued_laws.specs.Issued.{Edit, edited}
use Rattle.eco_text.proofs.Stepping.{Closes}
use Rattle.eco_issued_laws.proofs.Faults.{bad_statement}
use Rattle.eco_issued_laws.proofs.Keeping.{SameAll, SameNext, Always, Reread, Keeps, Tests, cancel, begins_again, Ok_is, split}
use Rattle.eco_issued_laws.proofs.Repeating.{Beside, beside_push}
use Rattle.eco_issued_laws.proofs.Editing.{At, Ahead, Behind, behind}
use Rattle.eco_issued_laws.proofs.Ending.{Ends, Ended, chosen, refused}

-- the words of the edited text, from a place on
abbrev pub now : List ℕ → ℕ → ℕ → List Edit → Walk
now text p q es = walk between p (edited text q es)

-- A value was read from the text. With the changes that it wants, one of some readings reads from the edited text a value
-- that V has beside it, and leaves what then follows.
pub record Along {A B I : Type 0} (text : List ℕ) (V : A → B → Type 0) (changes : A → List Edit) (Q : I → Type 0) (again : I → Parser B) (q : ℕ) (x : A) (u r : Walk) : Type 0 where
  pub place : ℕ
  pub at : At text place r
  pub closed : Closes (drop place text)
  pub later : q ≤ place
  pub ahead : Closes (drop q text) → (es : List Edit) → Ahead text place es → Ahead text q (changes x ++ es)
  pub first : (p : ℕ) (es : List Edit) → Ahead text place es → SameNext u (now text p q (changes x ++ es))
  pub reads : (i : I) → Q i → (p : ℕ) (es : List Edit) → Ahead text place es → (y : B) × (k : ℕ) × (again i (now text p q (changes x ++ es)) ≡ Ok (y, now text k place es)) × V x y

abbrev pub Issues : {A B I : Type 0} → List ℕ → (A → B → Type 0) → (A → List Edit) → (I → Type 0) → Parser A → (I → Parser B) → Type 0
Issues {A} text V changes Q p again = (q : ℕ) (u : Walk) (x : A) (r : Walk) → At text q u → p u ≡ Ok (x, r) → Along text V changes Q again q x u r

pub ahead_before : (text : List ℕ) (q k : ℕ) (es : List Edit) → q ≤ k → Ahead text k es → Ahead text q es
ahead_before text q k [] le a = tt
ahead_before text q k (e ∷ es) le a = (omega (arith, le, a.0), a.1)

-- a reading without changes
pub issues_keeps : {A B : Type 0} {n : ℕ} (text : List ℕ) (V : A → B → Type 0) (E : A → ℕ → Type 0) (p : Parser A) (q : Parser B) → Keeps n V Always p q → Ends E p → Issues text V (λ x. []) (λ i. Unit {0}) p (λ (i : Unit {0}). q)
issues_keeps {A} {B} {n} text V E p q keeps ends at_q u x r at e = record {
  place = ed.last.end;
  at = bh.at;
  closed = bh.closed;
  later = bh.later;
  ahead = λ c es a. ahead_before text at_q ed.last.end es bh.later a;
  first = first_of;
  reads = reads_of;
}
  where
    ed : Ended (E x) u r
    ed = ends u x r e

    bh : Behind text at_q (ed.init ++ ed.last ∷ []) ed.last.end r
    bh = behind text at_q u ed.init ed.last r at ed.is ed.plain

    one : Reread n V Always q u x r
    one = keeps u x r e

    front_is : ed.init ++ ed.last ∷ [] ≡ one.front
    front_is = cancel (ed.init ++ ed.last ∷ []) one.front r (sym ed.is ∙ one.is)

    first_of : (p' : ℕ) (es : List Edit) → Ahead text ed.last.end es → SameNext u (now text p' at_q es)
    first_of p' es a =
        let y = bh.again p' es a in
        subst (λ k. SameNext u k) (sym y.3) (one.ahead y.0 (now text y.1 ed.last.end es) (subst (λ k. SameAll k y.0) front_is y.2) tt)

    reads_of : (i : Unit {0}) → Unit {0} → (p' : ℕ) (es : List Edit) → Ahead text ed.last.end es → (y : B) × (k : ℕ) × (q (now text p' at_q es) ≡ Ok (y, now text k ed.last.end es)) × V x y
    reads_of i w p' es a =
        let y = bh.again p' es a in
        let z = one.again y.0 (now text y.1 ed.last.end es) (subst (λ k. SameAll k y.0) front_is y.2) tt in
        (z.0, y.1, ap q y.3 ∙ z.1, z.2)

-- the same, where the changes are none for what is read
pub issues_none : {A B : Type 0} {n : ℕ} (text : List ℕ) (V : A → B → Type 0) (changes : A → List Edit) (p : Parser A) (q : Parser B) → Keeps n V Always p q → Ends (λ x k. changes x ≡ []) p → Issues text V changes (λ i. Unit {0}) p (λ (i : Unit {0}). q)
issues_none text V changes p q keeps ends at_q u x r at e =
    let a = issues_keeps text V (λ x k. changes x ≡ []) p q keeps ends at_q u x r at e in
    let no = (ends u x r e).end in
    record {
      place = a.place;
      at = a.at;
      closed = a.closed;
      later = a.later;
      ahead = λ c es h. subst (λ k. Ahead text at_q (k ++ es)) (sym no) (a.ahead c es h);
      first = λ k es h. subst (λ l. SameNext u (now text k at_q (l ++ es))) (sym no) (a.first k es h);
      reads = λ i w k es h. let y = a.reads i w k es h in (y.0, y.1, ap (λ l. q (now text k at_q (l ++ es))) no ∙ y.2, y.3);
    }

-- what was chosen in the text is chosen in the edited text
pub chosen_along : {A B I : Type 0} (text : List ℕ) (V : A → B → Type 0) (changes : A → List Edit) (Q : I → Type 0) (f : Token → Bool) (b : Bool) (q q' : I → Parser B) → Tests f f → (at_q : ℕ) (x : A) (u r : Walk) → begins f u ≡ b →
    Along text V changes Q (λ i w. if b then q i w else q' i w) at_q x u r → Along text V changes Q (λ i. choose f (q i) (q' i)) at_q x u r
chosen_along text V changes Q f b q q' test at_q x u r is a = record {
  place = a.place;
  at = a.at;
  closed = a.closed;
  later = a.later;
  ahead = a.ahead;
  first = a.first;
  reads = λ i w k es h.
      let v = now text k at_q (changes x ++ es) in
      let y = a.reads i w k es h in
      (y.0, y.1, ap (λ b. if b then q i v else q' i v) (begins_again test u v (a.first k es h) ∙ is) ∙ y.2, y.3);
}

pub issues_choose : {A B I : Type 0} (text : List ℕ) (V : A → B → Type 0) (changes : A → List Edit) (Q : I → Type 0) (f : Token → Bool) (p p' : Parser A) (q q' : I → Parser B) → Tests f f →
    Issues text V changes Q p q → Issues text V changes Q p' q' → Issues text V changes Q (choose f p p') (λ i. choose f (q i) (q' i))
issues_choose {A} {B} {I} text V changes Q f p p' q q' test yes' no' at_q u x r at e =
    chosen f p p' u x r e (Along text V changes Q (λ i. choose f (q i) (q' i)) at_q x u r)
    (λ is e. chosen_along text V changes Q f true q q' test at_q x u r is (yes' at_q u x r at e))
    (λ is e. chosen_along text V changes Q f false q q' test at_q x u r is (no' at_q u x r at e))

-- ---- values one after another

pub record Loop {A B : Type 0} (text : List ℕ) (V : A → B → Type 0) (changes : A → List Edit) (f : Token → Bool) (again : List B → Parser B) (xs zs : List A) (q : ℕ) (u r : Walk) : Type 0 where
  pub rest : List A
  pub is : zs ≡ xs ++ rest
  pub place : ℕ
  pub at : At text place r
  pub closed : Closes (drop q text) → Closes (drop place text)
  pub later : q ≤ place
  pub stops : begins f r ≡ false
  pub ahead : Closes (drop q text) → (es : List Edit) → Ahead text place es → Ahead text q (flat_map changes rest ++ es)
  -- the loop over the edited text comes to where it has read as much
  pub reads : (m p : ℕ) (ys : List B) (es : List Edit) → Beside V xs ys → Ahead text place es → size (now text p q (flat_map changes rest ++ es)) < m →
      (ws : List B) × (j : ℕ) × (k : ℕ) × (many_for m f again ys (now text p q (flat_map changes rest ++ es)) ≡ many_for j f again ws (now text k place es)) × (size (now text k place es) < j) × Beside V zs ws

pub every_at : {A : Type 0} (G : A → Type 0) (xs : List A) (x : A) (ys : List A) → AllByRecursion G (xs ++ x ∷ ys) → G x
every_at G [] x ys all = all.0
every_at G (k ∷ xs) x ys all = every_at G xs x ys all.1

pub longer : {A : Type 0} (n : ℕ) (f : Token → Bool) (item : List A → Parser A) (xs zs : List A) (u r : Walk) → many_for n f item xs u ≡ Ok (zs, r) → (rest : List A) × (zs ≡ xs ++ rest)
longer zero f item xs zs u r e = absurd (refused bad_statement u zs r e)
longer {A} (suc n) f item xs zs u r e = go (begins f u) e (λ x k. longer n f item (xs ++ x ∷ []) zs k r)
  where
    go : (b : Bool) → (if b then then_read (item xs u) (λ x. many_for n f item (xs ++ x ∷ [])) else Ok (xs, u)) ≡ Ok (zs, r) → ((x : A) (k : Walk) → many_for n f item (xs ++ x ∷ []) k ≡ Ok (zs, r) → (rest : List A) × (zs ≡ (xs ++ x ∷ []) ++ rest)) → (rest : List A) × (zs ≡ xs ++ rest)
    go true e rec = let s = split (item xs) (λ x. many_for n f item (xs ++ x ∷ [])) u zs r e in let l = rec s.first s.middle s.then_is in (s.first ∷ l.0, l.1 ∙ append_assoc xs (s.first ∷ []) l.0)
    go false e rec = ([], sym (ap (λ k. k.0) (Ok_is e)) ∙ sym (append-nil xs))

module _ {A B : Type 0} (text : List ℕ) (V : A → B → Type 0) (changes : A → List Edit) (G : A → Type 0) (f : Token → Bool) (test : Tests f f) (item : List A → Parser A) (again : List B → Parser B)
    (each : (xs : List A) (q : ℕ) (u : Walk) (x : A) (r : Walk) → At text q u → item xs u ≡ Ok (x, r) → G x → Along text V changes (λ ys. Beside V xs ys) again q x u r)
    (shrinks : (ys : List B) (u : Walk) (y : B) (r : Walk) → again ys u ≡ Ok (y, r) → suc (size r) ≤ size u) where
  ended_loop : (xs zs : List A) (q : ℕ) (u r : Walk) → At text q u → begins f u ≡ false → xs ≡ zs → u ≡ r → Loop text V changes f again xs zs q u r
  ended_loop xs zs q u r at off same rest = record {
    rest = [];
    is = sym same ∙ sym (append-nil xs);
    place = q;
    at = subst (λ k. At text q k) rest at;
    closed = λ c. c;
    later = omega arith;
    stops = ap (begins f) (sym rest) ∙ off;
    ahead = λ c es a. a;
    reads = λ m p ys es b a lt. (ys, m, p, refl, lt, subst (λ k. Beside V k ys) same b);
  }

  more_loop : (n : ℕ) (xs zs : List A) (q : ℕ) (u r : Walk) (x : A) (middle : Walk) → begins f u ≡ true → (a : Along text V changes (λ ys. Beside V xs ys) again q x u middle) → Loop text V changes f again (xs ++ x ∷ []) zs a.place middle r → Loop text V changes f again xs zs q u r
  more_loop n xs zs q u r x middle on a l = record {
    rest = x ∷ l.rest;
    is = l.is ∙ append_assoc xs (x ∷ []) l.rest;
    place = l.place;
    at = l.at;
    closed = λ c. l.closed a.closed;
    later = omega (arith, a.later, l.later);
    stops = l.stops;
    ahead = λ c es h. subst (λ k. Ahead text q k) (sym (flat es)) (a.ahead c (flat_map changes l.rest ++ es) (l.ahead a.closed es h));
    reads = found;
  }
    where
      flat : (es : List Edit) → flat_map changes (x ∷ l.rest) ++ es ≡ changes x ++ (flat_map changes l.rest ++ es)
      flat es = append_assoc (changes x) (flat_map changes l.rest) es

      found : (m p : ℕ) (ys : List B) (es : List Edit) → Beside V xs ys → Ahead text l.place es → size (now text p q (flat_map changes (x ∷ l.rest) ++ es)) < m →
          (ws : List B) × (j : ℕ) × (k : ℕ) × (many_for m f again ys (now text p q (flat_map changes (x ∷ l.rest) ++ es)) ≡ many_for j f again ws (now text k l.place es)) × (size (now text k l.place es) < j) × Beside V zs ws
      found zero p ys es b h lt = absurd (omega (arith, lt))
      found (suc m) p ys es b h lt =
          let later = l.ahead a.closed es h in
          let y = a.reads ys b p (flat_map changes l.rest ++ es) later in
          let first = a.first p (flat_map changes l.rest ++ es) later in
          let whole : now text p q (flat_map changes (x ∷ l.rest) ++ es) ≡ now text p q (changes x ++ (flat_map changes l.rest ++ es)) = ap (λ k. now text p q k) (flat es) in
          let less : size (now text y.1 a.place (flat_map changes l.rest ++ es)) < m = omega (arith, lt, ap size whole, shrinks ys (now text p q (changes x ++ (flat_map changes l.rest ++ es))) y.0 (now text y.1 a.place (flat_map changes l.rest ++ es)) y.2) in
          let z = l.reads m y.1 (ys ++ y.0 ∷ []) es (beside_push V xs ys x y.0 b y.3) h less in
          let turn : many_for (suc m) f again ys (now text p q (changes x ++ (flat_map changes l.rest ++ es))) ≡ many_for m f again (ys ++ y.0 ∷ []) (now text y.1 a.place (flat_map changes l.rest ++ es)) =
          ap (λ c. if c then then_read (again ys (now text p q (changes x ++ (flat_map changes l.rest ++ es)))) (λ k. many_for m f again (ys ++ k ∷ [])) else Ok (ys, now text p q (changes x ++ (flat_map changes l.rest ++ es)))) (begins_again test u (now text p q (changes x ++ (flat_map changes l.rest ++ es))) first ∙ on)
          ∙ ap (λ k. then_read k (λ k. many_for m f again (ys ++ k ∷ []))) y.2 in
          (z.0, z.1, z.2, ap (λ k. many_for (suc m) f again ys k) whole ∙ turn ∙ z.3, z.4, z.5)

  abbrev pub Loops : ℕ → Type 0
  Loops n = (xs zs : List A) (q : ℕ) (u r : Walk) → AllByRecursion G zs → At text q u → many_for n f item xs u ≡ Ok (zs, r) → Loop text V changes f again xs zs q u r

  turn : (n : ℕ) → Loops n → (xs zs : List A) (q : ℕ) (u r : Walk) → AllByRecursion G zs → At text q u → (b : Bool) → begins f u ≡ b → (if b then then_read (item xs u) (λ x. many_for n f item (xs ++ x ∷ [])) else Ok (xs, u)) ≡ Ok (zs, r) → Loop text V changes f again xs zs q u r
  turn n loops xs zs q u r all at true on e =
      let s = split (item xs) (λ x. many_for n f item (xs ++ x ∷ [])) u zs r e in
      let l = longer n f item (xs ++ s.first ∷ []) zs s.middle r s.then_is in
      let a = each xs q u s.first s.middle at s.first_is (every_at G xs s.first l.0 (subst (λ k. AllByRecursion G k) (l.1 ∙ append_assoc xs (s.first ∷ []) l.0) all)) in
      more_loop n xs zs q u r s.first s.middle on a (loops (xs ++ s.first ∷ []) zs a.place s.middle r all a.at s.then_is)
  turn n loops xs zs q u r all at false off e = ended_loop xs zs q u r at off (ap (λ k. k.0) (Ok_is e)) (ap (λ k. k.1) (Ok_is e))

  pub loop : (n : ℕ) → Loops n
  loop zero xs zs q u r all at e = absurd (refused bad_statement u zs r e)
  loop (suc n) xs zs q u r all at e = turn n (loop n) xs zs q u r all at (begins f u) refl e
