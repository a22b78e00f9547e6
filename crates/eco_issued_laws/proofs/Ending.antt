-- With which word a reading ends.
use Rattle.std.proofs.Common.{◌≡◌, ℕ, Bool, true, false, ◌&&◌, List, [], ◌∷◌, ◌++◌, Ok, refl, ap, sym, ◌∙◌, subst, true≢false, if◌then◌else◌, append_assoc}
use Rattle.eco_text.specs.Words.{Token, Walk, finished, open_quote, word_then, ◌+++◌}
use Rattle.eco_def.specs.Parsing.{Parser, ◌>>=◌, give, refuse, begins, any, choose, next, word, pass_to, pass_to_both}
use Rattle.eco_text.specs.Tokens.{is_word}
use Rattle.eco_issued_laws.proofs.Faults.{Fault, bad_statement}
use Rattle.eco_text.proofs.Splicing.{join}
use Rattle.eco_issued_laws.proofs.Keeping.{SameNext, Keeps, not_Ok, Ok_is, split}

-- the words read end with one that isn't quoted
pub record Ended (E : ℕ → Type 0) (u r : Walk) : Type 0 where
  pub init : List Token
  pub last : Token
  pub is : u ≡ (init ++ last ∷ []) +++ r
  pub plain : last.quoted ≡ false
  pub end : E last.end

abbrev pub Ends : {A : Type 0} → (A → ℕ → Type 0) → Parser A → Type 0
Ends {A} E p = (u : Walk) (x : A) (r : Walk) → p u ≡ Ok (x, r) → Ended (E x) u r

-- each word that passes isn't quoted
abbrev pub Plainly : (Token → Bool) → Type 0
Plainly f = (w : Token) → f w ≡ true → w.quoted ≡ false

pub plain_word_is : (keyword : List ℕ) → Plainly (is_word keyword)
plain_word_is keyword w e = go w.quoted refl e
  where
    go : (b : Bool) → w.quoted ≡ b → is_word keyword w ≡ true → w.quoted ≡ false
    go false q e = q
    go true q e = absurd (true≢false (sym e ∙ rw q refl))

pub any_is : (u : Walk) (x : Token) (r : Walk) → any u ≡ Ok (x, r) → u ≡ word_then x r
any_is (finished p) x r e = absurd (not_Ok e)
any_is (open_quote p) x r e = absurd (not_Ok e)
any_is (word_then w u) x r e = ap (λ k. word_then k.0 k.1) (Ok_is e)

pub refused : {A : Type 0} (fault : ℕ → Fault) (u : Walk) (x : A) (r : Walk) → refuse fault u ≡ Ok (x, r) → ⊥
refused fault (finished p) x r e = absurd (not_Ok e)
refused fault (open_quote p) x r e = absurd (not_Ok e)
refused fault (word_then w u) x r e = absurd (not_Ok e)

-- which of two readings it was
pub chosen : {A : Type 0} (f : Token → Bool) (p q : Parser A) (u : Walk) (x : A) (r : Walk) → choose f p q u ≡ Ok (x, r) →
    (C : Type 0) → (begins f u ≡ true → p u ≡ Ok (x, r) → C) → (begins f u ≡ false → q u ≡ Ok (x, r) → C) → C
chosen f p q u x r e C yes' no' = go (begins f u) refl e
  where
    go : (b : Bool) → begins f u ≡ b → (if b then p u else q u) ≡ Ok (x, r) → C
    go true i e = yes' i e
    go false i e = no' i e

-- a word that passes a test
pub record Next (f : Token → Bool) (u : Walk) (x : Token) (r : Walk) : Type 0 where
  pub is : u ≡ word_then x r
  pub passes : f x ≡ true

pub next_is : (f : Token → Bool) (u : Walk) (x : Token) (r : Walk) → next f u ≡ Ok (x, r) → Next f u x r
next_is f u x r e =
    chosen f any (refuse bad_statement) u x r e (Next f u x r)
    (λ i e. let is : u ≡ word_then x r = any_is u x r e in record { is = is; passes = ap (begins f) (sym is) ∙ i })
    (λ i e. absurd (refused bad_statement u x r e))

pub ends_next : (f : Token → Bool) → Plainly f → Ends (λ w k. w.end ≡ k) (next f)
ends_next f quiet u x r e = let n = next_is f u x r e in record { init = []; last = x; is = n.is; plain = quiet x n.passes; end = refl }

pub ends_word : (keyword : List ℕ) → Ends (λ w k. w.end ≡ k) (word keyword)
ends_word keyword = ends_next (is_word keyword) (plain_word_is keyword)

pub ends_refuse : {A : Type 0} (E : A → ℕ → Type 0) (fault : ℕ → Fault) → Ends E (refuse fault)
ends_refuse E fault u x r e = absurd (refused fault u x r e)

pub ends_choose : {A : Type 0} {E : A → ℕ → Type 0} (f : Token → Bool) {p q : Parser A} → Ends E p → Ends E q → Ends E (choose f p q)
ends_choose {A} {E} f {p} {q} yes' no' u x r e = chosen f p q u x r e (Ended (E x) u r) (λ i. yes' u x r) (λ i. no' u x r)

-- one reading after another, of which the first reads a front
pub ends_then : {A B C : Type 0} {n : ℕ} {V : A → C → Type 0} {E : B → ℕ → Type 0} {p : Parser A} {q : Parser C} {f : A → Parser B} → Keeps n V SameNext p q → ((x : A) → Ends E (f x)) → Ends E (p >>= f)
ends_then {p} {f} kp ef u x r e =
    let s = split p f u x r e in
    let one = kp u s.first s.middle s.first_is in
    let two = ef s.first s.middle x r s.then_is in
    record {
      init = one.front ++ two.init;
      last = two.last;
      is = one.is ∙ ap (λ k. one.front +++ k) two.is ∙ sym (join one.front (two.init ++ two.last ∷ []) r) ∙ ap (λ k. k +++ r) (sym (append_assoc one.front two.init (two.last ∷ [])));
      plain = two.plain;
      end = two.end;
    }

pub ends_as : {A B : Type 0} {E : A → ℕ → Type 0} (F : B → ℕ → Type 0) {p : Parser A} (f : A → B) → Ends E p → ((x : A) (k : ℕ) → E x k → F (f x) k) → Ends F (p >>= λ x. give (f x))
ends_as {A} {B} {E} F {p} f ep to u z r e =
    let s = split p (λ x. give (f x)) u z r e in
    let value : f s.first ≡ z = ap (λ k. k.0) (Ok_is s.then_is) in
    let rest : s.middle ≡ r = ap (λ k. k.1) (Ok_is s.then_is) in
    let one = ep u s.first r (s.first_is ∙ ap (λ k. Ok (s.first, k)) rest) in
    record { init = one.init; last = one.last; is = one.is; plain = one.plain; end = subst (λ k. F k one.last.end) value (to s.first one.last.end one.end) }

pub ends_pass_to : (f : Token → Bool) → Plainly f → Ends (λ w k. w.end ≡ k) (pass_to f)
ends_pass_to f quiet (finished p) x r e = absurd (not_Ok e)
ends_pass_to f quiet (open_quote p) x r e = absurd (not_Ok e)
ends_pass_to f quiet (word_then w u) x r e = go (f w) refl e (ends_pass_to f quiet u x r)
  where
    go : (b : Bool) → f w ≡ b → (if b then Ok (w, u) else pass_to f u) ≡ Ok (x, r) → (pass_to f u ≡ Ok (x, r) → Ended (λ k. x.end ≡ k) u r) → Ended (λ k. x.end ≡ k) (word_then w u) r
    go true i e rec = record { init = []; last = w; is = ap (word_then w) (ap (λ k. k.1) (Ok_is e)); plain = quiet w i; end = sym (ap (λ k. k.0.end) (Ok_is e)) }
    go false i e rec = let one = rec e in record { init = w ∷ one.init; last = one.last; is = ap (word_then w) one.is; plain = one.plain; end = one.end }

pub ends_pass_to_both : (f g : Token → Bool) → Plainly g → Ends (λ w k. w.end ≡ k) (pass_to_both f g)
ends_pass_to_both f g quiet (finished p) x r e = absurd (not_Ok e)
ends_pass_to_both f g quiet (open_quote p) x r e = absurd (not_Ok e)
ends_pass_to_both f g quiet (word_then w u) x r e = go (f w) (begins g u) refl e (ends_pass_to_both f g quiet u x r)
  where
    go : (b c : Bool) → begins g u ≡ c → (if b && c then any u else pass_to_both f g u) ≡ Ok (x, r) → (pass_to_both f g u ≡ Ok (x, r) → Ended (λ k. x.end ≡ k) u r) → Ended (λ k. x.end ≡ k) (word_then w u) r
    go true true i e rec = let is : u ≡ word_then x r = any_is u x r e in record { init = w ∷ []; last = x; is = ap (word_then w) is; plain = quiet x (ap (begins g) (sym is) ∙ i); end = refl }
    go true false i e rec = let one = rec e in record { init = w ∷ one.init; last = one.last; is = ap (word_then w) one.is; plain = one.plain; end = one.end }
    go false c i e rec = let one = rec e in record { init = w ∷ one.init; last = one.last; is = ap (word_then w) one.is; plain = one.plain; end = one.end }
