-- A reading goes on through the text: what it reads lies between the words before it and those that it leaves.
use Rattle.std.proofs.Common.{◌≡◌, ℕ, ◌<◌, ◌≤◌, Bool, List, [], ◌∷◌, Ok, ap, subst, arith}
use Rattle.eco_text.specs.Words.{Token, Walk, word_then, ◌+++◌}
use Rattle.eco_def.specs.Parsing.{Parser, ◌>>=◌, give, refuse, any, choose, next}
use Rattle.eco_def.specs.Reading.{IsInOrder}
use Rattle.eco_issued_laws.proofs.Faults.{Fault}
use Rattle.eco_issued_laws.proofs.Keeping.{Keeps, SameNext, Ok_is, split}
use Rattle.eco_issued_laws.proofs.Ending.{chosen, refused, any_is, next_is}

-- where a reading has come to, with words of the text after it
pub record Reached {A : Type 0} (lo : ℕ) (E : A → ℕ → Type 0) (hi : ℕ) (x : A) (r : Walk) : Type 0 where
  pub place : ℕ
  pub later : lo ≤ place
  pub lies : E x place
  pub order : IsInOrder place hi r

-- From words that stand in order after lo, each value that is read has E with a place before the words that are left.
abbrev pub Advances : {A : Type 0} → ℕ → (A → ℕ → Type 0) → Parser A → Type 0
Advances {A} lo E p = (hi : ℕ) (u : Walk) (x : A) (r : Walk) → IsInOrder lo hi u → p u ≡ Ok (x, r) → Reached lo E hi x r

-- a word lies so
abbrev pub LiesFrom : ℕ → Token → ℕ → Type 0
LiesFrom lo w place = (lo ≤ w.start) × (w.start < w.end) × (w.end ≡ place)

pub advances_any : (lo : ℕ) → Advances lo (LiesFrom lo) any
advances_any lo hi u x r order e =
    let here : IsInOrder lo hi (word_then x r) = subst (λ k. IsInOrder lo hi k) (any_is u x r e) order in
    record { place = x.end; later = omega (arith, here.0, here.1); lies = (here.0, here.1, omega arith); order = here.2 }

pub advances_next : (lo : ℕ) (f : Token → Bool) → Advances lo (LiesFrom lo) (next f)
advances_next lo f hi u x r order e =
    let here : IsInOrder lo hi (word_then x r) = subst (λ k. IsInOrder lo hi k) (next_is f u x r e).is order in
    record { place = x.end; later = omega (arith, here.0, here.1); lies = (here.0, here.1, omega arith); order = here.2 }

pub advances_give : {A : Type 0} (lo : ℕ) (E : A → ℕ → Type 0) {x : A} → E x lo → Advances lo E (give x)
advances_give lo E lies hi u z r order e = record {
  place = lo;
  later = omega arith;
  lies = subst (λ k. E k lo) (ap (λ k. k.0) (Ok_is e)) lies;
  order = subst (λ k. IsInOrder lo hi k) (ap (λ k. k.1) (Ok_is e)) order;
}

pub advances_refuse : {A : Type 0} (lo : ℕ) (E : A → ℕ → Type 0) (fault : ℕ → Fault) → Advances lo E (refuse fault)
advances_refuse lo E fault hi u x r order e = absurd (refused fault u x r e)

pub advances_choose : {A : Type 0} (lo : ℕ) (E : A → ℕ → Type 0) (f : Token → Bool) {p q : Parser A} → Advances lo E p → Advances lo E q → Advances lo E (choose f p q)
advances_choose lo E f {p} {q} yes' no' hi u x r order e = chosen f p q u x r e (Reached lo E hi x r) (λ i. yes' hi u x r order) (λ i. no' hi u x r order)

pub advances_then : {A B : Type 0} (lo : ℕ) (E : A → ℕ → Type 0) (F : B → ℕ → Type 0) {p : Parser A} {f : A → Parser B} → Advances lo E p → ((x : A) (place : ℕ) → lo ≤ place → E x place → Advances place F (f x)) → Advances lo F (p >>= f)
advances_then lo E F {p} {f} first second hi u z r order e =
    let s = split p f u z r e in
    let one = first hi u s.first s.middle order s.first_is in
    let two = second s.first one.place one.later one.lies hi s.middle z r one.order s.then_is in
    record { place = two.place; later = omega (arith, one.later, two.later); lies = two.lies; order = two.order }

behind_front : (fs : List Token) (lo hi : ℕ) (r : Walk) → IsInOrder lo hi (fs +++ r) → (place : ℕ) × (lo ≤ place) × IsInOrder place hi r
behind_front [] lo hi r order = (lo, omega arith, order)
behind_front (t ∷ fs) lo hi r order = let rest = behind_front fs t.end hi r order.2 in (rest.0, omega (arith, order.0, order.1, rest.1), rest.2)

-- a reading of which only the place counts
abbrev pub Anywhere : {A : Type 0} → A → ℕ → Type 0
Anywhere x place = Unit {0}

pub advances_keeps : {A B : Type 0} {n : ℕ} {V : A → B → Type 0} (lo : ℕ) {p : Parser A} {q : Parser B} → Keeps n V SameNext p q → Advances lo Anywhere p
advances_keeps lo keeps hi u x r order e =
    let one = keeps u x r e in
    let rest = behind_front one.front lo hi r (subst (λ k. IsInOrder lo hi k) one.is order) in
    record { place = rest.0; later = rest.1; lies = tt; order = rest.2 }
