-- What a reader's calls do, by what the calls within them do.
use Rattle.std.proofs.Common.{◌≡◌, ℕ, ◌&&◌, List, Bool, true, false, not, Result, Ok, Err, refl, ap, subst, if◌then◌else◌}
use Rattle.eco_text.specs.Words.{Token, Walk, finished, open_quote, word_then}
use Rattle.eco_text.specs.Parsing.{Parser, Faults, begins, any, choose, next, pass_to, pass_to_both}
use Rattle.eco_text.specs.Reading.{Reading, left, Reads, Gives, Refuses, Unless}

-- ---- faults

-- a reading that fails as another does
pub refuses_as : {F A B : Type 0} (is_memory : F → Bool) (parsed : Result A F) (again : Result B F) (e : F) → ((k : F) → parsed ≡ Err k → again ≡ Err k) → Refuses is_memory parsed e → Refuses is_memory again e
refuses_as {F} {A} {B} is_memory parsed again e same is = go (is_memory e) is
  where
    go : (b : Bool) → Unless b (parsed ≡ Err e) → Unless b (again ≡ Err e)
    go true is = tt
    go false is = same e is

-- the fault of a reading, where the code reports it
pub told : {F A : Type 0} (is_memory : F → Bool) (parsed : Result A F) (fault e : F) → parsed ≡ Err fault → Unless (is_memory e) (fault ≡ e) → Refuses is_memory parsed e
told {F} {A} is_memory parsed fault e is tells = go (is_memory e) tells
  where
    go : (b : Bool) → Unless b (fault ≡ e) → Unless b (parsed ≡ Err e)
    go true tells = tt
    go false tells = subst (λ k. parsed ≡ Err k) tells is

pub refused : {F A : Type 0} (is_memory : F → Bool) (parsed : Result A F) (e : F) → parsed ≡ Err e → Refuses is_memory parsed e
refused {F} {A} is_memory parsed e is = go (is_memory e)
  where
    go : (b : Bool) → Unless b (parsed ≡ Err e)
    go true = tt
    go false = is

-- a reading that is refused at once
pub stays_refused : {F A B : Type 0} (is_memory : F → Bool) (n : ℕ) (view : List ℕ → B → A) (parser : Parser F A) (old : Reading) (e : F) → parser (left old) ≡ Err e → Reads is_memory n view parser old old (Err e)
stays_refused is_memory n view parser old e is = record { text = refl; shorter = tt; order = λ lo hi o. tt; value = refused is_memory (parser (left old)) e is }

-- a reading by one rule is one by another that gives the same here
pub reads_as : {F A B : Type 0} (is_memory : F → Bool) (n : ℕ) (view : List ℕ → B → A) (p q : Parser F A) (old new : Reading) (r : Result B F) → p (left old) ≡ q (left old) → Reads is_memory n view p old new r → Reads is_memory n view q old new r
reads_as is_memory n view p q old new r same reads =
    record { text = reads.text; shorter = reads.shorter; order = reads.order; value = subst (λ k. Gives is_memory (view old.text) k r (left new)) same reads.value }

-- ---- words that are passed over

abbrev pub behind : {F : Type 0} → Result (Token × Walk) F → Walk → Walk
behind (Ok x) v = x.1
behind (Err e) v = v

-- one word more
pub pass_on : {F : Type 0} (faults : Faults F) (p : Token → Bool) (u v : Walk) (w : Token) → true ≡ begins (λ w. not (p w)) u → any faults u ≡ Ok (w, v) → pass_to faults p u ≡ pass_to faults p v
pass_on faults p (finished place) v w on is = cc
pass_on faults p (open_quote place) v w on is = cc
pass_on faults p (word_then t u) v w on is =
    let same : u ≡ v = ap (λ r. behind r v) is in
    let off : p t ≡ false = false_when (p t) on in
    rw off (ap (pass_to faults p) same)
  where
    false_when : (b : Bool) → true ≡ not b → b ≡ false
    false_when true e = cc
    false_when false e = refl

-- the last word
pub pass_ends : {F : Type 0} (faults : Faults F) (p : Token → Bool) (u : Walk) → false ≡ begins (λ w. not (p w)) u → pass_to faults p u ≡ next faults p u
pass_ends faults p (finished place) off = refl
pass_ends faults p (open_quote place) off = refl
pass_ends faults p (word_then t u) off = let on : p t ≡ true = true_when (p t) off in rw on refl
  where
    true_when : (b : Bool) → false ≡ not b → b ≡ true
    true_when true e = refl
    true_when false e = cc

-- the words up to the first test are passed over on the way to both
pub both_from : {F : Type 0} (faults : Faults F) (p q : Token → Bool) (u : Walk) (w : Token) (v : Walk) → pass_to faults p u ≡ Ok (w, v) → pass_to_both faults p q u ≡ choose q (any faults) (pass_to_both faults p q) v
both_from faults p q (finished place) w v is = cc
both_from faults p q (open_quote place) w v is = cc
both_from {F} faults p q (word_then t u) w v is = go (p t) (both_from faults p q u w v) is
  where
    go : (b : Bool) → (pass_to faults p u ≡ Ok (w, v) → pass_to_both faults p q u ≡ choose q (any faults) (pass_to_both faults p q) v) → (if b then Ok (t, u) else pass_to faults p u) ≡ Ok (w, v) →
        (if b && begins q u then any faults u else pass_to_both faults p q u) ≡ choose q (any faults) (pass_to_both faults p q) v
    go true rec is = ap (choose q (any faults) (pass_to_both faults p q)) (ap (λ r. behind r v) is)
    go false rec is = rec is

pub both_fails : {F : Type 0} (faults : Faults F) (p q : Token → Bool) (u : Walk) (e : F) → pass_to faults p u ≡ Err e → pass_to_both faults p q u ≡ Err e
both_fails faults p q (finished place) e is = is
both_fails faults p q (open_quote place) e is = is
both_fails {F} faults p q (word_then t u) e is = go (p t) (both_fails faults p q u e) is
  where
    go : (b : Bool) → (pass_to faults p u ≡ Err e → pass_to_both faults p q u ≡ Err e) → (if b then Ok (t, u) else pass_to faults p u) ≡ Err e → (if b && begins q u then any faults u else pass_to_both faults p q u) ≡ Err e
    go true rec is = cc
    go false rec is = rec is
