-- How calls of a disk follow one another.
use Rattle.std.proofs.Common.{inl, inr, ℕ, List, length, Option, refl, sym, subst, arith}
use Rattle.std.proofs.lemmas.Bool.{cases_lt}
use Rattle.std.proofs.lemmas.List.{take_min, take_all}
use Rattle.eco_disk.specs.Disk.{GoesOn, Torn, Cut, Same, Passes, IsKept, During, Has}

pub torn_refl : (at n : ℕ) (c : List ℕ) → Torn at n c c
torn_refl at n c = record { before = take_min at c; after = refl; no_shorter = omega arith; no_longer = omega arith }

pub cut_refl : (n : ℕ) (c : List ℕ) → Cut n c c
cut_refl n c = record { no_shorter = omega arith; front = sym (take_all (length c) c (omega arith)) }

module _ {X Y Z : ℕ → List ℕ → Type 0} {a b c : ℕ} where
  -- a step, and then a call that changes nothing
  pub passes_on : (R : List ℕ → List ℕ → Type 0) → ((x : List ℕ) → R x x) → Passes a b X Y R → Passes b c Y Z Same → Passes a c X Z R
  passes_on R same first second = record {
    later = omega (arith, first.later, second.later);
    stays = λ t x le now. first.stays t x le (second.stays t x (omega (arith, le, first.later)) now);
    keeps = λ t x le was. second.keeps t x (omega (arith, le, first.later)) (first.keeps t x le was);
    each = λ t x lt le now. elim (cases_lt b t) [
      | inr early ↦ first.each t x lt early (second.stays t x early now)
      | inl late ↦
          let from = second.each t x late le now in
          subst (λ y. (d : List ℕ) × X a d × R d y) (sym from.2) (at_b from.0 from.1)
    ];
  }
    where
      at_b : (y : List ℕ) → Y b y → (d : List ℕ) × X a d × R d y
      at_b y now = elim (cases_lt a b) [
        | inl lt ↦ first.each b y lt (omega arith) now
        | inr ge ↦ (y, subst (λ t. X t y) (omega (arith, ge, first.later)) (first.stays b y ge now), same y)
      ]

  pub during_then : {P : List ℕ → Type 0} → During a b X Y P → During b c Y Z P → During a c X Z P
  during_then first second = record {
    later = omega (arith, first.later, second.later);
    stays = λ t x le now. first.stays t x le (second.stays t x (omega (arith, le, first.later)) now);
    keeps = λ t x le was. second.keeps t x (omega (arith, le, first.later)) (first.keeps t x le was);
    each = λ t x from le now. elim (cases_lt b t) [
      | inl late ↦ second.each t x (omega (arith, late)) le now
      | inr early ↦ first.each t x from early (second.stays t x early now)
    ];
  }

module _ {X Y : ℕ → List ℕ → Type 0} {a b : ℕ} where
  pub during_also : {P Q : List ℕ → Type 0} → During a b X Y P → ((x : List ℕ) → P x → Q x) → During a b X Y Q
  during_also during also = record {
    later = during.later;
    stays = during.stays;
    keeps = during.keeps;
    each = λ t x from le now. also x (during.each t x from le now);
  }

  -- a call whose step leads from F to G
  pub moves : {F G : List ℕ → Type 0} {R : List ℕ → List ℕ → Type 0} → ((x : List ℕ) → X a x → F x) → Passes a b X Y R
      → ((x : List ℕ) → F x → G x) → ((d x : List ℕ) → F d → R d x → G x) → During a b X Y G
  moves {F} {G} {R} here passes same step = record {
    later = passes.later;
    stays = passes.stays;
    keeps = passes.keeps;
    each = λ t x from le now. elim (cases_lt a t) [
      | inl lt ↦ let came = passes.each t x lt le now in step came.0 x (here came.0 came.1) came.2
      | inr ge ↦ same x (here x (subst (λ m. X m x) (omega (arith, ge, from)) (passes.stays t x ge now)))
    ];
  }

  -- what the disk has after a call, failed or not
  pub has_after : {F G : List ℕ → Type 0} {R : List ℕ → List ℕ → Type 0} {old new : Option (List ℕ)} → Has old (X a) F → GoesOn old new R → Passes a b X Y R
      → ((x : List ℕ) → F x → G x) → ((d x : List ℕ) → F d → R d x → G x) → Has new (Y b) G
  has_after {F} {G} {R} {old} {new} has goes passes same step =
      let to = subst (λ o. GoesOn o new R) has.told goes in record {
        bytes = to.0;
        told = to.1;
        form = step has.bytes to.0 has.form to.2;
        each = λ x now. (moves has.each passes same step).each b x passes.later (omega arith) now;
      }

-- what it has after a call that was made whole and is kept
pub has_kept : {F G : List ℕ → Type 0} {R : List ℕ → List ℕ → Type 0} {old new : Option (List ℕ)} {before leaves : List ℕ → Type 0} → Has old before F → GoesOn old new R → IsKept new leaves
    → ((d x : List ℕ) → F d → R d x → G x) → Has new leaves G
has_kept {F} {G} {R} {old} {new} {before} {leaves} has goes kept step =
    let to = subst (λ o. GoesOn o new R) has.told goes in
    let only = subst (λ o. IsKept o leaves) to.1 kept in
    let done = step has.bytes to.0 has.form to.2 in record {
      bytes = to.0;
      told = to.1;
      form = done;
      each = λ x now. subst G (sym (only x now)) done;
    }

-- before the first call
pub during_none : {X : ℕ → List ℕ → Type 0} {a : ℕ} {P : List ℕ → Type 0} → ((x : List ℕ) → X a x → P x) → During a a X X P
during_none {X} {a} {P} here = record {
  later = omega arith;
  stays = λ t x le now. now;
  keeps = λ t x le was. was;
  each = λ t x from le now. here x (subst (λ m. X m x) (omega (arith, from, le)) now);
}
