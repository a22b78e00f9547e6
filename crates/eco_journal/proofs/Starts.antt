-- A start: its first sync, what is found after it, and the mend.
use Rattle.std.proofs.Common.{◌≡◌, inl, inr, ℕ, ◌+◌, List, Option, Some, refl, sym, ◌∙◌, subst, arith}
use Rattle.std.proofs.lemmas.Bool.{cases_lt}
use Rattle.eco_disk.specs.Disk.{Has, Same, Passes, During, IsKept}
use Rattle.eco_disk.proofs.Moments.{moves, during_then, during_also}
use Rattle.eco_journal.specs.Layout.{IsWholeJournal}
use Rattle.eco_journal.specs.Unfinished.{StoresOnly}
use Rattle.eco_journal.specs.Start.{StartKeeps, OneMore, IsUnfinishedIn, StoresAs}
use Rattle.eco_journal.specs.Sound.{Leaves}
use Rattle.eco_journal.proofs.Unfinished.{once_also, once_none}
use Rattle.eco_journal.specs.declared.standing.Standing.{Standing}
use Rattle.eco_journal.specs.declared.standing.Standing.TheVariants.{Settled, Behind, AtGate}

-- the first sync failed
pub not_synced : {P : Type 0} {o : Option (List ℕ)} {X Y : ℕ → List ℕ → Type 0} {a b : ℕ} → (digest bytes : List ℕ) (payloads : List (List ℕ)) → (P → ⊥) → Has o (X a) (IsWholeJournal digest) → Passes a b X Y Same → StartKeeps P digest bytes payloads a b X Y
not_synced {P} {o} {X} {Y} {a} {b} digest bytes payloads never has passes = record {
  any_moment = moves has.each passes (λ x w. w) (λ d x w same. subst (IsWholeJournal digest) (sym same) w);
  first = b + 1;
  reached = λ p. absurd (never p);
  until = λ t c from le lt now. (moves {F = X a} (λ x w. w) passes (λ x w. w) (λ d x w same. subst (X a) (sym same) w)).each t c from le now;
  since = λ t c from le now. absurd (omega (arith, from, le));
}

pub kept_only : {n : Option (List ℕ)} {leaves : List ℕ → Type 0} → (bytes : List ℕ) → n ≡ Some bytes → IsKept n leaves → Has n leaves (λ c. c ≡ bytes)
kept_only {n} {leaves} bytes told kept = record { bytes = bytes; told = told; form = refl; each = subst (λ o. IsKept o leaves) told kept }

as_more : (digest bytes : List ℕ) (payloads : List (List ℕ)) (x : List ℕ) → StoresAs digest bytes payloads x → OneMore digest bytes payloads x
as_more digest bytes payloads x s = record { stores = inl s.stores; unfinished = s.unfinished }

-- it succeeded, and then the entries stood
pub synced : {o : Option (List ℕ)} {X Y Z : ℕ → List ℕ → Type 0} {a b c : ℕ} → (P : Type 0) (digest bytes : List ℕ) (payloads : List (List ℕ)) → Has o (X a) (IsWholeJournal digest) → Passes a b X Y Same → During b c Y Z (StoresAs digest bytes payloads) → StartKeeps P digest bytes payloads a c X Z
synced {o} {X} {Y} {Z} {a} {b} {c} P digest bytes payloads has passes during =
    let sync = moves {F = X a} (λ x w. w) passes (λ x w. w) (λ d x w same. subst (X a) (sym same) w) in record {
      any_moment = during_then (moves has.each passes (λ x w. w) (λ d x w same. subst (IsWholeJournal digest) (sym same) w)) (during_also during (λ x s. s.stores.whole));
      first = b;
      reached = λ p. during.later;
      until = λ t x from le lt now. sync.each t x from (omega (arith, lt)) (during.stays t x (omega (arith, lt)) now);
      since = λ t x from le now. as_more digest bytes payloads x (during.each t x from le now);
    }

leaves_whole : (digest : List ℕ) (payloads : List (List ℕ)) (last x : List ℕ) (standing : Standing) → Leaves standing digest payloads last x → IsWholeJournal digest x
leaves_whole digest payloads last x Settled s = s.stores.whole
leaves_whole digest payloads last x Behind s = s.stores.whole
leaves_whole digest payloads last x AtGate s = elim s.stores [
  | inl one ↦ one.whole
  | inr two ↦ two.whole
]

only_more : (digest bytes : List ℕ) (payloads : List (List ℕ)) (x : List ℕ) → StoresOnly digest payloads x → OneMore digest bytes payloads x
only_more digest bytes payloads x s = record { stores = inl s.stores; unfinished = once_none s.none }

leaves_more : (digest bytes : List ℕ) (payloads : List (List ℕ)) (last x : List ℕ) (standing : Standing) → (standing ≡ AtGate → IsUnfinishedIn digest bytes payloads last) → Leaves standing digest payloads last x → OneMore digest bytes payloads x
leaves_more digest bytes payloads last x Settled unfinished s = only_more digest bytes payloads x s
leaves_more digest bytes payloads last x Behind unfinished s = only_more digest bytes payloads x s
leaves_more digest bytes payloads last x AtGate unfinished s = record {
  stores = elim s.stores [
    | inl one ↦ inl one
    | inr two ↦ inr (last, unfinished refl, two)
  ];
  unfinished = once_also s.unfinished (λ opened now. (last, unfinished refl, now));
}

-- the mend after it
pub begins_on : {P : Type 0} {X Y Z : ℕ → List ℕ → Type 0} {a b c : ℕ} → (Q : Type 0) (digest bytes : List ℕ) (payloads : List (List ℕ)) (last : List ℕ) (standing : Standing) → (standing ≡ AtGate → IsUnfinishedIn digest bytes payloads last) → P → StartKeeps P digest bytes payloads a b X Y → During b c Y Z (Leaves standing digest payloads last) → StartKeeps Q digest bytes payloads a c X Z
begins_on {b = b} Q digest bytes payloads last standing unfinished p begins during =
    let kept = begins.reached p in record {
      any_moment = during_then begins.any_moment (during_also during (λ x s. leaves_whole digest payloads last x standing s));
      first = begins.first;
      reached = λ q. omega (arith, kept, during.later);
      until = λ t x from le lt now. begins.until t x from (omega (arith, lt, kept)) lt (during.stays t x (omega (arith, lt, kept)) now);
      since = λ t x from le now. elim (cases_lt b t) [
        | inl late ↦ leaves_more digest bytes payloads last x standing unfinished (during.each t x (omega (arith, late)) le now)
        | inr early ↦ begins.since t x from early (during.stays t x early now)
      ];
    }

pub whole_now : {o : Option (List ℕ)} {leaves : List ℕ → Type 0} → (digest bytes : List ℕ) → o ≡ Some bytes → Has o leaves (IsWholeJournal digest) → IsWholeJournal digest bytes
whole_now digest bytes told has = subst (IsWholeJournal digest) (same_bytes has.bytes bytes (sym has.told ∙ told)) has.form
  where
    same_bytes : (x y : List ℕ) → Some x ≡ Some y → x ≡ y
    same_bytes x y e = cc e
