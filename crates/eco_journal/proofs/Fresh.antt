-- A disk without a header, and the header that it gets.
use Rattle.std.proofs.Common.{◌≡◌, inl, inr, ℕ, ◌≤◌, List, [], ◌∷◌, ◌++◌, length, drop, Option, Some, None, Bool, true, false, refl, sym, ap, subst, ◌∙◌, arith, length-append, append_assoc, Result, Ok, Err, OnOk, length-drop, nat_le, not, ◌==◌, ◌&&◌, if◌then◌else◌}
use Rattle.std.proofs.lemmas.List.{append-nil}
use Rattle.std.specs.List.{flat_map}
use Rattle.std.proofs.lemmas.Bool.{both_ways, or_cases, and_parts, leb-true}
use Rattle.eco_disk.specs.Disk.{Torn, written, Passes, During, Has, GoesOn, IsKept}
use Rattle.eco_disk.proofs.Moments.{moves, has_kept, during_also}
use Rattle.eco_journal.specs.Layout.{IsHead, IsWholeJournal, IsTail, front, is_fresh, has_header, entries, payloads_of, listed, entry}
use Rattle.eco_journal.specs.Sound.{IsSound}
use Rattle.eco_journal.specs.declared.standing.Standing.TheVariants.{Settled}
use Rattle.eco_journal.specs.Layout.IsTail.{closed, torn_gate}
use Rattle.eco_journal.specs.Layout.IsWholeJournal.{tiny, unopened, headed, listing}
use Rattle.eco_journal.specs.Start.{IsUnopened, IsBeginning, StoresAs}
use Rattle.eco_journal.specs.Unfinished.{StoresOnly}
use Rattle.eco_journal.specs.declared.header.Beginning.TheVariants.{Fresh}
use Rattle.eco_journal.proofs.Entries.{head_size}
use Rattle.eco_journal.proofs.Forms.{not_fresh}
use Rattle.eco_journal.proofs.Unfinished.{tiny_only, unopened_only, headed_only, whole_as}
use Rattle.eco_journal.proofs.Steps.{torn_behind, written_behind, written_gate}
use Rattle.eco_journal.proofs.Steps as steps

-- a header after some gate, and no more
abbrev pub IsHeaded : List ℕ → List ℕ → Type 0
IsHeaded head bytes = (gate : ℕ) × (bytes ≡ gate ∷ head ++ 0 ∷ [])

pub unopened_stores : (digest x : List ℕ) → IsUnopened x → StoresOnly digest [] x
unopened_stores digest x was = subst (StoresOnly digest []) (sym was.1) (unopened_only digest was.0 was.2)

pub headed_stores : (digest head : List ℕ) → IsHead digest head → (x : List ℕ) → IsHeaded head x → StoresOnly digest [] x
headed_stores digest head is x was = subst (StoresOnly digest []) (sym was.1) (headed_only digest head is was.0)

pub unopened_step : (d x : List ℕ) → IsUnopened d → Torn 1 41 d x → IsUnopened x
unopened_step d x was torn =
    let came = torn_behind [] 0 41 was.0 x (subst (λ b. Torn 1 41 b x) was.1 torn) in
    (came.0, came.1, omega (arith, came.2, was.2))

pub unopened_written : (head header d x : List ℕ) → header ≡ head ++ 0 ∷ [] → length header ≡ 41 → IsUnopened d → x ≡ written 1 header d → IsHeaded head x
unopened_written head header d x is size was done =
    (0, done ∙ ap (written 1 header) was.1 ∙ written_behind [] 0 was.0 header (omega (arith, size, was.2)) ∙ ap (λ (l : List ℕ). 0 ∷ l) is)

pub headed_step : (head d x : List ℕ) → IsHeaded head d → Torn 0 1 d x → IsHeaded head x
headed_step head d x was torn = steps.torn_gate [] was.0 (head ++ 0 ∷ []) x (subst (λ b. Torn 0 1 b x) was.1 torn)

pub headed_written : (head d x : List ℕ) → IsHeaded head d → x ≡ written 0 (1 ∷ []) d → x ≡ front head [] ++ 0 ∷ []
headed_written head d x was done =
    done ∙ ap (written 0 (1 ∷ [])) was.1 ∙ written_gate [] was.0 1 (head ++ 0 ∷ []) ∙ ap (λ (l : List ℕ). 1 ∷ l ++ 0 ∷ []) (sym (append-nil head))

module _ {X Y : ℕ → List ℕ → Type 0} {a b : ℕ} where
  pub laid_behind : (digest : List ℕ) {old : Option (List ℕ)} → Has old (X a) IsUnopened → Passes a b X Y (Torn 1 41) → During a b X Y (StoresOnly digest [])
  laid_behind digest has passes = during_also (moves has.each passes (λ x was. was) unopened_step) (unopened_stores digest)

  pub laid_gate : {digest head : List ℕ} {old : Option (List ℕ)} → IsHead digest head → Has old (X a) (IsHeaded head) → Passes a b X Y (Torn 0 1) → During a b X Y (StoresOnly digest [])
  laid_gate {digest} {head} is has passes = during_also (moves has.each passes (λ x was. was) (headed_step head)) (headed_stores digest head is)

  -- gate 0 is closed over bytes of some form
  pub closed_over : {digest : List ℕ} {old : Option (List ℕ)} {T E : Type 0} → (new : Option (List ℕ)) (r : Result T E) → (G : List ℕ → Type 0) → ((d x : List ℕ) → G d → Torn 0 1 d x → G x) → ((x : List ℕ) → G x → StoresOnly digest [] x) → ((x : List ℕ) → G x → length x ≤ 42)
      → Has old (X a) G → Passes a b X Y (Torn 0 1) → OnOk r (GoesOn old new (λ d x. x ≡ written 0 (0 ∷ []) d)) → OnOk r (IsKept new (Y b))
      → During a b X Y (StoresOnly digest []) × OnOk r (Has new (Y b) IsUnopened)
  closed_over new (Ok v) G step stores short has passes goes kept = (
    during_also (moves has.each passes (λ x was. was) step) stores,
    has_kept has goes kept (λ d x was done. (drop 1 d, done, omega (arith, short d was, length-drop 1 d))),
  )
  closed_over new (Err e) G step stores short has passes goes kept = (during_also (moves has.each passes (λ x was. was) step) stores, tt)

pub has_as : {F G : List ℕ → Type 0} {o : Option (List ℕ)} {leaves : List ℕ → Type 0} → ((x : List ℕ) → F x → G x) → Has o leaves F → Has o leaves G
has_as also has = record { bytes = has.bytes; told = has.told; form = also has.bytes has.form; each = λ x now. also x (has.each x now) }

pub unopened_since : (bytes : List ℕ) → IsBeginning bytes (Fresh true) → IsUnopened bytes
unopened_since [] is = absurd (omega (arith, is.1))
unopened_since (b ∷ rest) is =
    let short : length rest ≤ 41 = elim (or_cases (nat_le (length (b ∷ rest)) 1) (nat_le (length (b ∷ rest)) 42 && not (b == 1)) is.0) [
      | inl one ↦ omega (arith, leb-true (length (b ∷ rest)) 1 one)
      | inr more ↦ omega (arith, leb-true (length (b ∷ rest)) 42 (and_parts (nat_le (length (b ∷ rest)) 42) (not (b == 1)) more).0)
    ] in
    (rest, ap (λ g. g ∷ rest) is.2, short)

pub still_unopened : (bytes : List ℕ) {o : Option (List ℕ)} {leaves : List ℕ → Type 0} → IsBeginning bytes (Fresh true) → Has o leaves (λ c. c ≡ bytes) → Has o leaves IsUnopened
still_unopened bytes is has = has_as (λ x same. subst IsUnopened (sym same) (unopened_since bytes is)) has

pub tail_long : (tail : List ℕ) → IsTail tail → 1 ≤ length tail
tail_long tail (closed rest) = omega arith
tail_long tail (torn_gate gate payload shut one) = omega arith

module _ {X Y : ℕ → List ℕ → Type 0} {a b : ℕ} where
  pub closed_fresh : {digest : List ℕ} {old : Option (List ℕ)} {T E : Type 0} → (new : Option (List ℕ)) (r : Result T E) (bytes : List ℕ) → IsWholeJournal digest bytes → IsBeginning bytes (Fresh false) → Has old (X a) (λ c. c ≡ bytes) → Passes a b X Y (Torn 0 1)
      → OnOk r (GoesOn old new (λ d x. x ≡ written 0 (0 ∷ []) d)) → OnOk r (IsKept new (Y b)) → During a b X Y (StoresOnly digest []) × OnOk r (Has new (Y b) IsUnopened)
  closed_fresh {digest} new r _ (tiny bytes short) is has passes goes kept =
      closed_over new r (λ x. length x ≤ 1) (λ d x was torn. omega (arith, was, torn.no_longer)) (tiny_only digest) (λ x was. omega (arith, was)) (has_as (λ x same. omega (arith, ap length same, short)) has) passes goes kept
  closed_fresh {digest} new r _ (unopened rest short) is has passes goes kept = elim is.1 [
    | inl one ↦ closed_over new r (λ x. length x ≤ 1) (λ d x was torn. omega (arith, was, torn.no_longer)) (tiny_only digest) (λ x was. omega (arith, was)) (has_as (λ x same. omega (arith, ap length same, one)) has) passes goes kept
    | inr not_shut ↦ absurd (not_shut refl)
  ]
  closed_fresh {digest} new r _ (headed gate head is_head) is has passes goes kept =
      closed_over new r (IsHeaded head) (headed_step head) (headed_stores digest head is_head) (λ x was. omega (arith, ap length was.1, head_size digest head is_head, length-append head (0 ∷ []))) (has_as (λ x same. (gate, same)) has) passes goes kept
  closed_fresh {digest} new r _ (listing head payloads tail is_head are is_tail) is has passes goes kept =
      let rest = flat_map entry payloads ++ tail in
      let more : 1 ≤ length rest = omega (arith, tail_long tail is_tail, length-append (flat_map entry payloads) tail) in
      let same : front head payloads ++ tail ≡ 1 ∷ head ++ rest = append_assoc (1 ∷ head) (flat_map entry payloads) tail in
      absurd (both_ways _ (ap is_fresh same ∙ not_fresh digest head is_head rest more) is.0)

pub laid_open : {old : Option (List ℕ)} {before : List ℕ → Type 0} {T E : Type 0} → (head : List ℕ) (new : Option (List ℕ)) (leaves : List ℕ → Type 0) (r : Result T E) → Has old before (IsHeaded head) → OnOk r (GoesOn old new (λ d x. x ≡ written 0 (1 ∷ []) d)) → OnOk r (IsKept new leaves)
    → OnOk r (Has new leaves (λ c. c ≡ front head [] ++ 0 ∷ []))
laid_open head new leaves (Ok v) has goes kept = has_kept has goes kept (headed_written head)
laid_open head new leaves (Err e) has goes kept = tt

pub begins_fresh : (bytes : List ℕ) (shut : Bool) → IsBeginning bytes (Fresh shut) → is_fresh bytes ≡ true
begins_fresh bytes true is = is.0
begins_fresh bytes false is = is.0

pub fresh_entries : (bytes : List ℕ) → is_fresh bytes ≡ true → entries bytes ≡ Some []
fresh_entries bytes fresh = ap (λ b. if b then Some [] else if has_header bytes then payloads_of (listed 0 41 (drop 41 bytes)) else None) fresh

pub fresh_as : (digest bytes : List ℕ) → IsWholeJournal digest bytes → is_fresh bytes ≡ true → StoresAs digest bytes [] bytes
fresh_as digest bytes whole fresh = whole_as digest bytes [] whole (fresh_entries bytes fresh)

pub made_sound : {o : Option (List ℕ)} {leaves : List ℕ → Type 0} → (digest head : List ℕ) → IsHead digest head → Has o leaves (λ c. c ≡ front head [] ++ 0 ∷ []) → IsSound digest [] [] o leaves 41 Settled
made_sound digest head is has = record {
  head = head;
  is_head = is;
  are_payloads = tt;
  gate_is = omega (arith, head_size digest head is, length-append head []);
  has = has;
  unfinished = tt;
}
