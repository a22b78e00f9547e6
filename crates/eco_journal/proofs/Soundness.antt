-- How a sound journal goes on, one change of its disk at a time.
use Rattle.std.proofs.Common.{false, ◌≡◌, inl, inr, ℕ, ◌+◌, ◌≤◌, List, [], ◌∷◌, ◌++◌, length, take, drop, Option, Some, None, refl, sym, ap, subst, ◌∙◌, arith, length-append, length-take}
use Rattle.eco_disk.specs.Disk.{GoesOn, IsKept, Passes, During, Has, Torn, Cut, written}
use Rattle.eco_disk.proofs.Moments.{moves, has_after, has_kept, during_also}
use Rattle.eco_journal.specs.Layout.{IsHead, IsPayload, ArePayloads, IsWholeJournal, front, behind}
use Rattle.eco_journal.specs.Unfinished.{StoresOnly, StoresOr}
use Rattle.eco_disk.specs.Disk.{OnTold}
use Rattle.eco_disk.proofs.Told.{told_at}
use Rattle.eco_journal.specs.Journal.{is_unfinished}
use Rattle.eco_journal.specs.Sound.{IsClosed, Form, IsUnfinished, IsSound, Leaves}
use Rattle.eco_journal.specs.declared.standing.Standing.{Standing}
use Rattle.eco_journal.specs.declared.standing.Standing.TheVariants.{Settled, Behind, AtGate}
use Rattle.eco_journal.proofs.Forms.{front-push, payloads-push}
use Rattle.eco_journal.proofs.Unfinished.{once_none}
use Rattle.eco_journal.proofs.Calls.{closed_step, cut_step, cut_end, staged, gate_step, gate_written, settled_closed, closed_stores, torn_stores, gate-push}

-- how long the reported contents are
pub long_torn : (old new : Option (List ℕ)) (at n k : ℕ) → GoesOn old new (Torn at n) → ((b : List ℕ) → old ≡ Some b → k ≤ length b) → (b : List ℕ) → new ≡ Some b → k ≤ length b
long_torn None new at n k goes long b told = absurd (cc (goes, told))
long_torn (Some o) new at n k goes long b told =
    let same : goes.0 ≡ b = some_is goes.0 b (sym goes.1 ∙ told) in
    omega (arith, ap length same, goes.2.no_shorter, long o refl)
  where
    some_is : (x y : List ℕ) → Some x ≡ Some y → x ≡ y
    some_is x y e = cc e

pub long_written : (old new : Option (List ℕ)) (at : ℕ) (piece : List ℕ) → GoesOn old new (λ o x. x ≡ written at piece o) → ((b : List ℕ) → old ≡ Some b → at ≤ length b) → (b : List ℕ) → new ≡ Some b → at + length piece ≤ length b
long_written None new at piece goes long b told = absurd (cc (goes, told))
long_written (Some o) new at piece goes long b told =
    let same : goes.0 ≡ b = some_is goes.0 b (sym goes.1 ∙ told) in
    omega (arith, ap length same, ap length goes.2, long o refl, length-append (take at o ++ piece) (drop (at + length piece) o), length-append (take at o) piece, length-take at o)
  where
    some_is : (x y : List ℕ) → Some x ≡ Some y → x ≡ y
    some_is x y e = cc e

pub long_cut : (old new : Option (List ℕ)) (n k : ℕ) → k ≤ n → GoesOn old new (Cut n) → ((b : List ℕ) → old ≡ Some b → k ≤ length b) → (b : List ℕ) → new ≡ Some b → k ≤ length b
long_cut None new n k le goes long b told = absurd (cc (goes, told))
long_cut (Some o) new n k le goes long b told =
    let same : goes.0 ≡ b = some_is goes.0 b (sym goes.1 ∙ told) in
    omega (arith, ap length same, goes.2.no_shorter, long o refl, le)
  where
    some_is : (x y : List ℕ) → Some x ≡ Some y → x ≡ y
    some_is x y e = cc e

module _ {digest : List ℕ} {payloads : List (List ℕ)} {payload : List ℕ} {gate : ℕ} where
  -- what a crash may leave of a journal on which nothing is done
  pub settled_stores : {old : Option (List ℕ)} {leaves : List ℕ → Type 0} → IsSound digest payloads payload old leaves gate Settled → (c : List ℕ) → leaves c → StoresOnly digest payloads c
  settled_stores s c now = closed_stores digest s.head s.is_head payloads s.are_payloads c (settled_closed (front s.head payloads) c (s.has.each c now))

  pub behind_stores : {old : Option (List ℕ)} {leaves : List ℕ → Type 0} → IsSound digest payloads payload old leaves gate Behind → (c : List ℕ) → leaves c → StoresOnly digest payloads c
  behind_stores s c now = closed_stores digest s.head s.is_head payloads s.are_payloads c (s.has.each c now)

  pub gate_stores : {old : Option (List ℕ)} {leaves : List ℕ → Type 0} → IsSound digest payloads payload old leaves gate AtGate → (c : List ℕ) → leaves c → StoresOr digest payloads payload c
  gate_stores s c now = torn_stores digest s.head s.is_head payloads s.are_payloads payload s.unfinished c (s.has.each c now)

  -- something is written after the closed gate
  pub begun : {old new : Option (List ℕ)} {X Y : ℕ → List ℕ → Type 0} {a b : ℕ} → (last : List ℕ) (n : ℕ) → IsSound digest payloads last old (X a) gate Settled → GoesOn old new (Torn (gate + 1) n) → Passes a b X Y (Torn (gate + 1) n)
      → During a b X Y (StoresOnly digest payloads) × IsSound digest payloads payload new (Y b) gate Behind
  begun last n s goes passes =
      let start = front s.head payloads in
      let step = closed_step start gate s.gate_is n in
      let first : (d x : List ℕ) → d ≡ start ++ 0 ∷ [] → Torn (gate + 1) n d x → IsClosed start x = λ d x e torn. step d x (settled_closed start d e) torn in (
        during_also (moves s.has.each passes (settled_closed start) first) (closed_stores digest s.head s.is_head payloads s.are_payloads),
        record { head = s.head; is_head = s.is_head; are_payloads = s.are_payloads; gate_is = s.gate_is; has = has_after s.has goes passes (settled_closed start) first; unfinished = tt },
      )

  -- the entry stands after the closed gate, and is kept
  pub stood : {old new : Option (List ℕ)} {before leaves : List ℕ → Type 0} → (last piece : List ℕ) → IsPayload payload → piece ≡ behind payload → IsSound digest payloads last old before gate Settled
      → GoesOn old new (λ d x. x ≡ written (gate + 1) piece d) → IsKept new leaves → IsSound digest payloads payload new leaves gate AtGate
  stood last piece one piece_is s goes whole =
      let start = front s.head payloads in record {
        head = s.head;
        is_head = s.is_head;
        are_payloads = s.are_payloads;
        gate_is = s.gate_is;
        has = has_kept s.has goes whole (λ d x was e. (0, staged start gate s.gate_is piece d x was e ∙ ap (λ (l : List ℕ). start ++ 0 ∷ l) piece_is));
        unfinished = one;
      }

  -- something is written at the gate
  pub struck : {old new : Option (List ℕ)} {X Y : ℕ → List ℕ → Type 0} {a b : ℕ} → IsSound digest payloads payload old (X a) gate AtGate → GoesOn old new (Torn gate 1) → Passes a b X Y (Torn gate 1)
      → During a b X Y (StoresOr digest payloads payload) × IsSound digest payloads payload new (Y b) gate AtGate
  struck s goes passes =
      let start = front s.head payloads in
      let step = gate_step start gate s.gate_is payload in (
        during_also (moves s.has.each passes (λ x was. was) step) (torn_stores digest s.head s.is_head payloads s.are_payloads payload s.unfinished),
        record { head = s.head; is_head = s.is_head; are_payloads = s.are_payloads; gate_is = s.gate_is; has = has_after s.has goes passes (λ x was. was) step; unfinished = s.unfinished },
      )

  -- the gate stands open, and is kept
  pub opened : {old new : Option (List ℕ)} {before leaves : List ℕ → Type 0} → (end : ℕ) → end ≡ gate + length (behind payload) → IsSound digest payloads payload old before gate AtGate → GoesOn old new (λ d x. x ≡ written gate (1 ∷ []) d) → IsKept new leaves
      → IsSound digest (payloads ++ payload ∷ []) payload new leaves end Settled
  opened end ends s goes whole = record {
    head = s.head;
    is_head = s.is_head;
    are_payloads = payloads-push digest s.head s.is_head payloads payload s.are_payloads s.unfinished;
    gate_is = ends ∙ omega (arith, s.gate_is, gate-push digest s.head s.is_head payloads payload);
    has = has_kept s.has goes whole (λ d x was e. gate_written (front s.head payloads) gate s.gate_is payload 1 d x was e ∙ front-push digest s.head s.is_head payloads payload);
    unfinished = tt;
  }

  -- the gate stands closed, and is kept
  pub shut : {old new : Option (List ℕ)} {before leaves : List ℕ → Type 0} → IsSound digest payloads payload old before gate AtGate → GoesOn old new (λ d x. x ≡ written gate (0 ∷ []) d) → IsKept new leaves
      → IsSound digest payloads payload new leaves gate Behind
  shut s goes whole = record {
    head = s.head;
    is_head = s.is_head;
    are_payloads = s.are_payloads;
    gate_is = s.gate_is;
    has = has_kept s.has goes whole (λ d x was e. (behind payload, gate_written (front s.head payloads) gate s.gate_is payload 0 d x was e));
    unfinished = tt;
  }

  -- the end is cut
  pub cropped : {old new : Option (List ℕ)} {X Y : ℕ → List ℕ → Type 0} {a b : ℕ} → IsSound digest payloads payload old (X a) gate Behind → GoesOn old new (Cut (gate + 1)) → Passes a b X Y (Cut (gate + 1))
      → During a b X Y (StoresOnly digest payloads) × IsSound digest payloads payload new (Y b) gate Behind
  cropped s goes passes =
      let step = cut_step (front s.head payloads) gate s.gate_is in (
        during_also (moves s.has.each passes (λ x was. was) step) (closed_stores digest s.head s.is_head payloads s.are_payloads),
        record { head = s.head; is_head = s.is_head; are_payloads = s.are_payloads; gate_is = s.gate_is; has = has_after s.has goes passes (λ x was. was) step; unfinished = s.unfinished },
      )

  pub trimmed : {old new : Option (List ℕ)} {before leaves : List ℕ → Type 0} → IsSound digest payloads payload old before gate Behind → GoesOn old new (λ d x. x ≡ take (gate + 1) d) → IsKept new leaves
      → IsSound digest payloads payload new leaves gate Settled
  trimmed s goes whole = record {
    head = s.head;
    is_head = s.is_head;
    are_payloads = s.are_payloads;
    gate_is = s.gate_is;
    has = has_kept s.has goes whole (cut_end (front s.head payloads) gate s.gate_is);
    unfinished = tt;
  }

-- no fault stands
pub settled_of : (standing : Standing) → is_unfinished standing ≡ false → standing ≡ Settled
settled_of Settled is = refl
settled_of Behind is = cc is
settled_of AtGate is = cc is

-- a whole unfinished entry stands after the gate, so the gate isn't the last byte
pub at_gate_follows : {digest : List ℕ} {payloads : List (List ℕ)} {payload : List ℕ} {o : Option (List ℕ)} {leaves : List ℕ → Type 0} {gate : ℕ} → IsSound digest payloads payload o leaves gate AtGate → OnTold o (λ bytes. length bytes ≤ gate + 1) → ⊥
at_gate_follows {payloads = payloads} {payload = payload} {o = o} {gate = gate} s ends =
    let short = told_at o (λ bytes. length bytes ≤ gate + 1) s.has.bytes s.has.told ends in
    omega (arith, short, s.gate_is, ap length s.has.form.1, length-append (front s.head payloads) (s.has.form.0 ∷ behind payload), s.unfinished.0, length-append payload (0 ∷ []))

-- the same, by a journal's standing
pub leaves_as : {X Y : ℕ → List ℕ → Type 0} {a b : ℕ} → (digest : List ℕ) (payloads : List (List ℕ)) (payload : List ℕ) (s v : Standing) → s ≡ v → During a b X Y (Leaves v digest payloads payload) → During a b X Y (Leaves s digest payloads payload)
leaves_as {X} {Y} {a} {b} digest payloads payload s v is during = subst (λ u. During a b X Y (Leaves u digest payloads payload)) (sym is) during

-- what a crash may leave between two calls
pub sound_leaves : {digest : List ℕ} {payloads : List (List ℕ)} {payload : List ℕ} {o : Option (List ℕ)} {leaves : List ℕ → Type 0} {gate : ℕ} → (standing : Standing) → IsSound digest payloads payload o leaves gate standing
    → (c : List ℕ) → leaves c → Leaves standing digest payloads payload c
sound_leaves Settled s = settled_stores s
sound_leaves Behind s = behind_stores s
sound_leaves AtGate s = gate_stores s

pub or_only : (digest : List ℕ) (payloads : List (List ℕ)) (payload c : List ℕ) → StoresOnly digest payloads c → StoresOr digest payloads payload c
or_only digest payloads payload c only = record { stores = inl only.stores; unfinished = once_none only.none }

pub leaves_or : (digest : List ℕ) (payloads : List (List ℕ)) (payload : List ℕ) (standing : Standing) (c : List ℕ) → Leaves standing digest payloads payload c → StoresOr digest payloads payload c
leaves_or digest payloads payload Settled c now = or_only digest payloads payload c now
leaves_or digest payloads payload Behind c now = or_only digest payloads payload c now
leaves_or digest payloads payload AtGate c now = now

-- the disk of a sound journal is whole
form_whole : {digest head : List ℕ} → IsHead digest head → (payloads : List (List ℕ)) → ArePayloads payloads → (payload : List ℕ) (standing : Standing) → IsUnfinished standing payload → (x : List ℕ) → Form standing (front head payloads) payload x → IsWholeJournal digest x
form_whole {digest} {head} is payloads are payload Settled one x form = (closed_stores digest head is payloads are x (settled_closed (front head payloads) x form)).stores.whole
form_whole {digest} {head} is payloads are payload Behind one x form = (closed_stores digest head is payloads are x form).stores.whole
form_whole {digest} {head} is payloads are payload AtGate one x form = elim (torn_stores digest head is payloads are payload one x form).stores [
  | inl without ↦ without.whole
  | inr with_it ↦ with_it.whole
]

pub sound_whole : {digest : List ℕ} {payloads : List (List ℕ)} {payload : List ℕ} {o : Option (List ℕ)} {leaves : List ℕ → Type 0} {gate : ℕ} → (standing : Standing) → IsSound digest payloads payload o leaves gate standing
    → Has o leaves (IsWholeJournal digest)
sound_whole {payloads = payloads} {payload = payload} standing s = record {
  bytes = s.has.bytes;
  told = s.has.told;
  form = form_whole s.is_head payloads s.are_payloads payload standing s.unfinished s.has.bytes s.has.form;
  each = λ c now. form_whole s.is_head payloads s.are_payloads payload standing s.unfinished c (s.has.each c now);
}
