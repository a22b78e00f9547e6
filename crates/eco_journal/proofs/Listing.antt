-- A whole journal that has a header, and what reading it finds.
use Rattle.std.proofs.Common.{◌≡◌, ◌≢◌, inl, inr, ℕ, ◌+◌, ◌≤◌, List, [], ◌∷◌, ◌++◌, length, take, drop, get_or, Option, Some, None, Bool, true, false, refl, sym, ap, subst, ◌∙◌, arith, length-append, append_assoc, IsFalse, nat_le, not, ◌==◌, ◌&&◌, ◌||◌, if◌then◌else◌}
use Rattle.std.specs.List.{flat_map}
use Rattle.std.specs.Option.{option_map}
use Rattle.std.proofs.lemmas.List.{append-nil, take_at, drop_at, nil_from_length, get_or_at}
use Rattle.std.proofs.lemmas.Bool.{both_ways, le-leb, cases_eq, ne_eqb}
use Rattle.eco_disk.specs.Disk.{Has, Same, Passes, During}
use Rattle.eco_disk.proofs.Moments.{moves}
use Rattle.eco_journal.specs.Steps.{BadAt, IsNotBase}
use Rattle.eco_journal.specs.Start.{DiffersAt, IsDiskOrMemory, IsUnfinishedIn}
use Rattle.eco_journal.specs.declared.faults.JournalFault.{JournalFault}
use Rattle.eco_journal.specs.declared.faults.JournalFault.TheVariants.{Disk, BaseDiffers, BadRecord, Memory}
use Rattle.eco_journal.specs.declared.standing.Standing.TheVariants.{Settled, Behind, AtGate}
use Rattle.eco_journal.specs.Layout.{stops, entry_then, IsHead, IsWholeJournal, IsTail, IsPayload, ArePayloads, front, behind, is_fresh, has_header, entry, listed, payloads_of, bad_place, entries, bad_record}
use Rattle.eco_journal.specs.Layout.IsTail.{closed, torn_gate}
use Rattle.eco_journal.specs.Layout.IsWholeJournal.{tiny, unopened, headed, listing}
use Rattle.eco_journal.specs.Sound.{Form, IsSound, IsUnfinished}
use Rattle.eco_journal.specs.Reading.{entries_then, listed_in, IsReadAll, standing_at}
use Rattle.eco_journal.proofs.Entries.{head_size, listed_whole, closed_gate}
use Rattle.eco_journal.proofs.Forms.{with_header, entries_behind, bad_behind}
use Rattle.eco_journal.proofs.Unfinished.{opened_stores}
use Rattle.eco_journal.proofs.Fresh.{has_as, tail_long}

pub record IsListing (digest bytes : List ℕ) : Type 0 where
  pub head : List ℕ
  pub payloads : List (List ℕ)
  pub tail : List ℕ
  pub is_head : IsHead digest head
  pub are : ArePayloads payloads
  pub is_tail : IsTail tail
  pub is : bytes ≡ front head payloads ++ tail

or_true : (b : Bool) → (b || true) ≡ true
or_true true = refl
or_true false = refl

fresh_short : (gate : ℕ) (bytes : List ℕ) → length bytes ≤ 42 → gate ≡ get_or bytes 0 0 → gate ≢ 1 → is_fresh bytes ≡ true
fresh_short gate bytes short is shut =
    (λ i. nat_le (length bytes) 1 || (le-leb (length bytes) 42 short i && not (ne_eqb (get_or bytes 0 0) 1 (λ e. shut (is ∙ e)) i))) ∙ or_true (nat_le (length bytes) 1)

pub listing_of : (digest bytes : List ℕ) → IsWholeJournal digest bytes → is_fresh bytes ≡ false → IsListing digest bytes
listing_of digest _ (tiny bytes short) old =
    absurd (both_ways (is_fresh bytes) old (ap (λ b. b || (nat_le (length bytes) 42 && not (get_or bytes 0 0 == 1))) (le-leb (length bytes) 1 short)))
listing_of digest _ (unopened rest short) old =
    absurd (both_ways (is_fresh (0 ∷ rest)) old (fresh_short 0 (0 ∷ rest) (omega (arith, short)) refl (λ e. omega (arith, e))))
listing_of digest _ (headed gate head is_head) old = elim (cases_eq gate 1) [
  | inl is_open ↦ record {
    head = head;
    payloads = [];
    tail = 0 ∷ [];
    is_head = is_head;
    are = tt;
    is_tail = closed [];
    is = ap (λ g. g ∷ head ++ 0 ∷ []) is_open ∙ ap (λ (l : List ℕ). 1 ∷ l ++ 0 ∷ []) (sym (append-nil head));
  }
  | inr shut ↦ absurd (both_ways (is_fresh (gate ∷ head ++ 0 ∷ [])) old (fresh_short gate (gate ∷ head ++ 0 ∷ []) (omega (arith, head_size digest head is_head, length-append head (0 ∷ []))) refl shut))
]
listing_of digest _ (listing head payloads tail is_head are is_tail) old =
    record { head = head; payloads = payloads; tail = tail; is_head = is_head; are = are; is_tail = is_tail; is = refl }

-- a tail begins with a gate that isn't open
tail_stops : (place : ℕ) (tail : List ℕ) → IsTail tail → listed 0 place tail ≡ stops tail
tail_stops place _ (closed rest) = closed_gate place 0 rest (λ e. omega (arith, e))
tail_stops place _ (torn_gate gate payload shut one) = closed_gate place gate (behind payload) shut

listed_list : (place : ℕ) (payloads : List (List ℕ)) (tail : List ℕ) → ArePayloads payloads → IsTail tail → listed 0 place (flat_map entry payloads ++ tail) ≡ entries_then payloads (stops tail)
listed_list place [] tail are is_tail = tail_stops place tail is_tail
listed_list place (payload ∷ payloads) tail are is_tail =
    ap (listed 0 place) (append_assoc (entry payload) (flat_map entry payloads) tail)
    ∙ listed_whole place payload (flat_map entry payloads ++ tail) are.0 (omega (arith, tail_long tail is_tail, length-append (flat_map entry payloads) tail))
    ∙ ap (entry_then payload) (listed_list (place + 5 + length payload) payloads tail are.1 is_tail)

pub payloads_then : (payloads : List (List ℕ)) (tail : List ℕ) → payloads_of (entries_then payloads (stops tail)) ≡ Some payloads
payloads_then [] tail = refl
payloads_then (p ∷ payloads) tail = ap (option_map (λ ps. p ∷ ps)) (payloads_then payloads tail)

pub none_bad : (payloads : List (List ℕ)) (tail : List ℕ) → bad_place (entries_then payloads (stops tail)) ≡ None
none_bad [] tail = refl
none_bad (p ∷ payloads) tail = none_bad payloads tail

pub some_is : (x y : List (List ℕ)) → Some x ≡ Some y → x ≡ y
some_is x y e = cc e

module _ (digest bytes : List ℕ) (l : IsListing digest bytes) where
  size : length (front l.head l.payloads) ≡ 41 + length (flat_map entry l.payloads)
  size = omega (arith, head_size digest l.head l.is_head, length-append l.head (flat_map entry l.payloads))

  abbrev rest : List ℕ
  rest = flat_map entry l.payloads ++ l.tail

  more : 1 ≤ length rest
  more = omega (arith, tail_long l.tail l.is_tail, length-append (flat_map entry l.payloads) l.tail)

  as_head : bytes ≡ 1 ∷ l.head ++ rest
  as_head = l.is ∙ append_assoc (1 ∷ l.head) (flat_map entry l.payloads) l.tail

  pub listed_all_in : listed_in bytes ≡ entries_then l.payloads (stops l.tail)
  listed_all_in = ap listed_in as_head ∙ ap (listed 0 41) (drop_at l.head rest 40 (head_size digest l.head l.is_head)) ∙ listed_list 41 l.payloads l.tail l.are l.is_tail

  pub has_head : has_header bytes ≡ true
  has_head = ap has_header as_head ∙ with_header digest l.head l.is_head rest more

  pub has_digest : take 32 (drop 9 bytes) ≡ digest
  has_digest =
      ap (λ (b : List ℕ). take 32 (drop 9 b)) as_head ∙ ap (λ (h : List ℕ). take 32 (drop 8 (h ++ rest))) l.is_head.parts
      ∙ take_at digest rest 32 l.is_head.size

  pub listing_entries : entries bytes ≡ Some l.payloads
  listing_entries = ap entries as_head ∙ entries_behind digest l.head l.is_head rest more ∙ ap payloads_of (listed_list 41 l.payloads l.tail l.are l.is_tail) ∙ payloads_then l.payloads l.tail

  pub listing_not_bad : bad_record bytes ≡ None
  listing_not_bad = ap bad_record as_head ∙ bad_behind digest l.head l.is_head rest more ∙ ap bad_place (listed_list 41 l.payloads l.tail l.are l.is_tail) ∙ none_bad l.payloads l.tail

  module _ (payloads : List (List ℕ)) (at gate : ℕ) (read : IsReadAll bytes payloads at gate) where
    pub read_are : payloads ≡ l.payloads
    read_are = some_is payloads l.payloads (sym (payloads_then payloads (drop at bytes)) ∙ ap payloads_of (sym read.listed_is ∙ listed_all_in) ∙ payloads_then l.payloads l.tail)

    pub place_is : at ≡ length (front l.head l.payloads)
    place_is = read.at_is ∙ ap (λ ps. 41 + length (flat_map entry ps)) read_are ∙ sym size

    pub gate_tail : drop at bytes ≡ l.tail
    gate_tail = (λ i. drop at (l.is i)) ∙ drop_at (front l.head l.payloads) l.tail at (sym place_is)

    pub gate_value : (g : ℕ) (after : List ℕ) → l.tail ≡ g ∷ after → gate ≡ g
    gate_value g after is = read.gate_is ∙ (λ i. get_or (l.is i) at 0) ∙ ap (λ (t : List ℕ). get_or (front l.head l.payloads ++ t) at 0) is
        ∙ get_or_at (front l.head l.payloads) g after 0 at (sym place_is)

-- a closed gate, and something after it or nothing
closed_form : (start payload rest x : List ℕ) (follows : Bool) → x ≡ start ++ 0 ∷ rest → (follows ≡ false → length rest ≡ 0) → Form (if follows then Behind else Settled) start payload x
closed_form start payload rest x true is none = (rest, is)
closed_form start payload rest x false is none = is ∙ ap (λ (l : List ℕ). start ++ 0 ∷ l) (nil_from_length rest (none refl))

closed_unfinished : (follows : Bool) (payload : List ℕ) → IsUnfinished (if follows then Behind else Settled) payload
closed_unfinished true payload = tt
closed_unfinished false payload = tt

not_at_gate : (follows : Bool) → (if follows then Behind else Settled) ≡ AtGate → ⊥
not_at_gate true e = cc e
not_at_gate false e = cc e

-- what reading finds is a sound journal
module _ (digest bytes : List ℕ) (l : IsListing digest bytes) (payloads : List (List ℕ)) (at gate : ℕ) (read : IsReadAll bytes payloads at gate) {o : Option (List ℕ)} {leaves : List ℕ → Type 0} (has : Has o leaves (λ c. c ≡ bytes)) (follows : Bool)
    (ends : follows ≡ false → length bytes ≤ at + 1) where
  start : List ℕ
  start = front l.head l.payloads

  sound_closed : (rest : List ℕ) → l.tail ≡ 0 ∷ rest → gate ≡ 0 → (last : List ℕ) × IsSound digest payloads last o leaves at (standing_at gate follows) × (standing_at gate follows ≡ AtGate → IsUnfinishedIn digest bytes payloads last)
  sound_closed rest is zero_gate =
      let short : follows ≡ false → length rest ≡ 0 = λ no. omega (arith, ends no, place_is digest bytes l payloads at gate read, ap length l.is, length-append (front l.head l.payloads) l.tail, ap length is) in
      let form : (x : List ℕ) → x ≡ bytes → Form (if follows then Behind else Settled) (front l.head l.payloads) [] x =
      λ x same. closed_form (front l.head l.payloads) [] rest x follows (same ∙ l.is ∙ ap (λ (t : List ℕ). front l.head l.payloads ++ t) is) short in
      let sound : IsSound digest l.payloads [] o leaves at (if follows then Behind else Settled) = record {
        head = l.head;
        is_head = l.is_head;
        are_payloads = l.are;
        gate_is = place_is digest bytes l payloads at gate read;
        has = has_as form has;
        unfinished = closed_unfinished follows [];
      } in
      let standing : standing_at gate follows ≡ (if follows then Behind else Settled) = ap (λ g. standing_at g follows) zero_gate in
      ([], subst (λ s. IsSound digest payloads [] o leaves at s) (sym standing) (subst (λ ps. IsSound digest ps [] o leaves at (if follows then Behind else Settled)) (sym (read_are digest bytes l payloads at gate read)) sound), λ torn. absurd (not_at_gate follows (sym standing ∙ torn)))

  sound_torn : (payload : List ℕ) → l.tail ≡ gate ∷ behind payload → (gate ≡ 0 → ⊥) → IsPayload payload → (last : List ℕ) × IsSound digest payloads last o leaves at (standing_at gate follows) × (standing_at gate follows ≡ AtGate → IsUnfinishedIn digest bytes payloads last)
  sound_torn payload is not_zero one =
      let sound : IsSound digest l.payloads payload o leaves at AtGate = record {
        head = l.head;
        is_head = l.is_head;
        are_payloads = l.are;
        gate_is = place_is digest bytes l payloads at gate read;
        has = has_as (λ x same. (gate, same ∙ l.is ∙ ap (λ (t : List ℕ). front l.head l.payloads ++ t) is)) has;
        unfinished = one;
      } in
      let standing : standing_at gate follows ≡ AtGate = ap (λ b. if b then (if follows then Behind else Settled) else AtGate) (ne_eqb gate 0 not_zero) in
      let unfinished : IsUnfinishedIn digest bytes l.payloads payload = record {
        head = l.head;
        is_head = l.is_head;
        are_payloads = l.are;
        gate = gate;
        not_closed = not_zero;
        not_open = read.shut;
        is = l.is ∙ ap (λ (t : List ℕ). front l.head l.payloads ++ t) is;
        opened = opened_stores digest l.head l.is_head l.payloads payload l.are one;
      } in (
        payload,
        subst (λ s. IsSound digest payloads payload o leaves at s) (sym standing) (subst (λ ps. IsSound digest ps payload o leaves at AtGate) (sym (read_are digest bytes l payloads at gate read)) sound),
        λ torn. subst (λ ps. IsUnfinishedIn digest bytes ps payload) (sym (read_are digest bytes l payloads at gate read)) unfinished,
      )

  by_tail : (tail : List ℕ) → IsTail tail → l.tail ≡ tail → (last : List ℕ) × IsSound digest payloads last o leaves at (standing_at gate follows) × (standing_at gate follows ≡ AtGate → IsUnfinishedIn digest bytes payloads last)
  by_tail _ (closed rest) is = sound_closed rest is (gate_value digest bytes l payloads at gate read 0 rest is)
  by_tail _ (torn_gate g payload shut one) is =
      let same = gate_value digest bytes l payloads at gate read g (behind payload) is in
      elim (cases_eq gate 0) [
        | inl zero_gate ↦ sound_closed (behind payload) (is ∙ ap (λ b. b ∷ behind payload) (sym same ∙ zero_gate)) zero_gate
        | inr not_zero ↦ sound_torn payload (is ∙ ap (λ b. b ∷ behind payload) (sym same)) not_zero one
      ]

  pub found_sound : (last : List ℕ) × IsSound digest payloads last o leaves at (standing_at gate follows) × (standing_at gate follows ≡ AtGate → IsUnfinishedIn digest bytes payloads last)
  found_sound = by_tail l.tail l.is_tail refl

-- what only reads leaves the images as they are
pub read_during : {P : List ℕ → Type 0} {o : Option (List ℕ)} {X Y : ℕ → List ℕ → Type 0} {a b : ℕ} → (bytes : List ℕ) → Has o (X a) (λ c. c ≡ bytes) → P bytes → Passes a b X Y Same → During a b X Y P
read_during {P} bytes has holds passes = moves {F = P} (λ x now. subst P (sym (has.each x now)) holds) passes (λ x p. p) (λ d x p same. subst P (sym same) p)

pub read_has : {o n : Option (List ℕ)} {X Y : ℕ → List ℕ → Type 0} {a b : ℕ} → (bytes : List ℕ) → Has o (X a) (λ c. c ≡ bytes) → n ≡ o → Passes a b X Y Same → Has n (Y b) (λ c. c ≡ bytes)
read_has bytes has same passes = record {
  bytes = has.bytes;
  told = same ∙ has.told;
  form = has.form;
  each = λ x now. (moves {F = λ c. c ≡ bytes} has.each passes (λ x p. p) (λ d x p eq. eq ∙ p)).each _ x passes.later (omega arith) now;
}

pub told_bytes : {o : Option (List ℕ)} {leaves : List ℕ → Type 0} → (bytes : List ℕ) → Has o leaves (λ c. c ≡ bytes) → o ≡ Some bytes
told_bytes bytes has = has.told ∙ ap Some has.form

pub no_head_fault : (digest bytes : List ℕ) → IsListing digest bytes → (e : JournalFault) → BadAt (λ place. (place ≡ 0) × IsFalse (has_header bytes)) e → DiffersAt bytes digest e → IsDiskOrMemory e
no_head_fault digest bytes l Disk bad differs = tt
no_head_fault digest bytes l Memory bad differs = tt
no_head_fault digest bytes l (BadRecord place) bad differs = both_ways (has_header bytes) bad.1 (has_head digest bytes l)
no_head_fault digest bytes l (BaseDiffers kept given) bad differs = differs.3 (differs.1 ∙ has_digest digest bytes l ∙ sym differs.2)

pub no_list_fault : (digest bytes : List ℕ) → IsListing digest bytes → (e : JournalFault) → BadAt (λ place. bad_place (listed_in bytes) ≡ Some place) e → IsNotBase e → IsDiskOrMemory e
no_list_fault digest bytes l Disk bad base = tt
no_list_fault digest bytes l Memory bad base = tt
no_list_fault digest bytes l (BadRecord place) bad base =
    let none : bad_place (listed_in bytes) ≡ None = ap bad_place (listed_all_in digest bytes l) ∙ none_bad l.payloads l.tail in
    cc (none, bad)
no_list_fault digest bytes l (BaseDiffers kept given) bad base = base

pub read_entries_are : (bytes : List ℕ) (payloads : List (List ℕ)) (at gate : ℕ) → is_fresh bytes ≡ false → has_header bytes ≡ true → IsReadAll bytes payloads at gate → entries bytes ≡ Some payloads
read_entries_are bytes payloads at gate old head read =
    (λ i. if old i then Some [] else if head i then payloads_of (listed_in bytes) else None) ∙ ap payloads_of read.listed_is ∙ payloads_then payloads (drop at bytes)
