-- Entries and bad records of bytes are those of the layout.
use Rattle.std.proofs.Common.{◌≡◌, ◌≢◌, inl, inr, ℕ, zero, suc, ◌+◌, ◌≤◌, ◌<◌, List, [], ◌∷◌, ◌++◌, length, take, drop, get_or, Some, None, Bool, true, false, refl, sym, ap, subst, ◌∙◌, arith, append_assoc, length-append, length-take, length-drop, take-append-drop, nat_le, ◌==◌, ◌&&◌, if◌then◌else◌}
use Rattle.std.specs.Int.{to_be_bytes, from_be_bytes, w32}
use Rattle.std.specs.List.{flat_map}
use Rattle.std.specs.Option.{option_map}
use Rattle.std.specs.Str.{bytes_eq}
use Rattle.std.proofs.lemmas.List.{drop-drop, get_or-drop, get_or-take, get_or_past, drop_at, drop_more}
use Rattle.std.proofs.lemmas.Nat.{be_bytes_4, from_be_bytes-to_be_bytes_4}
use Rattle.std.proofs.lemmas.Bool.{both_ways, cases_eq, cases_lt, cases_Bool, and_parts, leb-true, eqb-true}
use Rattle.std.proofs.lemmas.Slice.Eq.{bytes_eq-Decides}
use Rattle.eco_journal.specs.Layout.{EntryList, stops, bad, entry_then, IsPayload, ArePayloads, IsHead, longest, magic, entry, front, fits, listed, payloads_of, bad_place, is_fresh, has_header, entries, bad_record}
use Rattle.eco_journal.specs.Reading.{entries_then}
use Rattle.eco_journal.specs.Meaning.{AreBytes, ListsEntries, NoEntry, HasEntries, HasBadRecord, FollowsLayout}
use Rattle.eco_journal.specs.Meaning.HasEntries.{fresh, up_to}
use Rattle.eco_journal.specs.Meaning.HasBadRecord.{no_header, no_entry}
use Rattle.eco_journal.proofs.Entries.{fits_whole, listed_whole, closed_gate}
use Rattle.eco_journal.proofs.Forms.{entries_shut, bad_behind}
use Rattle.eco_journal.proofs.Fresh.{fresh_entries}
use Rattle.eco_journal.proofs.Listing.{payloads_then, none_bad, some_is}
use Rattle.eco_journal.proofs.ReadSteps.{bad_then}

dropped_bytes : (n : ℕ) (bytes : List ℕ) → AreBytes bytes → AreBytes (drop n bytes)
dropped_bytes n bytes are i = subst (λ b. b < 256) (sym (get_or-drop n bytes i 0)) (are (n + i))

taken_bytes : (n : ℕ) (bytes : List ℕ) → AreBytes bytes → AreBytes (take n bytes)
taken_bytes n bytes are i = elim (cases_lt i n) [
  | inl lt ↦ subst (λ b. b < 256) (sym (get_or-take n bytes i 0 lt)) (are i)
  | inr ge ↦ subst (λ b. b < 256) (sym (get_or_past (take n bytes) i 0 (omega (arith, ge, length-take n bytes)))) (omega arith)
]

behind_bytes : (byte : ℕ) (bytes : List ℕ) → AreBytes (byte ∷ bytes) → AreBytes bytes
behind_bytes byte bytes are = dropped_bytes 1 (byte ∷ bytes) are

-- a whole entry, where the length that is read fits
pub record Whole (rest : List ℕ) : Type 0 where
  pub payload : List ℕ
  pub after : List ℕ
  pub is_payload : IsPayload payload
  pub more : 1 ≤ length after
  pub is : rest ≡ to_be_bytes w32 (length payload) ++ payload ++ after

abbrev size_of : List ℕ → ℕ
size_of rest = from_be_bytes w32 (take 4 rest)

whole_of : (rest : List ℕ) → AreBytes rest → fits (size_of rest) rest ≡ true → Whole rest
whole_of rest are fit =
    let n = size_of rest in
    let parts = and_parts (nat_le 1 n && nat_le n longest) (nat_le (n + 5) (length rest)) fit in
    let bounds = and_parts (nat_le 1 n) (nat_le n longest) parts.0 in
    let long : n + 5 ≤ length rest = leb-true (n + 5) (length rest) parts.1 in
    let p = take n (drop 4 rest) in
    let size : length p ≡ n = omega (arith, length-take n (drop 4 rest), length-drop 4 rest, long) in
    let head : to_be_bytes w32 (length p) ≡ take 4 rest = be_bytes_4 (take 4 rest) (length p) (omega (arith, length-take 4 rest, long)) (taken_bytes 4 rest are) size in
    let least : 1 ≤ n = leb-true 1 n bounds.0 in
    let most : n ≤ longest = leb-true n longest bounds.1 in
    record {
      payload = p;
      after = drop n (drop 4 rest);
      is_payload = (omega (arith, size, least), omega (arith, size, most));
      more = omega (arith, long, length-drop n (drop 4 rest), length-drop 4 rest);
      is = sym (take-append-drop 4 rest) ∙ (λ i. sym head i ++ sym (take-append-drop n (drop 4 rest)) i) ∙ sym (append_assoc (to_be_bytes w32 (length p)) p (drop n (drop 4 rest)));
    }

-- a length that doesn't fit: no whole entry
none_whole : (rest : List ℕ) → fits (size_of rest) rest ≡ false → NoEntry rest
none_whole rest not_fit payload gate after one is =
    let bytes = to_be_bytes w32 (length payload) ++ (payload ++ gate ∷ after) in
    let same : rest ≡ bytes = is ∙ append_assoc (to_be_bytes w32 (length payload)) payload (gate ∷ after) in
    let read : size_of bytes ≡ length payload = from_be_bytes-to_be_bytes_4 (length payload) (omega (arith, one.1)) in
    let fit : fits (size_of bytes) bytes ≡ true = ap (λ n. fits n bytes) read ∙ fits_whole payload (gate ∷ after) one (omega arith) in
    both_ways (fits (size_of rest) rest) not_fit (ap (λ (b : List ℕ). fits (size_of b) b) same ∙ fit)

no_fit : (rest : List ℕ) → AreBytes rest → NoEntry rest → fits (size_of rest) rest ≡ false
no_fit rest are none = elim (cases_Bool (fits (size_of rest) rest)) [
  | inl fit ↦ absurd (by_after (whole_of rest are fit))
  | inr not_fit ↦ not_fit
]
  where
    with_gate : (payload after : List ℕ) → IsPayload payload → 1 ≤ length after → rest ≡ to_be_bytes w32 (length payload) ++ payload ++ after → ⊥
    with_gate payload [] one more is = omega (arith, more)
    with_gate payload (gate ∷ after) one more is = none payload gate after one is

    by_after : Whole rest → ⊥
    by_after w = with_gate w.payload w.after w.is_payload w.more w.is

-- how a list of entries ends
pub data Ends : ℕ → List ℕ → EntryList → Type 0 where
  shut : (place gate : ℕ) (rest : List ℕ) → gate ≢ 1 → Ends place (gate ∷ rest) (stops (gate ∷ rest))
  broken : (place : ℕ) (rest : List ℕ) → NoEntry rest → Ends place (1 ∷ rest) (bad place)

pub record Decoded (place : ℕ) (bytes : List ℕ) : Type 0 where
  pub payloads : List (List ℕ)
  pub tail : List ℕ
  pub end : EntryList
  pub are : ArePayloads payloads
  pub is : bytes ≡ flat_map entry payloads ++ tail
  pub listed_is : listed 0 place bytes ≡ entries_then payloads end
  pub ends : Ends (place + length (flat_map entry payloads)) tail end

listed_bad : (place : ℕ) (rest : List ℕ) → fits (size_of rest) rest ≡ false → listed 0 place (1 ∷ rest) ≡ bad place
listed_bad place rest not_fit = ap (λ (b : Bool). if b then entry_then (take (size_of rest) (drop 4 rest)) (listed (size_of rest + 4) (place + 1) rest) else bad place) not_fit

ends_shut : (place gate : ℕ) (rest : List ℕ) → gate ≢ 1 → Decoded place (gate ∷ rest)
ends_shut place gate rest not_open = record {
  payloads = [];
  tail = gate ∷ rest;
  end = stops (gate ∷ rest);
  are = tt;
  is = refl;
  listed_is = closed_gate place gate rest not_open;
  ends = subst (λ p. Ends p (gate ∷ rest) (stops (gate ∷ rest))) (omega arith) (shut place gate rest not_open);
}

ends_broken : (place : ℕ) (rest : List ℕ) → fits (size_of rest) rest ≡ false → Decoded place (1 ∷ rest)
ends_broken place rest not_fit = record {
  payloads = [];
  tail = 1 ∷ rest;
  end = bad place;
  are = tt;
  is = refl;
  listed_is = listed_bad place rest not_fit;
  ends = subst (λ p. Ends p (1 ∷ rest) (bad place)) (omega arith) (broken place rest (none_whole rest not_fit));
}

-- a whole entry in front of what is decoded
one_more : (fuel place : ℕ) (rest : List ℕ) → length rest ≤ fuel → AreBytes rest → ((p : ℕ) (b : List ℕ) → length b ≤ fuel → 1 ≤ length b → AreBytes b → Decoded p b) → Whole rest → Decoded place (1 ∷ rest)
one_more fuel place rest within are on w =
    let size : length rest ≡ 4 + length w.payload + length w.after = ap length w.is ∙ omega (arith, length-append (to_be_bytes w32 (length w.payload) ++ w.payload) w.after, length-append (to_be_bytes w32 (length w.payload)) w.payload) in
    let same : 1 ∷ rest ≡ entry w.payload ++ w.after = ap (λ (l : List ℕ). 1 ∷ l) w.is in
    let after : drop (4 + length w.payload) rest ≡ w.after = ap (λ (l : List ℕ). drop (4 + length w.payload) l) w.is ∙ drop_at (to_be_bytes w32 (length w.payload) ++ w.payload) w.after (4 + length w.payload) (omega (arith, length-append (to_be_bytes w32 (length w.payload)) w.payload)) in
    let is_bytes : AreBytes w.after = subst AreBytes after (dropped_bytes (4 + length w.payload) rest are) in
    let d = on (place + 5 + length w.payload) w.after (omega (arith, within, size)) w.more is_bytes in
    record {
      payloads = w.payload ∷ d.payloads;
      tail = d.tail;
      end = d.end;
      are = (w.is_payload, d.are);
      is = same ∙ ap (λ (l : List ℕ). entry w.payload ++ l) d.is ∙ sym (append_assoc (entry w.payload) (flat_map entry d.payloads) d.tail);
      listed_is = ap (listed 0 place) same ∙ listed_whole place w.payload w.after w.is_payload w.more ∙ ap (entry_then w.payload) d.listed_is;
      ends = subst (λ p. Ends p d.tail d.end) (omega (arith, length-append (entry w.payload) (flat_map entry d.payloads))) d.ends;
    }

pub decode : (fuel place : ℕ) (bytes : List ℕ) → length bytes ≤ fuel → 1 ≤ length bytes → AreBytes bytes → Decoded place bytes
decode fuel place [] within some are = absurd (omega (arith, some))
decode zero place (gate ∷ rest) within some are = absurd (omega (arith, within))
decode (suc fuel) place (gate ∷ rest) within some are = elim (cases_eq gate 1) [
  | inr not_open ↦ ends_shut place gate rest not_open
  | inl is_open ↦ subst (λ g. Decoded place (g ∷ rest)) (sym is_open) (elim (cases_Bool (fits (size_of rest) rest)) [
    | inr not_fit ↦ ends_broken place rest not_fit
    | inl fit ↦ one_more fuel place rest (omega (arith, within)) (behind_bytes gate rest are) (λ p b le some are. decode fuel p b le some are) (whole_of rest (behind_bytes gate rest are) fit)
  ])
]

-- the bytes of an open header, taken apart
abbrev digest_of : List ℕ → List ℕ
digest_of bytes = take 32 (drop 9 bytes)

opened : (bytes : List ℕ) → has_header bytes ≡ true → (length (digest_of bytes) ≡ 32) × (bytes ≡ 1 ∷ (magic ++ digest_of bytes) ++ drop 41 bytes) × (1 ≤ length (drop 41 bytes))
opened bytes has =
    let parts = and_parts (nat_le 42 (length bytes) && (get_or bytes 0 0 == 1)) (bytes_eq (take 8 (drop 1 bytes)) magic) has in
    let first = and_parts (nat_le 42 (length bytes)) (get_or bytes 0 0 == 1) parts.0 in
    let long : 42 ≤ length bytes = leb-true 42 (length bytes) first.0 in
    let gate : get_or bytes 0 0 ≡ 1 = eqb-true (get_or bytes 0 0) 1 first.1 in
    let is_magic : take 8 (drop 1 bytes) ≡ magic = (bytes_eq-Decides (take 8 (drop 1 bytes)) magic).0 parts.1 in
    let split : bytes ≡ get_or bytes 0 0 ∷ drop 1 bytes = drop_more bytes 0 0 (omega (arith, long)) in
    let rest : drop 1 bytes ≡ take 8 (drop 1 bytes) ++ drop 9 bytes = sym (take-append-drop 8 (drop 1 bytes)) ∙ ap (λ (l : List ℕ). take 8 (drop 1 bytes) ++ l) (drop-drop 8 1 bytes) in
    let last : drop 9 bytes ≡ digest_of bytes ++ drop 41 bytes = sym (take-append-drop 32 (drop 9 bytes)) ∙ ap (λ (l : List ℕ). digest_of bytes ++ l) (drop-drop 32 9 bytes) in (
      omega (arith, length-take 32 (drop 9 bytes), length-drop 9 bytes, long),
      split ∙ (λ i. gate i ∷ rest i) ∙ (λ i. 1 ∷ is_magic i ++ last i) ∙ ap (λ (l : List ℕ). 1 ∷ l) (sym (append_assoc magic (digest_of bytes) (drop 41 bytes))),
      omega (arith, length-drop 41 bytes, long),
    )

-- what stands after an open header
module _ (bytes : List ℕ) (are : AreBytes bytes) (has : has_header bytes ≡ true) where
  decoded : Decoded 41 (drop 41 bytes)
  decoded = decode (length (drop 41 bytes)) 41 (drop 41 bytes) (omega arith) (opened bytes has).2 (dropped_bytes 41 bytes are)

  lists : (tail : List ℕ) → decoded.tail ≡ tail → ListsEntries bytes decoded.payloads tail
  lists tail same = record {
    digest = digest_of bytes;
    size = (opened bytes has).0;
    are_payloads = decoded.are;
    is = (opened bytes has).1 ∙ (λ i. 1 ∷ (magic ++ digest_of bytes) ++ decoded.is i) ∙ ap (λ (l : List ℕ). 1 ∷ (magic ++ digest_of bytes) ++ (flat_map entry decoded.payloads ++ l)) same
        ∙ sym (append_assoc (1 ∷ magic ++ digest_of bytes) (flat_map entry decoded.payloads) tail);
  }

some_place : (x y : ℕ) → Some x ≡ Some y → x ≡ y
some_place x y e = cc e

none_read : (payloads : List (List ℕ)) (place : ℕ) → payloads_of (entries_then payloads (bad place)) ≡ None
none_read [] place = refl
none_read (p ∷ payloads) place = ap (option_map (λ ps. p ∷ ps)) (none_read payloads place)

module _ (bytes : List ℕ) where
  fresh_read : (payloads : List (List ℕ)) → is_fresh bytes ≡ true → entries bytes ≡ Some payloads → HasEntries bytes payloads
  fresh_read payloads is read = subst (HasEntries bytes) (some_is [] payloads (sym (fresh_entries bytes is) ∙ read)) (fresh is)

  headless_read : (payloads : List (List ℕ)) → is_fresh bytes ≡ false → has_header bytes ≡ false → entries bytes ≡ Some payloads → HasEntries bytes payloads
  headless_read payloads old none read =
      let same : entries bytes ≡ None = (λ i. if old i then Some [] else if none i then payloads_of (listed 0 41 (drop 41 bytes)) else None) in
      absurd (cc (same, read))

  fresh_not_bad : (place : ℕ) → is_fresh bytes ≡ true → bad_record bytes ≡ Some place → HasBadRecord bytes place
  fresh_not_bad place is read =
      let same : bad_record bytes ≡ None = ap (λ b. if b then None else if has_header bytes then bad_place (listed 0 41 (drop 41 bytes)) else Some 0) is in
      absurd (cc (same, read))

  headless_bad : is_fresh bytes ≡ false → has_header bytes ≡ false → bad_record bytes ≡ Some 0
  headless_bad old none = (λ i. if old i then None else if none i then bad_place (listed 0 41 (drop 41 bytes)) else Some 0)

  module _ (are : AreBytes bytes) (old : is_fresh bytes ≡ false) (has : has_header bytes ≡ true) where
    abbrev d : Decoded 41 (drop 41 bytes)
    d = decoded bytes are has

    by_end : (payloads : List (List ℕ)) (place : ℕ) (tail : List ℕ) (end : EntryList) → d.tail ≡ tail → d.end ≡ end → Ends place tail end → payloads_of (entries_then d.payloads end) ≡ Some payloads → HasEntries bytes payloads
    by_end payloads _ _ _ same is (shut place gate rest not_open) read =
        subst (HasEntries bytes) (some_is d.payloads payloads (sym (payloads_then d.payloads (gate ∷ rest)) ∙ read)) (up_to d.payloads gate rest (lists bytes are has (gate ∷ rest) same) not_open)
    by_end payloads _ _ _ same is (broken place rest none) read = absurd (cc (none_read d.payloads place, read))

    header_read : (payloads : List (List ℕ)) → entries bytes ≡ Some payloads → HasEntries bytes payloads
    header_read payloads read =
        let same : entries bytes ≡ payloads_of (listed 0 41 (drop 41 bytes)) = (λ i. if old i then Some [] else if has i then payloads_of (listed 0 41 (drop 41 bytes)) else None) in
        by_end payloads _ d.tail d.end refl refl d.ends (sym (ap payloads_of d.listed_is) ∙ sym same ∙ read)

    by_bad : (at place : ℕ) (tail : List ℕ) (end : EntryList) → d.tail ≡ tail → at ≡ 41 + length (flat_map entry d.payloads) → Ends at tail end → bad_place (entries_then d.payloads end) ≡ Some place → HasBadRecord bytes place
    by_bad _ place _ _ same is (shut at gate rest not_open) read = absurd (cc (none_bad d.payloads (gate ∷ rest), read))
    by_bad _ place _ _ same is (broken at rest none) read =
        subst (HasBadRecord bytes) (sym is ∙ some_place at place (sym (bad_then d.payloads at) ∙ read)) (no_entry d.payloads rest (lists bytes are has (1 ∷ rest) same) none)

    header_bad : (place : ℕ) → bad_record bytes ≡ Some place → HasBadRecord bytes place
    header_bad place read =
        let same : bad_record bytes ≡ bad_place (listed 0 41 (drop 41 bytes)) = (λ i. if old i then None else if has i then bad_place (listed 0 41 (drop 41 bytes)) else Some 0) in
        by_bad _ place d.tail d.end refl refl d.ends (sym (ap bad_place d.listed_is) ∙ sym same ∙ read)

-- entries in front of any bytes
listed_front : (place : ℕ) (payloads : List (List ℕ)) (ys : List ℕ) → ArePayloads payloads → 1 ≤ length ys → listed 0 place (flat_map entry payloads ++ ys) ≡ entries_then payloads (listed 0 (place + length (flat_map entry payloads)) ys)
listed_front place [] ys are some = ap (λ p. listed 0 p ys) (omega arith)
listed_front place (payload ∷ payloads) ys are some =
    ap (listed 0 place) (append_assoc (entry payload) (flat_map entry payloads) ys)
    ∙ listed_whole place payload (flat_map entry payloads ++ ys) are.0 (omega (arith, some, length-append (flat_map entry payloads) ys))
    ∙ ap (entry_then payload) (listed_front (place + 5 + length payload) payloads ys are.1 some ∙ ap (λ p. entries_then payloads (listed 0 p ys)) (omega (arith, length-append (entry payload) (flat_map entry payloads))))

from_entries : (bytes : List ℕ) (payloads : List (List ℕ)) → HasEntries bytes payloads → entries bytes ≡ Some payloads
from_entries bytes _ (fresh is) = fresh_entries bytes is
from_entries bytes _ (up_to payloads gate rest l not_open) =
    ap entries l.is ∙ entries_shut l.digest (magic ++ l.digest) (record { parts = refl; size = l.size }) payloads gate rest l.are_payloads not_open

from_bad : (bytes : List ℕ) (place : ℕ) → AreBytes bytes → HasBadRecord bytes place → bad_record bytes ≡ Some place
from_bad bytes _ are (no_header old none) = headless_bad bytes old none
from_bad bytes _ are (no_entry payloads rest l none) =
    let head : IsHead l.digest (magic ++ l.digest) = record { parts = refl; size = l.size } in
    let ys = flat_map entry payloads ++ 1 ∷ rest in
    let is_rest : drop (length (front (magic ++ l.digest) payloads) + 1) bytes ≡ rest = (λ i. drop (length (front (magic ++ l.digest) payloads) + 1) (l.is i)) ∙ ap (λ (b : List ℕ). drop (length (front (magic ++ l.digest) payloads) + 1) b) (sym (append_assoc (front (magic ++ l.digest) payloads) (1 ∷ []) rest))
    ∙ drop_at (front (magic ++ l.digest) payloads ++ 1 ∷ []) rest (length (front (magic ++ l.digest) payloads) + 1) (omega (arith, length-append (front (magic ++ l.digest) payloads) (1 ∷ []))) in
    let bytes_rest : AreBytes rest = subst AreBytes is_rest (dropped_bytes (length (front (magic ++ l.digest) payloads) + 1) bytes are) in
    ap bad_record (l.is ∙ append_assoc (1 ∷ magic ++ l.digest) (flat_map entry payloads) (1 ∷ rest))
    ∙ bad_behind l.digest (magic ++ l.digest) head ys (omega (arith, length-append (flat_map entry payloads) (1 ∷ rest)))
    ∙ ap bad_place (listed_front 41 payloads (1 ∷ rest) l.are_payloads (omega arith) ∙ ap (entries_then payloads) (listed_bad (41 + length (flat_map entry payloads)) rest (no_fit rest bytes_rest none)))
    ∙ bad_then payloads (41 + length (flat_map entry payloads))

pub follows_layout : (bytes : List ℕ) → AreBytes bytes → FollowsLayout bytes
follows_layout bytes are = record {
  of_entries = λ payloads. (to_entries payloads, from_entries bytes payloads);
  of_bad_record = λ place. (to_bad place, from_bad bytes place are);
}
  where
    to_entries : (payloads : List (List ℕ)) → entries bytes ≡ Some payloads → HasEntries bytes payloads
    to_entries payloads read = elim (cases_Bool (is_fresh bytes)) [
      | inl new ↦ fresh_read bytes payloads new read
      | inr old ↦ elim (cases_Bool (has_header bytes)) [
        | inl has ↦ header_read bytes are old has payloads read
        | inr none ↦ headless_read bytes payloads old none read
      ]
    ]

    to_bad : (place : ℕ) → bad_record bytes ≡ Some place → HasBadRecord bytes place
    to_bad place read = elim (cases_Bool (is_fresh bytes)) [
      | inl new ↦ fresh_not_bad bytes place new read
      | inr old ↦ elim (cases_Bool (has_header bytes)) [
        | inl has ↦ header_bad bytes are old has place read
        | inr none ↦ subst (HasBadRecord bytes) (some_place 0 place (sym (headless_bad bytes old none) ∙ read)) (no_header old none)
      ]
    ]
