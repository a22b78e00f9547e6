-- One step of reading the entries.
use Rattle.std.proofs.Common.{◌≡◌, ◌≢◌, ℕ, ◌+◌, ◌≤◌, ◌<◌, List, [], ◌∷◌, ◌++◌, length, take, drop, get_or, Option, Some, Bool, true, false, refl, sym, ap, ◌∙◌, arith, length-append, length-take, take-append-drop, if◌then◌else◌, ◌&&◌, nat_le}
use Rattle.std.specs.Int.{from_be_bytes, w32}
use Rattle.std.specs.List.{flat_map}
use Rattle.std.proofs.lemmas.List.{drop_more, drop-drop, append-nil}
use Rattle.std.proofs.lemmas.List.Concat.{flat_map-append}
use Rattle.std.proofs.lemmas.Bool.{and_parts, leb-true}
use Rattle.eco_journal.specs.Layout.{EntryList, longest, stops, bad, entry_then, entry, fits, listed, listed_entry, bad_place}
use Rattle.eco_journal.specs.Reading.{entries_then, listed_in, IsReadTo, IsReadAll, OnlyReads}
use Rattle.eco_journal.specs.Steps.{BadAt}
use Rattle.eco_journal.specs.declared.faults.JournalFault.{JournalFault}
use Rattle.eco_journal.specs.declared.faults.JournalFault.TheVariants.{Disk, BaseDiffers, BadRecord, Memory}
use Rattle.eco_disk.specs.Disk.{Same}
use Rattle.eco_disk.specs.declared.call.Call.{Call}
use Rattle.eco_disk.proofs.Moments.{passes_on}
use Rattle.eco_disk.proofs.Called.{makes_then}
use Rattle.eco_journal.proofs.Entries.{listed_skip, closed_gate}

module _ (bytes : List ℕ) (at : ℕ) (within : at < length bytes) where
  abbrev rest : List ℕ
  rest = drop (at + 1) bytes

  abbrev size : ℕ
  size = from_be_bytes w32 (take 4 rest)

  at_gate : (gate : ℕ) → gate ≡ get_or bytes at 0 → drop at bytes ≡ gate ∷ rest
  at_gate gate is = drop_more bytes at 0 within ∙ ap (λ g. g ∷ rest) (sym is)

  pub listed_shut : (gate : ℕ) → gate ≡ get_or bytes at 0 → gate ≢ 1 → listed 0 at (drop at bytes) ≡ stops (drop at bytes)
  listed_shut gate is shut = ap (listed 0 at) (at_gate gate is) ∙ closed_gate at gate rest shut ∙ ap stops (sym (at_gate gate is))

  pub listed_bad : 1 ≡ get_or bytes at 0 → fits size rest ≡ false → listed 0 at (drop at bytes) ≡ bad at
  listed_bad is not_fit =
      ap (listed 0 at) (at_gate 1 is)
      ∙ ap (λ (b : Bool). if b then entry_then (take size (drop 4 rest)) (listed (size + 4) (at + 1) rest) else bad at) not_fit

  pub listed_next : (n : ℕ) → n ≡ size → 1 ≡ get_or bytes at 0 → fits n rest ≡ true
      → listed 0 at (drop at bytes) ≡ entry_then (take n (drop (at + 5) bytes)) (listed 0 (at + 5 + n) (drop (at + 5 + n) bytes))
  listed_next n same is fit =
      let long : n + 5 ≤ length rest = leb-true (n + 5) (length rest) (and_parts (nat_le 1 n && nat_le n longest) (nat_le (n + 5) (length rest)) fit).1 in
      let to_listed : listed 0 at (drop at bytes) ≡ listed_entry at rest n (λ m. listed m (at + 1) rest) =
      ap (listed 0 at) (at_gate 1 is) ∙ ap (λ m. listed_entry at rest m (λ m. listed m (at + 1) rest)) (sym same) in
      let fitted : listed_entry at rest n (λ m. listed m (at + 1) rest) ≡ entry_then (take n (drop 4 rest)) (listed (n + 4) (at + 1) rest) =
      ap (λ (b : Bool). if b then entry_then (take n (drop 4 rest)) (listed (n + 4) (at + 1) rest) else bad at) fit in
      let payload : drop 4 rest ≡ drop (at + 5) bytes = drop-drop 4 (at + 1) bytes ∙ ap (λ m. drop m bytes) (omega arith) in
      let skipped : listed (n + 4) (at + 1) rest ≡ listed 0 (at + 1 + (n + 4)) (drop (n + 4) rest) =
      ap (listed (n + 4) (at + 1)) (sym (take-append-drop (n + 4) rest))
      ∙ listed_skip (n + 4) (at + 1) (take (n + 4) rest) (drop (n + 4) rest) (omega (arith, length-take (n + 4) rest, long)) in
      let place : at + 1 + (n + 4) ≡ at + 5 + n = omega arith in
      let next : drop (n + 4) rest ≡ drop (at + 5 + n) bytes = drop-drop (n + 4) (at + 1) bytes ∙ ap (λ m. drop m bytes) place in
      to_listed ∙ fitted ∙ (λ i. entry_then (take n (payload i)) (skipped i)) ∙ (λ i. entry_then (take n (drop (at + 5) bytes)) (listed 0 (place i) (next i)))

pub entries_push : (payloads : List (List ℕ)) (payload : List ℕ) (end : EntryList) → entries_then (payloads ++ payload ∷ []) end ≡ entries_then payloads (entry_then payload end)
entries_push [] payload end = refl
entries_push (p ∷ payloads) payload end = ap (entry_then p) (entries_push payloads payload end)

pub bad_then : (payloads : List (List ℕ)) (at : ℕ) → bad_place (entries_then payloads (bad at)) ≡ Some at
bad_then [] at = refl
bad_then (p ∷ payloads) at = bad_then payloads at

pub size_push : (payloads : List (List ℕ)) (payload : List ℕ) → length (flat_map entry (payloads ++ payload ∷ [])) ≡ length (flat_map entry payloads) + 5 + length payload
size_push payloads payload =
    ap length (flat_map-append entry payloads (payload ∷ []) ∙ ap (λ (l : List ℕ). flat_map entry payloads ++ l) (append-nil (entry payload)))
    ∙ omega (arith, length-append (flat_map entry payloads) (entry payload))

pub read_begun : (bytes : List ℕ) → 41 < length bytes → IsReadTo bytes [] 41
read_begun bytes long = record { listed_is = refl; at_is = refl; within = long }

-- one entry more
pub read_more : (bytes : List ℕ) (payloads : List (List ℕ)) (payload : List ℕ) (at next : ℕ) → IsReadTo bytes payloads at
    → listed 0 at (drop at bytes) ≡ entry_then payload (listed 0 next (drop next bytes)) → next ≡ at + 5 + length payload → next < length bytes → IsReadTo bytes (payloads ++ payload ∷ []) next
read_more bytes payloads payload at next so_far step next_is within = record {
  listed_is = so_far.listed_is ∙ ap (entries_then payloads) step ∙ sym (entries_push payloads payload (listed 0 next (drop next bytes)));
  at_is = omega (arith, next_is, so_far.at_is, size_push payloads payload);
  within = within;
}

pub read_ended : (bytes : List ℕ) (payloads : List (List ℕ)) (at gate : ℕ) → IsReadTo bytes payloads at → gate ≡ get_or bytes at 0 → gate ≢ 1 → IsReadAll bytes payloads at gate
read_ended bytes payloads at gate so_far is shut = record {
  listed_is = so_far.listed_is ∙ ap (entries_then payloads) (listed_shut bytes at so_far.within gate is shut);
  at_is = so_far.at_is;
  within = so_far.within;
  gate_is = is;
  shut = shut;
}

pub read_bad : (bytes : List ℕ) (payloads : List (List ℕ)) (at : ℕ) → IsReadTo bytes payloads at → listed 0 at (drop at bytes) ≡ bad at → bad_place (listed_in bytes) ≡ Some at
read_bad bytes payloads at so_far is = ap bad_place (so_far.listed_is ∙ ap (entries_then payloads) is) ∙ bad_then payloads at

-- a bad record further on is one of the whole list
pub bad_further : (bytes : List ℕ) (payloads : List (List ℕ)) (at : ℕ) (e : JournalFault) → IsReadTo bytes payloads at
    → BadAt (λ place. (place ≡ at) × (listed 0 at (drop at bytes) ≡ bad at)) e → BadAt (λ place. bad_place (listed_in bytes) ≡ Some place) e
bad_further bytes payloads at (BadRecord place) so_far is = read_bad bytes payloads at so_far is.1 ∙ ap Some (sym is.0)
bad_further bytes payloads at Disk so_far is = tt
bad_further bytes payloads at (BaseDiffers kept given) so_far is = tt
bad_further bytes payloads at Memory so_far is = tt

-- what is read by two calls after one another
pub reads_on : {d e f : Option (List ℕ)} {X Y Z : ℕ → List ℕ → Type 0} {a b c : ℕ} {k m n : Option (List Call)} → OnlyReads d e a b X Y k m → OnlyReads e f b c Y Z m n → OnlyReads d f a c X Z k n
reads_on first second = record {
  contents = second.contents ∙ first.contents;
  crash = passes_on Same (λ x. refl) first.crash second.crash;
  no_changes = makes_then first.no_changes second.no_changes;
}
