-- What bytes of a journal's form stand for.
use Rattle.std.proofs.Common.{◌≡◌, ◌≢◌, ℕ, zero, suc, ◌+◌, ◌≤◌, ◌<◌, ◌^◌, List, [], ◌∷◌, ◌++◌, length, take, Some, None, Bool, true, refl, ap, ◌∙◌, arith, append_assoc, length-append, if◌then◌else◌}
use Rattle.std.specs.Int.{to_be_bytes, w32}
use Rattle.std.specs.List.{flat_map}
use Rattle.std.specs.Option.{option_map}
use Rattle.std.proofs.lemmas.List.{take_at}
use Rattle.std.proofs.lemmas.Nat.{from_be_bytes-to_be_bytes_4}
use Rattle.std.proofs.lemmas.Bool.{le-leb, and_from}
use Rattle.std.proofs.lemmas.Bool.Decides.{nat_tests}
use Rattle.eco_journal.specs.Layout.{EntryList, IsPayload, ArePayloads, IsHead, magic, entry, fits, listed, listed_entry, payloads_of, bad_place}
use Rattle.eco_journal.specs.Layout.EntryList.{stops, bad, entry_then}

pub listed_skip : (n place : ℕ) (xs ys : List ℕ) → length xs ≡ n → listed n place (xs ++ ys) ≡ listed 0 (place + n) ys
listed_skip zero place [] ys is = ap (λ p. listed 0 p ys) (omega arith)
listed_skip zero place (x ∷ xs) ys is = absurd (omega arith)
listed_skip (suc n) place [] ys is = absurd (omega arith)
listed_skip (suc n) place (x ∷ xs) ys is =
    listed_skip n (place + 1) xs ys (omega arith) ∙ ap (λ p. listed 0 p ys) (omega arith)

pub fits_whole : (payload ys : List ℕ) → IsPayload payload → 1 ≤ length ys → fits (length payload) (to_be_bytes w32 (length payload) ++ (payload ++ ys)) ≡ true
fits_whole payload ys is more =
    and_from _ _ (and_from _ _ (le-leb _ _ is.0) (le-leb _ _ is.1)) (le-leb _ _ (omega (arith, more, length-append payload ys)))

pub listed_whole : (place : ℕ) (payload ys : List ℕ) → IsPayload payload → 1 ≤ length ys
    → listed 0 place (entry payload ++ ys) ≡ entry_then payload (listed 0 (place + 5 + length payload) ys)
listed_whole place payload ys is more =
    let size : length payload < 2 ^ 32 = omega (arith, is.1) in
    let rest = to_be_bytes w32 (length payload) ++ (payload ++ ys) in
    let others : ℕ → EntryList = λ n. listed n (place + 1) rest in
    let read : listed 0 place (entry payload ++ ys) ≡ listed_entry place rest (length payload) others =
    ap (λ n. listed_entry place rest n others) (from_be_bytes-to_be_bytes_4 (length payload) size) in
    let fit : listed_entry place rest (length payload) others ≡ entry_then (take (length payload) (payload ++ ys)) (others (length payload + 4)) =
    ap (λ (b : Bool). if b then entry_then (take (length payload) (payload ++ ys)) (others (length payload + 4)) else bad place) (fits_whole payload ys is more) in
    let next : others (length payload + 4) ≡ listed 0 (place + 5 + length payload) ys =
    listed_skip (length payload + 4) (place + 1) (to_be_bytes w32 (length payload) ++ payload) ys (omega arith)
    ∙ ap (λ p. listed 0 p ys) (omega arith) in
    read ∙ fit ∙ (λ i. entry_then (take_at payload ys (length payload) refl i) (next i))

pub closed_gate : (place gate : ℕ) (rest : List ℕ) → gate ≢ 1 → listed 0 place (gate ∷ rest) ≡ stops (gate ∷ rest)
closed_gate place gate rest shut = grind (arith, nat_tests)

-- entries, and then a gate that isn't open
pub listed_all : (place : ℕ) (payloads : List (List ℕ)) (gate : ℕ) (rest : List ℕ) → ArePayloads payloads → gate ≢ 1
    → (payloads_of (listed 0 place (flat_map entry payloads ++ gate ∷ rest)) ≡ Some payloads) × (bad_place (listed 0 place (flat_map entry payloads ++ gate ∷ rest)) ≡ None)
listed_all place [] gate rest are shut =
    let end = closed_gate place gate rest shut in (ap payloads_of end, ap bad_place end)
listed_all place (payload ∷ payloads) gate rest are shut =
    let ys = flat_map entry payloads ++ gate ∷ rest in
    let others = listed_all (place + 5 + length payload) payloads gate rest are.1 shut in
    let step : listed 0 place ((entry payload ++ flat_map entry payloads) ++ gate ∷ rest) ≡ entry_then payload (listed 0 (place + 5 + length payload) ys) =
    ap (listed 0 place) (append_assoc (entry payload) (flat_map entry payloads) (gate ∷ rest))
    ∙ listed_whole place payload ys are.0 (omega (arith, length-append (flat_map entry payloads) (gate ∷ rest))) in
    (ap payloads_of step ∙ ap (option_map (λ payloads. payload ∷ payloads)) others.0, ap bad_place step ∙ others.1)

pub head_size : (digest head : List ℕ) → IsHead digest head → length head ≡ 40
head_size digest head is = ap length is.parts ∙ omega (arith, is.size, length-append magic digest)
