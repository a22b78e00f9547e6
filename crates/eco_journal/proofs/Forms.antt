-- The forms that a journal's bytes may have, and the entries of each.
use Rattle.std.proofs.Common.{◌≡◌, ◌≢◌, ℕ, ◌≤◌, List, [], ◌∷◌, ◌++◌, length, take, drop, get_or, Some, None, Bool, true, false, refl, sym, ap, subst, ◌∙◌, arith, append_assoc, length-append, inl, inr, ◌⊎◌, if◌then◌else◌, ◌==◌, ◌&&◌, ◌||◌, not, nat_le}
use Rattle.std.specs.List.{flat_map}
use Rattle.std.specs.Str.{bytes_eq}
use Rattle.std.proofs.lemmas.List.{drop_at, append-nil}
use Rattle.std.proofs.lemmas.List.Concat.{flat_map-append}
use Rattle.std.proofs.lemmas.Bool.{le-leb, lt-leb, and_right, cases_eq, ne_eqb}
use Rattle.eco_journal.specs.Layout.{IsWholeJournal, IsPayload, ArePayloads, IsHead, Stores, magic, entry, behind, front, listed, payloads_of, bad_place, is_fresh, has_header, entries, bad_record}
use Rattle.eco_journal.specs.Layout.IsTail.{closed, torn_gate}
use Rattle.eco_journal.specs.Layout.IsWholeJournal.{tiny, unopened, headed, listing}
use Rattle.eco_journal.proofs.Entries.{listed_all, head_size}

-- an open header, and then some bytes
module _ (digest head : List ℕ) (is : IsHead digest head) (rest : List ℕ) (more : 1 ≤ length rest) where
  abbrev bytes : List ℕ
  bytes = 1 ∷ head ++ rest

  long : 42 ≤ length bytes
  long = omega (arith, more, head_size digest head is, length-append head rest)

  pub not_fresh : is_fresh bytes ≡ false
  not_fresh =
      ap (λ b. b || (nat_le (length bytes) 42 && false)) (lt-leb _ _ (omega (arith, long)))
      ∙ and_right _ _ refl

  right_magic : bytes_eq (take 8 (head ++ rest)) magic ≡ true
  right_magic = ap (λ (h : List ℕ). bytes_eq (take 8 (h ++ rest)) magic) is.parts

  pub with_header : has_header bytes ≡ true
  with_header = (λ i. le-leb 42 (length bytes) long i && true && right_magic i)

  pub entries_behind : entries bytes ≡ payloads_of (listed 0 41 rest)
  entries_behind =
      (λ i. if not_fresh i then Some [] else if with_header i then payloads_of (listed 0 41 (drop 41 bytes)) else None)
      ∙ ap (λ (l : List ℕ). payloads_of (listed 0 41 l)) (drop_at head rest 40 (head_size digest head is))

  pub bad_behind : bad_record bytes ≡ bad_place (listed 0 41 rest)
  bad_behind =
      (λ i. if not_fresh i then None else if with_header i then bad_place (listed 0 41 (drop 41 bytes)) else Some 0)
      ∙ ap (λ (l : List ℕ). bad_place (listed 0 41 l)) (drop_at head rest 40 (head_size digest head is))

module _ (digest head : List ℕ) (is : IsHead digest head) where
  pub entries_shut : (payloads : List (List ℕ)) (gate : ℕ) (rest : List ℕ) → ArePayloads payloads → gate ≢ 1 → entries (front head payloads ++ gate ∷ rest) ≡ Some payloads
  entries_shut payloads gate rest are shut =
      ap (λ (l : List ℕ). entries (1 ∷ l)) (append_assoc head (flat_map entry payloads) (gate ∷ rest))
      ∙ entries_behind digest head is (flat_map entry payloads ++ gate ∷ rest) (omega (arith, length-append (flat_map entry payloads) (gate ∷ rest)))
      ∙ (listed_all 41 payloads gate rest are shut).0

  pub bad_shut : (payloads : List (List ℕ)) (gate : ℕ) (rest : List ℕ) → ArePayloads payloads → gate ≢ 1 → bad_record (front head payloads ++ gate ∷ rest) ≡ None
  bad_shut payloads gate rest are shut =
      ap (λ (l : List ℕ). bad_record (1 ∷ l)) (append_assoc head (flat_map entry payloads) (gate ∷ rest))
      ∙ bad_behind digest head is (flat_map entry payloads ++ gate ∷ rest) (omega (arith, length-append (flat_map entry payloads) (gate ∷ rest)))
      ∙ (listed_all 41 payloads gate rest are shut).1

  -- a closed gate ends the entries, whatever stands after it
  pub stores_closed : (payloads : List (List ℕ)) (rest : List ℕ) → ArePayloads payloads → Stores digest payloads (front head payloads ++ 0 ∷ rest)
  stores_closed payloads rest are = record {
    whole = listing head payloads (0 ∷ rest) is are (closed rest);
    entries_are = entries_shut payloads 0 rest are (λ e. omega (arith, e));
  }

  pub front-push : (payloads : List (List ℕ)) (payload : List ℕ) → front head payloads ++ 1 ∷ behind payload ≡ front head (payloads ++ payload ∷ []) ++ 0 ∷ []
  front-push payloads payload =
      let one : flat_map entry (payloads ++ payload ∷ []) ≡ flat_map entry payloads ++ entry payload =
      flat_map-append entry payloads (payload ∷ []) ∙ ap (λ (l : List ℕ). flat_map entry payloads ++ l) (append-nil (entry payload)) in
      let back : front head (payloads ++ payload ∷ []) ++ 0 ∷ [] ≡ front head payloads ++ (entry payload ++ 0 ∷ []) =
      ap (λ (l : List ℕ). 1 ∷ head ++ l ++ 0 ∷ []) one
      ∙ ap (λ (l : List ℕ). l ++ 0 ∷ []) (sym (append_assoc (1 ∷ head) (flat_map entry payloads) (entry payload)))
      ∙ append_assoc (front head payloads) (entry payload) (0 ∷ []) in
      sym back

  pub payloads-push : (payloads : List (List ℕ)) (payload : List ℕ) → ArePayloads payloads → IsPayload payload → ArePayloads (payloads ++ payload ∷ [])
  payloads-push [] payload are one = (one, tt)
  payloads-push (p ∷ payloads) payload are one = (are.0, payloads-push payloads payload are.1 one)

  -- a whole entry after any gate counts or it doesn't
  pub stores_gate : (payloads : List (List ℕ)) (payload : List ℕ) (gate : ℕ) → ArePayloads payloads → IsPayload payload
      → Stores digest payloads (front head payloads ++ gate ∷ behind payload) ⊎ Stores digest (payloads ++ payload ∷ []) (front head payloads ++ gate ∷ behind payload)
  stores_gate payloads payload gate are one = elim (cases_eq gate 1) [
    | inl is_open ↦
        let pushed = stores_closed (payloads ++ payload ∷ []) [] (payloads-push payloads payload are one) in
        let same : front head payloads ++ gate ∷ behind payload ≡ front head (payloads ++ payload ∷ []) ++ 0 ∷ [] =
        ap (λ g. front head payloads ++ g ∷ behind payload) is_open ∙ front-push payloads payload in
        inr (subst (Stores digest (payloads ++ payload ∷ [])) (sym same) pushed)
    | inr shut ↦ inl (record {
      whole = listing head payloads (gate ∷ behind payload) is are (torn_gate gate payload shut one);
      entries_are = entries_shut payloads gate (behind payload) are shut;
    })
  ]

  -- a header after any gate has no entries
  pub stores_headed : (gate : ℕ) → Stores digest [] (gate ∷ head ++ 0 ∷ [])
  stores_headed gate = record {
    whole = headed gate head is;
    entries_are = elim (cases_eq gate 1) [
      | inl is_open ↦ ap (λ g. entries (g ∷ head ++ 0 ∷ [])) is_open ∙ ap (λ (l : List ℕ). entries (1 ∷ l ++ 0 ∷ [])) (sym (append-nil head)) ∙ entries_shut [] 0 [] tt (λ e. omega (arith, e))
      | inr shut ↦
          let size : length (gate ∷ head ++ 0 ∷ []) ≡ 42 = omega (arith, head_size digest head is, length-append head (0 ∷ [])) in
          ap (λ b. if b then Some [] else if has_header (gate ∷ head ++ 0 ∷ []) then payloads_of (listed 0 41 (drop 41 (gate ∷ head ++ 0 ∷ []))) else None)
          (λ i. nat_le (size i) 1 || (nat_le (size i) 42 && not (ne_eqb gate 1 shut i)))
    ];
  }

pub stores_tiny : (digest bytes : List ℕ) → length bytes ≤ 1 → Stores digest [] bytes
stores_tiny digest bytes short = record {
  whole = tiny bytes short;
  entries_are = ap (λ b. if b || (nat_le (length bytes) 42 && not (get_or bytes 0 0 == 1)) then Some [] else if has_header bytes then payloads_of (listed 0 41 (drop 41 bytes)) else None) (le-leb _ _ short);
}

pub stores_unopened : (digest rest : List ℕ) → length rest ≤ 41 → Stores digest [] (0 ∷ rest)
stores_unopened digest rest short = record {
  whole = unopened rest short;
  entries_are =
      let fresh : is_fresh (0 ∷ rest) ≡ true =
      ap (λ b. nat_le (length (0 ∷ rest)) 1 || (b && true)) (le-leb (length (0 ∷ rest)) 42 (omega (arith, short))) ∙ or_true (nat_le (length (0 ∷ rest)) 1) in
      ap (λ b. if b then Some [] else if has_header (0 ∷ rest) then payloads_of (listed 0 41 (drop 41 (0 ∷ rest))) else None) fresh;
}
  where
    or_true : (b : Bool) → (b || true) ≡ true
    or_true true = refl
    or_true false = refl

-- whole bytes have entries
pub whole_entries : (digest bytes : List ℕ) → IsWholeJournal digest bytes → (payloads : List (List ℕ)) × (entries bytes ≡ Some payloads)
whole_entries digest _ (tiny bytes short) = ([], (stores_tiny digest bytes short).entries_are)
whole_entries digest _ (unopened rest short) = ([], (stores_unopened digest rest short).entries_are)
whole_entries digest _ (headed gate head is) = ([], (stores_headed digest head is gate).entries_are)
whole_entries digest _ (listing head payloads _ is are (closed rest)) = (payloads, (stores_closed digest head is payloads rest are).entries_are)
whole_entries digest _ (listing head payloads _ is are (torn_gate gate payload shut one)) = (payloads, entries_shut digest head is payloads gate (behind payload) are shut)
