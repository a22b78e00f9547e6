-- The gate that ends the entries of bytes, and the entry that stands unfinished after it.
use Rattle.std.proofs.Common.{Bool, ◌≡◌, ◌≢◌, inl, inr, ℕ, ◌≤◌, List, [], ◌∷◌, ◌++◌, length, take, drop, get_or, Option, Some, None, if◌then◌else◌, true, false, refl, sym, ap, subst, ◌∙◌, arith, length-append, append_assoc, nat_le, ◌==◌, ◌&&◌}
use Rattle.std.specs.List.{flat_map}
use Rattle.std.specs.Option.{option_map}
use Rattle.std.specs.Str.{bytes_eq}
use Rattle.std.proofs.lemmas.Bool.{cases_eq, and_parts, leb-true}
use Rattle.std.proofs.lemmas.List.{append_cancel_left, append-nil, take_at}
use Rattle.eco_journal.specs.Layout.{IsHead, IsPayload, ArePayloads, IsWholeJournal, HasBase, Stores, EntryList, stops, bad, entry_then, listed, payloads_of, bad_place, is_fresh, has_header, magic, front, behind, entry, entries, bad_record}
use Rattle.eco_journal.specs.Layout.IsTail.{closed, torn_gate}
use Rattle.eco_journal.specs.Layout.IsWholeJournal.{tiny, unopened, headed, listing}
use Rattle.eco_journal.specs.Meaning.{ListsEntries, EndsAlike}
use Rattle.eco_journal.specs.Unfinished.{OnceOpened, NoneUnfinished, StoresOnly, StoresOr}
use Rattle.eco_journal.specs.Start.{IsUnfinishedIn, StoresUnfinished, StoresAs}
use Rattle.eco_journal.proofs.Forms.{entries_shut, stores_closed, stores_gate, stores_headed, stores_tiny, stores_unopened, front-push, payloads-push}

some_is : (x y : List (List ℕ)) → Some x ≡ Some y → x ≡ y
some_is x y e = cc e

-- the digest after the magic
pub head_digest : (digest head rest : List ℕ) → IsHead digest head → take 32 (drop 8 (head ++ rest)) ≡ digest
head_digest digest head rest is = ap (λ (h : List ℕ). take 32 (drop 8 (h ++ rest))) is.parts ∙ take_at digest rest 32 is.size

front_digest : (digest head : List ℕ) (payloads : List (List ℕ)) (rest : List ℕ) → IsHead digest head → take 32 (drop 9 (front head payloads ++ rest)) ≡ digest
front_digest digest head payloads rest is =
    ap (λ (l : List ℕ). take 32 (drop 8 l)) (append_assoc head (flat_map entry payloads) rest) ∙ head_digest digest head (flat_map entry payloads ++ rest) is

-- A gate that isn't open ends the entries of bytes. What stands from it on is one thing.
pub ends_at : (digest head : List ℕ) (payloads : List (List ℕ)) (gate : ℕ) (rest bytes : List ℕ) → IsHead digest head → ArePayloads payloads → gate ≢ 1 → bytes ≡ front head payloads ++ gate ∷ rest
    → (ps : List (List ℕ)) (g : ℕ) (r : List ℕ) → (l : ListsEntries bytes ps (g ∷ r)) → g ≢ 1 → EndsAlike head payloads (gate ∷ rest) (magic ++ l.digest) ps (g ∷ r)
ends_at digest head payloads gate rest bytes is_head are shut is ps g r l not_open =
    let its : IsHead l.digest (magic ++ l.digest) = record { parts = refl; size = l.size } in
    let digests : l.digest ≡ digest =
    sym (front_digest l.digest (magic ++ l.digest) ps (g ∷ r) its) ∙ ap (λ (b : List ℕ). take 32 (drop 9 b)) (sym l.is ∙ is) ∙ front_digest digest head payloads (gate ∷ rest) is_head in
    let heads : magic ++ l.digest ≡ head = ap (λ (d : List ℕ). magic ++ d) digests ∙ sym is_head.parts in
    let lists : ps ≡ payloads =
    some_is ps payloads (sym (entries_shut l.digest (magic ++ l.digest) its ps g r l.are_payloads not_open) ∙ ap entries (sym l.is ∙ is) ∙ entries_shut digest head is_head payloads gate rest are shut) in
    record {
      same_head = heads;
      same_payloads = lists;
      same_rest = append_cancel_left (front head payloads) (g ∷ r) (gate ∷ rest) ((λ i. front (sym heads i) (sym lists i) ++ g ∷ r) ∙ sym l.is ∙ is);
    }

pub once_also : {bytes : List ℕ} {P Q : List ℕ → Type 0} → OnceOpened bytes P → ((x : List ℕ) → P x → Q x) → OnceOpened bytes Q
once_also once also = record { opened = λ ps g r l not_closed not_open. also _ (once.opened ps g r l not_closed not_open) }

pub once_none : {bytes : List ℕ} {P : List ℕ → Type 0} → NoneUnfinished bytes → OnceOpened bytes P
once_none none = record { opened = λ ps g r l not_closed not_open. absurd (none.opened ps g r l not_closed not_open) }

-- a closed gate
pub closed_none : (digest head : List ℕ) → IsHead digest head → (payloads : List (List ℕ)) (rest bytes : List ℕ) → ArePayloads payloads → bytes ≡ front head payloads ++ 0 ∷ rest → NoneUnfinished bytes
closed_none digest head is_head payloads rest bytes are is = record {
  opened = λ ps g r l not_closed not_open.
      let ends = ends_at digest head payloads 0 rest bytes is_head are (λ e. omega (arith, e)) is ps g r l not_open in
      not_closed (ap (λ (b : List ℕ). get_or b 0 0) ends.same_rest);
}

-- no open header
list_long : (bytes : List ℕ) (ps : List (List ℕ)) (rest : List ℕ) → ListsEntries bytes ps rest → 41 ≤ length bytes
list_long bytes ps rest l =
    omega (arith, ap length l.is, length-append (front (magic ++ l.digest) ps) rest, length-append (magic ++ l.digest) (flat_map entry ps), l.size, length-append magic l.digest)

pub short_none : (bytes : List ℕ) → length bytes ≤ 40 → NoneUnfinished bytes
short_none bytes short = record { opened = λ ps g r l not_closed not_open. omega (arith, short, list_long bytes ps (g ∷ r) l) }

pub unopened_none : (bytes : List ℕ) → get_or bytes 0 0 ≢ 1 → NoneUnfinished bytes
unopened_none bytes not_one = record { opened = λ ps g r l not_closed not_open. not_one (ap (λ (b : List ℕ). get_or b 0 0) l.is) }

pub headed_none : (digest head : List ℕ) → IsHead digest head → (gate : ℕ) → NoneUnfinished (gate ∷ head ++ 0 ∷ [])
headed_none digest head is gate = elim (cases_eq gate 1) [
  | inl is_open ↦ closed_none digest head is [] [] (gate ∷ head ++ 0 ∷ []) tt (ap (λ g. g ∷ head ++ 0 ∷ []) is_open ∙ ap (λ (l : List ℕ). 1 ∷ l ++ 0 ∷ []) (sym (append-nil head)))
  | inr shut ↦ unopened_none (gate ∷ head ++ 0 ∷ []) shut
]

-- with a 1 at the gate of an unfinished entry it is there
pub opened_stores : (digest head : List ℕ) → IsHead digest head → (payloads : List (List ℕ)) (payload : List ℕ) → ArePayloads payloads → IsPayload payload → Stores digest (payloads ++ payload ∷ []) (front head payloads ++ 1 ∷ behind payload)
opened_stores digest head is payloads payload are one =
    subst (Stores digest (payloads ++ payload ∷ [])) (sym (front-push digest head is payloads payload))
    (stores_closed digest head is (payloads ++ payload ∷ []) [] (payloads-push digest head is payloads payload are one))

-- that entry alone stands unfinished there
pub unfinished_only : (digest head : List ℕ) → IsHead digest head → (payloads : List (List ℕ)) (payload bytes : List ℕ) (gate : ℕ) (P : List ℕ → Type 0) → ArePayloads payloads → gate ≢ 1 → bytes ≡ front head payloads ++ gate ∷ behind payload
    → P (front head payloads ++ 1 ∷ behind payload) → OnceOpened bytes P
unfinished_only digest head is_head payloads payload bytes gate P are shut is holds = record {
  opened = λ ps g r l not_closed not_open.
      let ends = ends_at digest head payloads gate (behind payload) bytes is_head are shut is ps g r l not_open in
      subst P (λ i. front (sym ends.same_head i) (sym ends.same_payloads i) ++ 1 ∷ drop 1 (sym ends.same_rest i)) holds;
}

module _ (digest head : List ℕ) (is : IsHead digest head) where
  pub closed_only : (payloads : List (List ℕ)) (rest : List ℕ) → ArePayloads payloads → StoresOnly digest payloads (front head payloads ++ 0 ∷ rest)
  closed_only payloads rest are = record {
    stores = stores_closed digest head is payloads rest are;
    none = closed_none digest head is payloads rest (front head payloads ++ 0 ∷ rest) are refl;
  }

  pub gate_or : (payloads : List (List ℕ)) (payload : List ℕ) (gate : ℕ) → ArePayloads payloads → IsPayload payload → StoresOr digest payloads payload (front head payloads ++ gate ∷ behind payload)
  gate_or payloads payload gate are one = record {
    stores = stores_gate digest head is payloads payload gate are one;
    unfinished = elim (cases_eq gate 1) [
      | inl is_open ↦
          once_none (closed_none digest head is (payloads ++ payload ∷ []) [] (front head payloads ++ gate ∷ behind payload) (payloads-push digest head is payloads payload are one)
          (ap (λ g. front head payloads ++ g ∷ behind payload) is_open ∙ front-push digest head is payloads payload))
      | inr shut ↦ unfinished_only digest head is payloads payload (front head payloads ++ gate ∷ behind payload) gate (Stores digest (payloads ++ payload ∷ [])) are shut refl (opened_stores digest head is payloads payload are one)
    ];
  }

  pub headed_only : (gate : ℕ) → StoresOnly digest [] (gate ∷ head ++ 0 ∷ [])
  headed_only gate = record { stores = stores_headed digest head is gate; none = headed_none digest head is gate }

pub tiny_only : (digest bytes : List ℕ) → length bytes ≤ 1 → StoresOnly digest [] bytes
tiny_only digest bytes short = record { stores = stores_tiny digest bytes short; none = short_none bytes (omega (arith, short)) }

pub unopened_only : (digest rest : List ℕ) → length rest ≤ 41 → StoresOnly digest [] (0 ∷ rest)
unopened_only digest rest short = record { stores = stores_unopened digest rest short; none = unopened_none (0 ∷ rest) (λ e. omega (arith, e)) }

-- whole bytes, with the entry that stands unfinished in them
whole_unfinished : (digest bytes : List ℕ) (payloads : List (List ℕ)) → IsWholeJournal digest bytes → entries bytes ≡ Some payloads → OnceOpened bytes (StoresUnfinished digest bytes payloads)
whole_unfinished digest _ payloads (tiny bytes short) are = once_none (short_none bytes (omega (arith, short)))
whole_unfinished digest _ payloads (unopened rest short) are = once_none (unopened_none (0 ∷ rest) (λ e. omega (arith, e)))
whole_unfinished digest _ payloads (headed gate head is) are = once_none (headed_none digest head is gate)
whole_unfinished digest _ payloads (listing head ps _ is_head lists (closed rest)) are = once_none (closed_none digest head is_head ps rest (front head ps ++ 0 ∷ rest) lists refl)
whole_unfinished digest _ payloads (listing head ps _ is_head lists (torn_gate gate payload shut one)) are =
    let same : ps ≡ payloads = some_is ps payloads (sym (entries_shut digest head is_head ps gate (behind payload) lists shut) ∙ are) in
    elim (cases_eq gate 0) [
      | inl zero_gate ↦ once_none (closed_none digest head is_head ps (behind payload) (front head ps ++ gate ∷ behind payload) lists (ap (λ g. front head ps ++ g ∷ behind payload) zero_gate))
      | inr not_closed ↦
          let opened = opened_stores digest head is_head ps payload lists one in
          let unfinished : IsUnfinishedIn digest (front head ps ++ gate ∷ behind payload) ps payload =
          record { head = head; is_head = is_head; are_payloads = lists; gate = gate; not_closed = not_closed; not_open = shut; is = refl; opened = opened } in
          subst (λ l. OnceOpened (front head ps ++ gate ∷ behind payload) (StoresUnfinished digest (front head ps ++ gate ∷ behind payload) l)) same
          (unfinished_only digest head is_head ps payload (front head ps ++ gate ∷ behind payload) gate (StoresUnfinished digest (front head ps ++ gate ∷ behind payload) ps) lists shut refl (payload, unfinished, opened))
    ]

pub whole_as : (digest bytes : List ℕ) (payloads : List (List ℕ)) → IsWholeJournal digest bytes → entries bytes ≡ Some payloads → StoresAs digest bytes payloads bytes
whole_as digest bytes payloads whole are = record { stores = record { whole = whole; entries_are = are }; unfinished = whole_unfinished digest bytes payloads whole are }

pub only_as : (digest bytes : List ℕ) (payloads : List (List ℕ)) (image : List ℕ) → StoresOnly digest payloads image → StoresAs digest bytes payloads image
only_as digest bytes payloads image only = record { stores = only.stores; unfinished = once_none only.none }

-- a header of whole bytes has the digest
header_parts : (bytes : List ℕ) → has_header bytes ≡ true → (42 ≤ length bytes) × ((get_or bytes 0 0 == 1) ≡ true)
header_parts bytes has =
    let parts = and_parts (nat_le 42 (length bytes)) (get_or bytes 0 0 == 1) (and_parts (nat_le 42 (length bytes) && (get_or bytes 0 0 == 1)) (bytes_eq (take 8 (drop 1 bytes)) magic) has).0 in
    (leb-true 42 (length bytes) parts.0, parts.1)

pub whole_base : (digest bytes : List ℕ) → IsWholeJournal digest bytes → HasBase digest bytes
whole_base digest _ (tiny bytes short) has = absurd (omega (arith, (header_parts bytes has).0, short))
whole_base digest _ (unopened rest short) has = let gate : false ≡ true = (header_parts (0 ∷ rest) has).1 in absurd (cc gate)
whole_base digest _ (headed gate head is) has = head_digest digest head (0 ∷ []) is
whole_base digest _ (listing head payloads tail is are is_tail) has = front_digest digest head payloads tail is

-- entries that are read have no bad record among them
none_of : (l : EntryList) (payloads : List (List ℕ)) → payloads_of l ≡ Some payloads → bad_place l ≡ None
none_of (stops tail) payloads is = refl
none_of (bad place) payloads is = cc is
none_of (entry_then payload others) payloads is = through (λ ps read. none_of others ps read) (payloads_of others) refl is
  where
    through : ((ps : List (List ℕ)) → payloads_of others ≡ Some ps → bad_place others ≡ None) → (o : Option (List (List ℕ))) → payloads_of others ≡ o → option_map (λ ps. payload ∷ ps) o ≡ Some payloads → bad_place others ≡ None
    through on None read e = cc e
    through on (Some ps) read e = on ps read

pub not_bad : (bytes : List ℕ) (payloads : List (List ℕ)) (place : ℕ) → entries bytes ≡ Some payloads → bad_record bytes ≡ Some place → ⊥
not_bad bytes payloads place read is = by_tests (is_fresh bytes) (has_header bytes) read is
  where
    by_tests : (fresh header : Bool) → (if fresh then Some [] else if header then payloads_of (listed 0 41 (drop 41 bytes)) else None) ≡ Some payloads → (if fresh then None else if header then bad_place (listed 0 41 (drop 41 bytes)) else Some 0) ≡ Some place → ⊥
    by_tests true header read is = cc is
    by_tests false true read is = cc (sym (none_of (listed 0 41 (drop 41 bytes)) payloads read) ∙ is)
    by_tests false false read is = cc read
