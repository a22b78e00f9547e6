-- The calls of a start, from those of its parts.
use Rattle.std.proofs.Common.{◌≡◌, inl, inr, ℕ, ◌+◌, ◌-◌, List, [], ◌∷◌, ◌++◌, length, drop, get_or, Option, Bool, true, false, refl, sym, ap, subst, ◌∙◌, arith, length-drop, nat_le, ◌==◌, ◌&&◌, if◌then◌else◌, Result, Ok, Err, Some, IfOk, IfErr, nat_lt}
use Rattle.std.proofs.lemmas.Bool.{le-leb, ne_eqb, lt-leb, lt-ltb, le-ltb, cases_lt}
use Rattle.std.proofs.lemmas.List.{drop_more}
use Rattle.eco_disk.specs.declared.call.Call.{Call}
use Rattle.eco_disk.specs.Calls.{Makes, MakesInOrder, changes}
use Rattle.eco_disk.specs.Disk.{OnTold}
use Rattle.eco_disk.proofs.Told.{told_at, told_from}
use Rattle.eco_journal.specs.declared.found.Found.{Found}
use Rattle.eco_journal.specs.declared.faults.JournalFault.{JournalFault}
use Rattle.eco_journal.specs.declared.faults.JournalFault.TheVariants.{Disk, Memory, BadRecord, BaseDiffers}
use Rattle.eco_journal.specs.declared.standing.Standing.{Standing}
use Rattle.eco_journal.specs.declared.standing.Standing.TheVariants.{Settled, Behind, AtGate}
use Rattle.eco_journal.specs.declared.header.Beginning.TheVariants.{Fresh}
use Rattle.eco_journal.specs.Layout.{stops, is_fresh}
use Rattle.eco_journal.specs.Reading.{entries_then, listed_in, IsReadAll, standing_at}
use Rattle.eco_journal.specs.Calls.{settle_calls, shut_calls, crop_calls, clear_calls, stands_clear, header_calls, fresh_calls, tail_of, tidy_calls, end_calls, found_calls}
use Rattle.eco_journal.specs.Start.{IsBeginning, IsDiskOrMemory, IsRefusal}

-- gate 0 is closed as the bytes ask for
pub clear_is : (bytes : List ℕ) (shut : Bool) → IsBeginning bytes (Fresh shut) → stands_clear bytes ≡ shut
clear_is bytes true is = (λ i. le-leb 2 (length bytes) (omega (arith, is.1)) i && (is.2 i == 0))
clear_is bytes false is = elim is.1 [
  | inl short ↦ ap (λ b. b && (get_or bytes 0 0 == 0)) (lt-leb 2 (length bytes) (omega (arith, short)))
  | inr other ↦ ap (λ b. nat_le 2 (length bytes) && b) (ne_eqb (get_or bytes 0 0) 0 other) ∙ and_false (nat_le 2 (length bytes))
]
  where
    and_false : (b : Bool) → (b && false) ≡ false
    and_false true = refl
    and_false false = refl

pub fresh_is : (digest bytes : List ℕ) (shut : Bool) → IsBeginning bytes (Fresh shut) → is_fresh bytes ≡ true → clear_calls shut ++ header_calls digest ≡ fresh_calls digest bytes
fresh_is digest bytes shut is fresh =
    ap (λ s. clear_calls s ++ header_calls digest) (sym (clear_is bytes shut is))
    ∙ ap (λ (b : Bool). if b then clear_calls (stands_clear bytes) ++ header_calls digest else []) (sym fresh)

pub none_is : (digest bytes : List ℕ) → is_fresh bytes ≡ false → fresh_calls digest bytes ≡ []
none_is digest bytes old = ap (λ (b : Bool). if b then clear_calls (stands_clear bytes) ++ header_calls digest else []) old

pub no_end : (bytes : List ℕ) → is_fresh bytes ≡ true → end_calls bytes ≡ []
no_end bytes fresh = ap (λ (b : Bool). if b then [] else tidy_calls (length bytes - length (tail_of (listed_in bytes))) (tail_of (listed_in bytes))) fresh

tail_then : (payloads : List (List ℕ)) (tail : List ℕ) → tail_of (entries_then payloads (stops tail)) ≡ tail
tail_then [] tail = refl
tail_then (payload ∷ payloads) tail = tail_then payloads tail

-- what stands at a gate is taken away by its kind
tidy_is : (place gate : ℕ) (rest : List ℕ) (follows : Bool) → nat_le 1 (length rest) ≡ follows → settle_calls (standing_at gate follows) place follows ≡ tidy_calls place (gate ∷ rest)
tidy_is place gate rest follows is = by_gate (gate == 0) follows ∙ ap (λ f. (if gate == 0 then [] else shut_calls place) ++ (if f then crop_calls place else [])) (sym is)
  where
    by_gate : (shut f : Bool) → settle_calls (if shut then (if f then Behind else Settled) else AtGate) place f ≡ (if shut then [] else shut_calls place) ++ (if f then crop_calls place else [])
    by_gate true true = refl
    by_gate true false = refl
    by_gate false true = refl
    by_gate false false = refl

pub end_is : (bytes : List ℕ) (payloads : List (List ℕ)) (at gate : ℕ) (follows : Bool) → is_fresh bytes ≡ false → IsReadAll bytes payloads at gate → nat_le 1 (length (drop (at + 1) bytes)) ≡ follows
    → settle_calls (standing_at gate follows) at follows ≡ end_calls bytes
end_is bytes payloads at gate follows old read more =
    let tail : tail_of (listed_in bytes) ≡ drop at bytes = ap tail_of read.listed_is ∙ tail_then payloads (drop at bytes) in
    let place : at ≡ length bytes - length (drop at bytes) = omega (arith, length-drop at bytes, read.within) in
    let split : gate ∷ drop (at + 1) bytes ≡ drop at bytes = ap (λ g. g ∷ drop (at + 1) bytes) read.gate_is ∙ sym (drop_more bytes at 0 read.within) in
    tidy_is at gate (drop (at + 1) bytes) follows more
    ∙ (λ i. tidy_calls (place i) (split i))
    ∙ (λ i. tidy_calls (length bytes - length (sym tail i)) (sym tail i))
    ∙ ap (λ (b : Bool). if b then [] else tidy_calls (length bytes - length (tail_of (listed_in bytes))) (tail_of (listed_in bytes))) (sym old)

pub follows_is : (bytes : List ℕ) (at len : ℕ) → len ≡ length bytes → nat_le 1 (length (drop (at + 1) bytes)) ≡ nat_lt (at + 1) len
follows_is bytes at len is = elim (cases_lt (at + 1) len) [
  | inl more ↦ le-leb 1 (length (drop (at + 1) bytes)) (omega (arith, more, is, length-drop (at + 1) bytes)) ∙ sym (lt-ltb (at + 1) len more)
  | inr ends ↦ lt-leb 1 (length (drop (at + 1) bytes)) (omega (arith, ends, is, length-drop (at + 1) bytes)) ∙ sym (le-ltb (at + 1) len ends)
]

pub settle_split : (gate : ℕ) (follows : Bool) → shut_calls gate ++ (if follows then crop_calls gate else []) ≡ settle_calls AtGate gate follows
settle_split gate true = refl
settle_split gate false = refl

-- none of these calls is a read
pub changes_settle : (standing : Standing) (gate : ℕ) (follows : Bool) → changes (settle_calls standing gate follows) ≡ settle_calls standing gate follows
changes_settle Settled gate follows = refl
changes_settle Behind gate follows = refl
changes_settle AtGate gate true = refl
changes_settle AtGate gate false = refl

pub changes_fresh : (shut : Bool) (digest : List ℕ) → changes (clear_calls shut ++ header_calls digest) ≡ clear_calls shut ++ header_calls digest
changes_fresh true digest = refl
changes_fresh false digest = refl

module _ {T E : Type 0} {a b : Option (List Call)} where
  -- these alone were made before an error
  pub first_made : {xs : List Call} (ys : List Call) (error : E) → Makes a b xs → MakesInOrder {T = T} {E = E} a b (xs ++ ys) (Err error)
  first_made {xs} ys error makes = record { made = xs; left = ys; in_order = refl; makes = makes; whole = tt }

  -- the same calls
  pub order_as : {xs ys : List Call} {result : Result T E} → xs ≡ ys → MakesInOrder a b xs result → MakesInOrder a b ys result
  order_as is order = record { made = order.made; left = order.left; in_order = sym is ∙ order.in_order; makes = order.makes; whole = order.whole }

  -- the same of another result
  pub made_as : {U F : Type 0} {xs : List Call} {value : T} (other : U) → MakesInOrder {T = T} {E = E} a b xs (Ok value) → MakesInOrder {T = U} {E = F} a b xs (Ok other)
  made_as other order = record { made = order.made; left = order.left; in_order = order.in_order; makes = order.makes; whole = order.whole }

  pub failed_as : {U F : Type 0} {xs : List Call} {error : E} (other : F) → MakesInOrder {T = T} {E = E} a b xs (Err error) → MakesInOrder {T = U} {E = F} a b xs (Err other)
  failed_as other order = record { made = order.made; left = order.left; in_order = order.in_order; makes = order.makes; whole = tt }

pub if_err_also : {T E : Type 0} {P Q : E → Type 0} (r : Result T E) → IfErr r P → ((e : E) → P e → Q e) → IfErr r Q
if_err_also (Ok value) is also = tt
if_err_also (Err error) is also = also error is

-- a failed disk and missing memory are no refusal of the bytes
pub no_refusal : {P : Type 0} (e : JournalFault) → IsDiskOrMemory e → IsRefusal e → P
no_refusal Disk is refused = absurd refused
no_refusal Memory is refused = absurd refused
no_refusal (BadRecord place) is refused = absurd is
no_refusal (BaseDiffers kept given) is refused = absurd is

pub no_disk_refusal : {P : Type 0} (e : JournalFault) → e ≡ Disk → IsRefusal e → P
no_disk_refusal e is refused = absurd (subst IsRefusal is refused)

-- a header was made, and nothing stands after it
pub made_ended : (o : Option (List ℕ)) (r : Result Found JournalFault) → IfOk r (λ f. f.standing ≡ Settled) → ((bytes : List ℕ) → o ≡ Some bytes → is_fresh bytes ≡ true) → IfOk r (λ f. OnTold o (λ bytes. found_calls f ≡ end_calls bytes))
made_ended o (Ok found) settled fresh = told_from o (λ bytes. found_calls found ≡ end_calls bytes) (λ bytes told. ap (λ s. settle_calls s found.gate found.follows) settled ∙ sym (no_end bytes (fresh bytes told)))
made_ended o (Err error) settled fresh = tt

-- entries were read
pub read_ended : (o p : Option (List ℕ)) (r : Result Found JournalFault) → p ≡ o → IfOk r (λ f. OnTold p (λ bytes. is_fresh bytes ≡ false → found_calls f ≡ end_calls bytes)) → ((bytes : List ℕ) → o ≡ Some bytes → is_fresh bytes ≡ false)
    → IfOk r (λ f. OnTold o (λ bytes. found_calls f ≡ end_calls bytes))
read_ended o p (Ok found) same ended old = told_from o (λ bytes. found_calls found ≡ end_calls bytes) (λ bytes told. told_at p (λ bytes. is_fresh bytes ≡ false → found_calls found ≡ end_calls bytes) bytes (same ∙ told) ended (old bytes told))
read_ended o p (Err error) same ended old = tt
