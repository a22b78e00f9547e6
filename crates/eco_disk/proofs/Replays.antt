-- One call more of a disk in memory.
use Rattle.std.proofs.Common.{◌≡◌, inl, inr, ◌≤◌, ◌+◌, min, ℕ, Bool, List, [], ◌∷◌, ◌++◌, length, take, drop, refl, sym, ◌∙◌, ap, subst, arith, length-append, length-take, length-drop, Result, Ok, Err, OnOk}
use Rattle.std.proofs.lemmas.List.{take-append-le, take_all, take_min, append_assoc, drop_at, take_at}
use Rattle.eco_disk.specs.declared.call.Call.{Call}
use Rattle.eco_disk.specs.declared.call.Call.TheVariants.{Len, Read, Write, Sync}
use Rattle.eco_disk.specs.declared.call.Call.TheVariants as call
use Rattle.eco_disk.specs.declared.call.Attempt.{Attempt}
use Rattle.eco_disk.specs.declared.call.Attempt.TheVariants.{Made, Failed}
use Rattle.eco_disk.specs.declared.contents.Contents.{Contents}
use Rattle.eco_disk.specs.declared.counter.Cause.{Cause}
use Rattle.eco_disk.specs.declared.counter.Cause.TheVariants.{Injected, Memory}
use Rattle.eco_disk.specs.Disk.{Torn, Cut, Same, Passes, Only, written}
use Rattle.eco_disk.specs.Contents.{first_of}
use Rattle.eco_disk.specs.Replay.{made, made_by, made_all, left_by, left_all, image_at}
use Rattle.eco_disk.specs.Images.{reads_image, all_taken}
use Rattle.eco_disk.specs.Tape.{NotesCall, Plays, IsLook}

pub made_push : (calls : List Attempt) (call : Attempt) (bytes : List ℕ) → made_all (calls ++ call ∷ []) bytes ≡ made_by call (made_all calls bytes)
made_push [] call bytes = refl
made_push (first ∷ calls) call bytes = made_push calls call (made_by first bytes)

pub left_push : (calls : List Attempt) (call : Attempt) (bytes : List ℕ) (leaves : List ℕ → Type 0) (c : List ℕ) → left_all (calls ++ call ∷ []) bytes leaves c → left_by call (made_all calls bytes) (left_all calls bytes leaves) c
left_push [] call bytes leaves c now = now
left_push (first ∷ calls) call bytes leaves c now = left_push calls call (made_by first bytes) (left_by first bytes leaves) c now

-- a whole write is one of the steps
pub written_torn : (at : ℕ) (piece bytes : List ℕ) → at ≤ length bytes → Torn at (length piece) bytes (written at piece bytes)
written_torn at piece bytes le =
    let size : length (take at bytes) ≡ at = omega (arith, length-take at bytes, le) in
    let both : length (take at bytes ++ piece) ≡ at + length piece = omega (arith, size, length-append (take at bytes) piece) in
    let within : min at (length bytes) ≡ at = omega (arith, le) in
    let long : length (written at piece bytes) ≡ at + length piece + length (drop (at + length piece) bytes) = omega (arith, both, length-append (take at bytes ++ piece) (drop (at + length piece) bytes)) in
    record {
      before = ap (λ m. take m (written at piece bytes)) within ∙ ap (λ (l : List ℕ). take at l) (append_assoc (take at bytes) piece (drop (at + length piece) bytes)) ∙ take_at (take at bytes) (piece ++ drop (at + length piece) bytes) at size;
      after = drop_at (take at bytes ++ piece) (drop (at + length piece) bytes) (at + length piece) both;
      no_shorter = omega (arith, long, length-drop (at + length piece) bytes);
      no_longer = omega (arith, long, length-drop (at + length piece) bytes);
    }

-- and so is a whole cut
pub taken_cut : (n : ℕ) (bytes : List ℕ) → Cut n bytes (take n bytes)
taken_cut n bytes = record {
  no_shorter = omega (arith, length-take n bytes);
  front = sym (take_min n bytes) ∙ ap (λ m. take m bytes) (sym (length-take n bytes));
}

-- the images of one call are steps from those before it
abbrev pub Steps : List Attempt → List ℕ → Attempt → (List ℕ → List ℕ → Type 0) → Type 0
Steps calls first call R = (c : List ℕ) → left_by call (made_all calls first) (left_all calls first (λ d. d ≡ first)) c → (d : List ℕ) × left_all calls first (λ d. d ≡ first) d × R d c

module _ (calls : List Attempt) (first : List ℕ) where
  here : left_all calls first (λ d. d ≡ first) (made_all calls first)
  here = reads_image calls first (λ d. d ≡ first) refl

  pub look_steps : (look : Call) → IsLook look → Steps calls first (Made look) Same
  look_steps Len is c now = (c, now, refl)
  look_steps (Read at len) is c now = (c, now, refl)
  look_steps (Write at piece) is c now = absurd is
  look_steps (call.Cut len) is c now = absurd is
  look_steps Sync is c now = absurd is

  pub sync_steps : Steps calls first (Made Sync) Same
  sync_steps c now = (made_all calls first, here, now)

  pub write_steps : (at : ℕ) (piece : List ℕ) → at ≤ length (made_all calls first) → Steps calls first (Made (Write at piece)) (Torn at (length piece))
  write_steps at piece le c (inr came) = came
  write_steps at piece le c (inl is) = (made_all calls first, here, subst (Torn at (length piece) (made_all calls first)) (sym is) (written_torn at piece (made_all calls first) le))

  pub cut_steps : (len : ℕ) → Steps calls first (Made (call.Cut len)) (Cut len)
  cut_steps len c (inr came) = came
  cut_steps len c (inl is) = (made_all calls first, here, subst (Cut len (made_all calls first)) (sym is) (taken_cut len (made_all calls first)))

  pub failed_steps : (call : Call) (R : List ℕ → List ℕ → Type 0) → ((c : List ℕ) → R c c) → Steps calls first (Failed call) R
  failed_steps call R same c now = (c, now, same c)

  call_passes : (more : List Attempt) (call : Attempt) (R : List ℕ → List ℕ → Type 0) → more ≡ calls ++ call ∷ [] → Steps calls first call R
      → Passes (length calls) (length more) (image_at first calls) (image_at first more) R
  call_passes more call R is step =
      let size : length more ≡ length calls + 1 = ap length is ∙ omega (arith, length-append calls (call ∷ [])) in
      let early : (t : ℕ) → t ≤ length calls → take t more ≡ take t calls = λ t le. ap (λ (l : List Attempt). take t l) is ∙ take-append-le t calls (call ∷ []) le in
      record {
        later = omega (arith, size);
        stays = λ t c le now. subst (λ (l : List Attempt). left_all l first (λ d. d ≡ first) c) (early t le) now;
        keeps = λ t c le was. subst (λ (l : List Attempt). left_all l first (λ d. d ≡ first) c) (sym (early t le)) was;
        each = λ t c lt le now.
            let whole : take t more ≡ calls ++ call ∷ [] = take_all t more (omega (arith, lt, size)) ∙ is in
            let came = step c (left_push calls call first (λ d. d ≡ first) c (subst (λ (l : List Attempt). left_all l first (λ d. d ≡ first) c) whole now)) in
            (came.0, subst (λ (l : List Attempt). left_all l first (λ d. d ≡ first) came.0) (sym (all_taken calls)) came.1, came.2);
      }

  -- a call that wasn't put in the list
  none_passes : (more : List Attempt) (R : List ℕ → List ℕ → Type 0) → more ≡ calls → Passes (length calls) (length more) (image_at first calls) (image_at first more) R
  none_passes more R is = record {
    later = omega (arith, ap length is);
    stays = λ t c le now. subst (λ (l : List Attempt). image_at first l t c) is now;
    keeps = λ t c le was. subst (λ (l : List Attempt). image_at first l t c) (sym is) was;
    each = λ t c lt le now. absurd (omega (arith, lt, le, ap length is));
  }

  -- after a sync that succeeds
  synced_only : (more : List Attempt) → more ≡ calls ++ Made Sync ∷ [] → Only (made_all calls first) (image_at first more (length more))
  synced_only more is c now =
      let whole : take (length more) more ≡ calls ++ Made Sync ∷ [] = take_all (length more) more (omega arith) ∙ is in
      left_push calls (Made Sync) first (λ d. d ≡ first) c (subst (λ (l : List Attempt). left_all l first (λ d. d ≡ first) c) whole now)

made_more : (calls more : List Attempt) (call : Attempt) (first bytes now : List ℕ) → bytes ≡ made_all calls first → more ≡ calls ++ call ∷ [] → now ≡ made_by call bytes → now ≡ made_all more first
made_more calls more call first bytes now is pushed done =
    done ∙ ap (made_by call) is ∙ sym (made_push calls call first) ∙ ap (λ (l : List Attempt). made_all l first) (sym pushed)

-- one call of a tape, whatever it answers
module _ {T : Type 0} (injected : Bool) (call : Call) (old new : Contents) (calls more : List Attempt) where
  pub plays_replayed : (r : Result T Cause) → Plays injected call old new calls more r → old.bytes.items ≡ made_all calls (first_of old) → new.bytes.items ≡ made_all more (first_of new)
  plays_replayed (Ok v) plays is = made_more calls more (Made call) (first_of old) old.bytes.items new.bytes.items is plays.notes.1 plays.changes.0 ∙ ap (made_all more) (sym plays.first)
  plays_replayed (Err Injected) plays is = made_more calls more (Failed call) (first_of old) old.bytes.items new.bytes.items is plays.notes.1 plays.changes.0 ∙ ap (made_all more) (sym plays.first)
  plays_replayed (Err Memory) plays is = plays.changes.0 ∙ is ∙ (λ i. made_all (sym plays.notes i) (sym plays.first i))

  pub plays_pass : (R : List ℕ → List ℕ → Type 0) → ((c : List ℕ) → R c c) → Steps calls (first_of old) (Made call) R → (r : Result T Cause) → Plays injected call old new calls more r
      → Passes (length calls) (length more) (image_at (first_of old) calls) (image_at (first_of new) more) R
  plays_pass R same step r plays = subst (λ f. Passes (length calls) (length more) (image_at (first_of old) calls) (image_at f more) R) (sym plays.first) (by_answer r plays.notes)
    where
      by_answer : (r : Result T Cause) → NotesCall injected call calls more r → Passes (length calls) (length more) (image_at (first_of old) calls) (image_at (first_of old) more) R
      by_answer (Ok v) notes = call_passes calls (first_of old) more (Made call) R notes.1 step
      by_answer (Err Injected) notes = call_passes calls (first_of old) more (Failed call) R notes.1 (failed_steps calls (first_of old) call R same)
      by_answer (Err Memory) notes = none_passes calls (first_of old) more R notes

  pub plays_change : (R : List ℕ → List ℕ → Type 0) → ((c : List ℕ) → R c c) → R old.bytes.items (made call old.bytes.items) → (r : Result T Cause) → Plays injected call old new calls more r → R old.bytes.items new.bytes.items
  plays_change R same step (Ok v) plays = subst (R old.bytes.items) (sym plays.changes.0) step
  plays_change R same step (Err cause) plays = subst (R old.bytes.items) (sym plays.changes.0) (same old.bytes.items)

-- after a sync that succeeds, a crash leaves what a read gives
pub plays_kept : {T : Type 0} → (injected : Bool) (old new : Contents) (calls more : List Attempt) (r : Result T Cause) → Plays injected Sync old new calls more r → old.bytes.items ≡ made_all calls (first_of old)
    → OnOk r (Only new.bytes.items (image_at (first_of new) more (length more)))
plays_kept injected old new calls more (Ok v) plays is = λ c now.
    synced_only calls (first_of old) more plays.notes.1 c (subst (λ f. image_at f more (length more) c) plays.first now) ∙ sym is ∙ sym plays.changes.0
plays_kept injected old new calls more (Err cause) plays is = tt
