-- What a read of a disk in memory gives is one of its images.
use Rattle.std.specs.Prelude.{◌≡◌, ℕ, List, [], ◌∷◌, length, take, Option, Some, unwrap_or, refl}
use Rattle.std.proofs.Common.{inl, sym, ◌∙◌, ap, subst}
use Rattle.eco_disk.specs.declared.call.Call.{Call}
use Rattle.eco_disk.specs.declared.call.Call.TheVariants.{Len, Read, Write, Cut, Sync}
use Rattle.eco_disk.specs.declared.call.Attempt.{Attempt}
use Rattle.eco_disk.specs.declared.call.Attempt.TheVariants.{Made, Failed}
use Rattle.eco_disk.specs.Replay.{made, made_by, made_all, left, left_by, left_all, image_at}

made_left : (call : Call) (bytes : List ℕ) (leaves : List ℕ → Type 0) → leaves bytes → left call bytes leaves (made call bytes)
made_left Len bytes leaves now = now
made_left (Read at len) bytes leaves now = now
made_left (Write at piece) bytes leaves now = inl refl
made_left (Cut len) bytes leaves now = inl refl
made_left Sync bytes leaves now = refl

tried_left : (attempt : Attempt) (bytes : List ℕ) (leaves : List ℕ → Type 0) → leaves bytes → left_by attempt bytes leaves (made_by attempt bytes)
tried_left (Made call) bytes leaves now = made_left call bytes leaves now
tried_left (Failed call) bytes leaves now = now

pub reads_image : (attempts : List Attempt) (bytes : List ℕ) (leaves : List ℕ → Type 0) → leaves bytes → left_all attempts bytes leaves (made_all attempts bytes)
reads_image [] bytes leaves now = now
reads_image (attempt ∷ attempts) bytes leaves now = reads_image attempts (made_by attempt bytes) (left_by attempt bytes leaves) (tried_left attempt bytes leaves now)

pub all_taken : (attempts : List Attempt) → take (length attempts) attempts ≡ attempts
all_taken [] = refl
all_taken (attempt ∷ attempts) = ap (λ (l : List Attempt). attempt ∷ l) (all_taken attempts)

-- at the present moment
pub reads_now : (attempts : List Attempt) (first now bytes : List ℕ) → now ≡ made_all attempts first → Some now ≡ Some bytes → image_at first attempts (length attempts) bytes
reads_now attempts first now bytes is told =
    let same : bytes ≡ made_all attempts first = sym (ap (λ (o : Option (List ℕ)). unwrap_or o []) told) ∙ is in
    subst (λ (l : List Attempt). left_all l first (λ d. d ≡ first) bytes) (sym (all_taken attempts))
    (subst (left_all attempts first (λ d. d ≡ first)) (sym same) (reads_image attempts first (λ d. d ≡ first) refl))
