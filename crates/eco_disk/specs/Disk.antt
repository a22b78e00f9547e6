-- What the calls of a disk do to what it holds, and what a crash may leave.
use Rattle.std.specs.Prelude.{◌<◌, ◌≡◌, ℕ, ◌+◌, ◌≤◌, min, max, List, ◌++◌, length, take, drop, Option, Some, None}

-- P of the contents, where the disk reports them: an honest disk does, and one that isn't may report nothing
abbrev pub OnTold : Option (List ℕ) → (List ℕ → Type 0) → Type 0
OnTold None P = Unit {0}
OnTold (Some bytes) P = P bytes

-- reported contents go on to reported contents by R, and unreported ones stay unreported
abbrev pub GoesOn : Option (List ℕ) → Option (List ℕ) → (List ℕ → List ℕ → Type 0) → Type 0
GoesOn None now R = now ≡ None
GoesOn (Some before) now R = (bytes : List ℕ) × (now ≡ Some bytes) × R before bytes

-- reported contents stay reported, whatever they are
abbrev pub StaysTold : Option (List ℕ) → Option (List ℕ) → Type 0
StaysTold before now = GoesOn before now (λ old new. Unit {0})

-- these bytes with the piece at this place
abbrev pub written : ℕ → List ℕ → List ℕ → List ℕ
written at piece bytes = take at bytes ++ piece ++ drop (at + length piece) bytes

-- After a write of n bytes that a crash cuts short: any bytes in the range and past the old end, the others as they were.
pub record Torn (at n : ℕ) (old new : List ℕ) : Type 0 where
  pub before : take (min at (length old)) new ≡ take at old
  pub after : drop (at + n) new ≡ drop (at + n) old
  pub no_shorter : length old ≤ length new
  pub no_longer : length new ≤ max (length old) (at + n)

-- After a cut that a crash cuts short: some length between.
pub record Cut (n : ℕ) (old new : List ℕ) : Type 0 where
  pub no_shorter : min n (length old) ≤ length new
  pub front : new ≡ take (length new) old

abbrev pub Same : List ℕ → List ℕ → Type 0
Same old new = new ≡ old

-- Time goes on from one moment to another. The images of the moments up to the first stay as they were, and those
-- of the moments after it come from images of the first by a step.
pub record Passes (before now : ℕ) (past present : ℕ → List ℕ → Type 0) (step : List ℕ → List ℕ → Type 0) : Type 0 where
  pub later : before ≤ now
  pub stays : (t : ℕ) (c : List ℕ) → t ≤ before → present t c → past t c
  pub keeps : (t : ℕ) (c : List ℕ) → t ≤ before → past t c → present t c
  pub each : (t : ℕ) (c : List ℕ) → before < t → t ≤ now → present t c → (d : List ℕ) × past before d × step d c

-- the images of a disk after a call come from those before it by a step
abbrev pub Follows : {D : Type 0} → (D → ℕ) → (D → ℕ → List ℕ → Type 0) → D → D → (List ℕ → List ℕ → Type 0) → Type 0
Follows moment image old new step = Passes (moment old) (moment new) (image old) (image new) step

-- a crash leaves this and nothing else
abbrev pub Only : List ℕ → (List ℕ → Type 0) → Type 0
Only bytes leaves = (c : List ℕ) → leaves c → c ≡ bytes

-- after a sync that succeeds, a crash leaves what a read gives
abbrev pub IsKept : Option (List ℕ) → (List ℕ → Type 0) → Type 0
IsKept contents leaves = OnTold contents (λ bytes. Only bytes leaves)

-- From one moment to another, each image has P. Those of the moments up to the first stay as they were.
pub record During (before now : ℕ) (past present : ℕ → List ℕ → Type 0) (P : List ℕ → Type 0) : Type 0 where
  pub later : before ≤ now
  pub stays : (t : ℕ) (c : List ℕ) → t ≤ before → present t c → past t c
  pub keeps : (t : ℕ) (c : List ℕ) → t ≤ before → past t c → present t c
  pub each : (t : ℕ) (c : List ℕ) → before ≤ t → t ≤ now → present t c → P c

-- the contents are reported and have P, and so does each image
pub record Has (contents : Option (List ℕ)) (leaves : List ℕ → Type 0) (P : List ℕ → Type 0) : Type 0 where
  pub bytes : List ℕ
  pub told : contents ≡ Some bytes
  pub form : P bytes
  pub each : (c : List ℕ) → leaves c → P c

-- the same of a disk, from before a call to after it
abbrev pub LeavesOnly : {D : Type 0} → (D → ℕ) → (D → ℕ → List ℕ → Type 0) → D → D → (List ℕ → Type 0) → Type 0
LeavesOnly moment image old new P = During (moment old) (moment new) (image old) (image new) P

abbrev pub Holds : {D : Type 0} → (D → Option (List ℕ)) → (D → ℕ) → (D → ℕ → List ℕ → Type 0) → D → (List ℕ → Type 0) → Type 0
Holds contents moment image disk P = Has (contents disk) (image disk (moment disk)) P
