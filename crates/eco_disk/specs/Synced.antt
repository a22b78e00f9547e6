-- What a disk in memory had at its last sync, by what it has now: the same where nothing is kept apart.
use Rattle.std.specs.Prelude.{◌≡◌, ◌≤◌, ℕ, List, length, take, Option, Some, None, IfSome}
use Rattle.eco_disk.specs.declared.synced.Synced.{Synced}

abbrev pub kept_in : List ℕ → Option Synced → List ℕ
kept_in now None = now
kept_in now (Some synced) = synced.bytes.items

-- what was kept and what is there now are the same below the place that is noted
abbrev pub Agrees : List ℕ → Option Synced → Type 0
Agrees now synced = IfSome synced (λ s. (s.agree ≤ length now) × (take s.agree s.bytes.items ≡ take s.agree now))

-- what was kept stands apart from changes from this place on
abbrev pub IsParted : ℕ → Option Synced → Type 0
IsParted at None = ⊥
IsParted at (Some synced) = synced.agree ≤ at
