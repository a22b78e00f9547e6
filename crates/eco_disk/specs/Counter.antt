-- How a disk in memory counts.
use Rattle.std.specs.Prelude.{◌≡◌, ◌==◌, ℕ, Bool, List, Result, Ok, Err, IsErr}
use Rattle.std.specs.List.{list_any}
use Rattle.eco_common.specs.Causes.{next_count}
use Rattle.eco_disk.specs.declared.counter.Counter.{Counter}
use Rattle.eco_disk.specs.declared.counter.Cause.{Cause}
use Rattle.eco_disk.specs.declared.counter.Cause.TheVariants.{Injected, Memory}

-- whether the call with this number is to fail
abbrev pub is_injected : List ℕ → ℕ → Bool
is_injected failing number = list_any (λ one. one == number) failing

-- a fault is counted by its cause, and nothing else is
abbrev pub Tells : {T E : Type 0} → Counter → Counter → Result T Cause → Result T E → Type 0
Tells old new (Ok value) answer = (answer ≡ Ok value) × (new ≡ old)
Tells old new (Err Injected) answer = IsErr answer × (new ≡ record old { faults = next_count old.faults })
Tells old new (Err Memory) answer = IsErr answer × (new ≡ record old { faults = next_count old.faults; starved = next_count old.starved })
