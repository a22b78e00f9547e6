-- Sources and sinks in memory.
use Rattle.std.specs.Prelude.{◌≡◌, ℕ, ◌==◌, Bool, List}
use Rattle.std.specs.List.{list_any}
use Rattle.eco_common.specs.Causes.{next_count}

-- bytes that are left to read or were taken; the numbers, from 1, of the calls that fail; how many calls there were, and how many failed
pub record InMemory : Type 0 where
  pub bytes : List ℕ
  pub failing : List ℕ
  pub calls : ℕ
  pub faults : ℕ

-- the next call is one of those that fail
abbrev pub is_due : InMemory → Bool
is_due m = list_any (λ n. n == next_count m.calls) m.failing

-- one more call, under the same numbers
pub record CountsCall (old new : InMemory) : Type 0 where
  pub failing : new.failing ≡ old.failing
  pub calls : new.calls ≡ next_count old.calls
