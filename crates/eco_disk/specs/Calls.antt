-- The calls of a disk, one after another.
use Rattle.std.specs.Prelude.{◌≡◌, List, [], ◌++◌, Bool, true, false, not, Option, Some, Result, OnOk}
use Rattle.std.specs.List.{filter}
use Rattle.std.specs.Option.{option_map}
use Rattle.eco_disk.specs.declared.call.Call.{Call}
use Rattle.eco_disk.specs.declared.call.Call.TheVariants.{Len, Read, Write, Cut, Sync}

-- The list of calls goes on by these, whether they failed or not. A disk may stop telling the list, and one that
-- doesn't report it goes on so.
pub record Makes (old new : Option (List Call)) (calls : List Call) : Type 0 where
  pub goes_on : (all : List Call) → new ≡ Some all → (before : List Call) × (old ≡ Some before) × (all ≡ before ++ calls)

-- These calls are made in order: all of them by Ok, and by an error a front of them.
pub record MakesInOrder {T E : Type 0} (old new : Option (List Call)) (calls : List Call) (result : Result T E) : Type 0 where
  pub made : List Call
  pub left : List Call
  pub in_order : calls ≡ made ++ left
  pub makes : Makes old new made
  pub whole : OnOk result (left ≡ [])

-- a call that neither changes nor keeps anything
abbrev pub is_look : Call → Bool
is_look Len = true
is_look (Read at len) = true
is_look (Write at piece) = false
is_look (Cut len) = false
is_look Sync = false

-- the writes, cuts and syncs of a list of calls
abbrev pub changes : List Call → List Call
changes calls = filter (λ call. not (is_look call)) calls

abbrev pub changes_of : Option (List Call) → Option (List Call)
changes_of told = option_map changes told
