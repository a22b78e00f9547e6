-- What a journal shows beside its entries.
use Rattle.std.specs.Prelude.{ℕ, Bool, true, false, Result, Ok, Err}
use Rattle.eco_disk.specs.declared.disk.Disk.{Ghosts}
use Rattle.eco_journal.specs.declared.standing.Standing.{Standing}
use Rattle.eco_journal.specs.declared.standing.Standing.TheVariants.{Settled, Behind, AtGate}
use Rattle.eco_journal.specs.declared.journal.Journal.{Journal}

abbrev pub disk_of : {D : Type 0} {g : Ghosts D} → Journal D g → D
disk_of journal = journal.disk

-- the place of the gate that ends the entries
abbrev pub gate_of : {D : Type 0} {g : Ghosts D} → Journal D g → ℕ
gate_of journal = journal.gate

-- whether an unfinished entry may stand after the last one, whole or in part
abbrev pub is_unfinished : Standing → Bool
is_unfinished Settled = false
is_unfinished Behind = true
is_unfinished AtGate = true

-- whether a fault of an append stands that wasn't mended
abbrev pub is_broken : {D : Type 0} {g : Ghosts D} → Journal D g → Bool
is_broken journal = is_unfinished journal.standing

-- the disk of a started journal, or the disk that a refusal returns
abbrev pub disk_after : {D T F : Type 0} {g : Ghosts D} → Result (Journal D g × T) (D × F) → D
disk_after (Ok started) = disk_of started.0
disk_after (Err refused) = refused.0
