-- Faults that are reported.
use Rattle.std.proofs.Common.{◌≡◌, ℕ, List, Result, Err}
use Rattle.eco_lef.specs.declared.fault.LefFault.{LefFault}
use Rattle.eco_lef.specs.Reading.{Reading, left, Reads, Tells, Refuses, is_memory}
use Rattle.eco_lef.specs.Parsing.{Parser}
use Rattle.eco_text.proofs.Calls as words

pub told : {A : Type 0} (parsed : Result A LefFault) (fault e : LefFault) → parsed ≡ Err fault → Tells fault e → Refuses parsed e
told parsed fault e is tells = words.told is_memory parsed fault e is tells

-- a reading by one rule is one by another that gives the same here
pub reads_as : {A B : Type 0} (n : ℕ) (view : List ℕ → B → A) (p q : Parser A) (old new : Reading) (r : Result B LefFault) → p (left old) ≡ q (left old) → Reads n view p old new r → Reads n view q old new r
reads_as n view p q old new r same reads = words.reads_as is_memory n view p q old new r same reads
