-- The clock of a disk in memory is the number of its calls, and its images are replayed from them.
use Rattle.std.specs.Prelude.{ℕ, List, length}
use Rattle.eco_disk.specs.declared.tape.Tape.{Tape}
use Rattle.eco_disk.specs.Contents.{first_of}
use Rattle.eco_disk.specs.Replay.{image_at}

abbrev pub moment_of : Tape → ℕ
moment_of tape = length tape.calls.items

abbrev pub image_of : Tape → ℕ → List ℕ → Type 0
image_of tape t c = image_at (first_of tape.contents) tape.calls.items t c
