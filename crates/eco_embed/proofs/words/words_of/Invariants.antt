use Rattle.std.proofs.Common.{◌≡◌, ℕ, ◌<◌, length, get_or}
use Rattle.eco_func.specs.Tables.{at}
use Rattle.eco_func.specs.Tables.{bit}
use Rattle.eco_embed.proofs.words.words_of.Given as goal

abbrev pub invariant-loop-row : goal.invariant-loop-row
invariant-loop-row l = (length l.words ≡ 64) × ((s : ℕ) → s < l.row → (r : ℕ) → r < 64 → bit (get_or l.words s 0) r ≡ at l.table s)
