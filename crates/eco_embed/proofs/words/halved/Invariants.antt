use Rattle.std.proofs.Common.{◌≡◌, ℕ, ◌+◌, ◌*◌, ◌<◌, if◌then◌else◌, length, get_or}
use Rattle.eco_func.specs.Tables.{bit}
use Rattle.eco_embed.proofs.words.halved.Given as goal

abbrev pub invariant-loop-place : goal.invariant-loop-place
invariant-loop-place l =
    (length l.left ≡ 32)
    × ((s : ℕ) → s < l.place → (r : ℕ) → bit (get_or l.left s 0) r ≡ (if bit l.column r then bit (get_or l.words (2 * s + 1) 0) r else bit (get_or l.words (2 * s) 0) r))
