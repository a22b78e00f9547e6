use Rattle.std.proofs.Common.{◌≡◌, ◌≤◌, drop}
use Rattle.eco_common.specs.declared.limits.TheConstants.{MAX_MILLIONTHS}
use Rattle.eco_text.specs.Numbers.{digits_behind, at_most}
use Rattle.eco_text.proofs.numbers.read_millionths.Given as goal

abbrev pub invariant-loop-digit : goal.invariant-loop-digit
invariant-loop-digit l =
    (l.number ≤ MAX_MILLIONTHS) × (at_most MAX_MILLIONTHS (digits_behind l.number (drop l.digit-index l.digits)) ≡ at_most MAX_MILLIONTHS (digits_behind l.before l.digits))
