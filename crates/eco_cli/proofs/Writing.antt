-- What a sink holds that a plan was written to.
use Rattle.std.proofs.Common.{◌≡◌, ℕ, List, [], Option, Result, Ok, Err, ◌∙◌}
use Rattle.eco_common.specs.Causes.{HasCause}
use Rattle.eco_text.specs.Writing.{Writes}
use Rattle.eco_common.specs.declared.failed.Failed.{Failed}
use Rattle.eco_text.proofs.Sequence.{appends_nothing}

pub finishes : {K : Type 0} (taken : K → Option (List ℕ)) (faults : K → ℕ) (mid new : K) (r : Result (Unit {0}) Failed) → taken new ≡ taken mid → HasCause (faults mid) (faults new) r → Writes taken faults mid new r []
finishes taken faults mid new (Ok x) same cause = record { bytes_taken = same ∙ appends_nothing (taken mid); cause = cause }
finishes taken faults mid new (Err e) same cause = record { bytes_taken = (0, same ∙ appends_nothing (taken mid)); cause = cause }
