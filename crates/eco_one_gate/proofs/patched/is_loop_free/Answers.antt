use Rattle.std.proofs.Common.{sym, subst, true≢false, refl}
use Rattle.eco_net.specs.Walks.{IsLoopFree}
use Rattle.eco_net.specs.Listing.{netlist}
use Rattle.eco_net.specs.LevelsOf.{LoopIs}
use Rattle.eco_net.proofs.Walks.{reported}
use Rattle.eco_one_gate.proofs.patched.is_loop_free.Goals as goal

pub returns-in-Ok : goal.returns-in-Ok
returns-in-Ok c = (λ t. subst IsLoopFree c.in_ok-patched.ensures c.in-Ok.ensures.ok.loop_free, λ f. refl)

pub returns-in-Err-Loop : goal.returns-in-Err-Loop
returns-in-Err-Loop c = (
  λ t. absurd (true≢false (sym t)),
  λ free. absurd (reported (netlist c.in_ok-patched.patched) c.in-Err-Loop.field-0-0 (subst (LoopIs (netlist c.in_ok-patched.patched)) c.in-Err-Loop.field-0-is c.in-Err-Loop.ensures.stop) (subst IsLoopFree (sym c.in_ok-patched.ensures) free)),
)
