-- Two netlists that mean the same.
use Rattle.std.specs.Prelude.{◌≡◌, ◌↔◌}
use Rattle.eco_net.specs.Netlist.{Netlist, Pin}
use Rattle.eco_net.specs.CutKeys.{CutKey, CutBits, IsCutKey, IsChoice}
use Rattle.eco_net.specs.Observables.{IsObservable, observed}
use Rattle.eco_net.specs.Valuation.{Valuation, IsValuation, HasOneValuation}
use Rattle.eco_net.specs.Walks.{IsLoopFree}

-- Both are loop-free, have the same nets, cut keys and observables, and for each choice of cut bits one valuation, which is
-- the same and has the same value at each observable.
pub record SameMeaning (N M : Netlist) : Type 0 where
  pub loop_free : IsLoopFree N × IsLoopFree M
  pub nets : N.nets ≡ M.nets
  pub keys : (key : CutKey) → IsCutKey N key ↔ IsCutKey M key
  pub observables : (p : Pin) → IsObservable N p ↔ IsObservable M p
  pub one : HasOneValuation N × HasOneValuation M
  pub agree : (cut : CutBits) (v w : Valuation) → IsChoice N cut → IsValuation N cut v → IsValuation M cut w → (v ≡ w) × ((p : Pin) → IsObservable N p → observed N v p ≡ observed M w p)
