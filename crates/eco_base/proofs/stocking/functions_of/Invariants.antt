use Rattle.std.proofs.Common.{◌≡◌, map, take, Some}
use Rattle.eco_base.specs.Stocks.{entry_at}
use Rattle.eco_base.proofs.stocking.functions_of.Given as goal

-- the functions of the spares so far
abbrev pub invariant-loop-spare : goal.invariant-loop-spare
invariant-loop-spare l = map (λ f. Some f) l.functions.items ≡ map (λ s. entry_at l.texts s.comp) (take l.spare-index l.spares)
