use Rattle.std.proofs.Common.{◌≡◌, [], true, take}
use Rattle.eco_overlay.specs.NetChanges.{of_kind}
use Rattle.eco_overlay.proofs.issuing.is_before_special.Given as goal

-- none of the statements so far is of SPECIALNETS
abbrev pub invariant-loop-net : goal.invariant-loop-net
invariant-loop-net l = of_kind true (take l.net-index l.nets) ≡ []
