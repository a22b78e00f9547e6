use Rattle.std.proofs.Common.{◌≡◌, ℕ, List, take, false}
use Rattle.std.specs.List.{list_any}
use Rattle.eco_common.specs.KnownNames.{knows}
use Rattle.eco_issued_laws.specs.Changes.{is_nil}
use Rattle.eco_overlay.specs.NetChanges.{moves_on, is_statement_of}
use Rattle.eco_overlay.proofs.coming.stated_nets.Given as goal

-- the names of the statements so far, of nets that get a pin
abbrev pub invariant-loop-net : goal.invariant-loop-net
invariant-loop-net l = (net : List ℕ) → is_nil (moves_on l.added net) ≡ false → knows l.names net ≡ list_any (is_statement_of l.text l.fn.either net) (take l.net-index l.nets)
