use Rattle.std.proofs.Common.{◌≡◌, ℕ, List, ◌++◌, ◌||◌, map, take, false, true}
use Rattle.std.specs.List.{list_any}
use Rattle.eco_common.specs.KnownNames.{knows}
use Rattle.eco_issued_laws.specs.Changes.{is_nil}
use Rattle.eco_overlay.specs.PinMoves.{tops_net}
use Rattle.eco_overlay.specs.NetChanges.{moves_on, is_statement_of, nets_first_stated}
use Rattle.eco_overlay.proofs.coming.add_first_stated.Given as goal

-- the nets so far; of those that get a pin, the names are of nets with a statement or a top pin so far
abbrev pub invariant-loop-pin : goal.invariant-loop-pin
invariant-loop-pin l =
    (map (λ n. n.now) l.fresh.items ≡ map (λ n. n.now) l.initial.fresh.items ++ nets_first_stated l.text l.added l.nets (take l.pin-index l.pins))
    × ((net : List ℕ) → is_nil (moves_on l.added net) ≡ false → knows l.stated net ≡ (list_any (is_statement_of l.text true net) l.nets || tops_net l.text net (take l.pin-index l.pins)))
