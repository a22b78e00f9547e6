use Rattle.std.proofs.Common.{◌≡◌, ◌++◌, drop, Ok}
use Rattle.serde_json.specs.View.{items_view}
use Rattle.eco_order_file.specs.Documents.{each, move, ◌>>=◌}
use Rattle.eco_order_file.proofs.moves.each_move.Given as goal

abbrev pub invariant-loop-place : goal.invariant-loop-place
invariant-loop-place l =
    each move 0 (items_view l.items) ≡ (each move l.place (items_view (drop l.place l.items)) >>= (λ more. Ok (l.moves.items ++ more)))
