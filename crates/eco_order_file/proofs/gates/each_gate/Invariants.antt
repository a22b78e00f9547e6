use Rattle.std.proofs.Common.{◌≡◌, ◌++◌, drop, Ok}
use Rattle.serde_json.specs.View.{items_view}
use Rattle.eco_order_file.specs.Documents.{each, gate, ◌>>=◌}
use Rattle.eco_order_file.proofs.gates.each_gate.Given as goal

abbrev pub invariant-loop-place : goal.invariant-loop-place
invariant-loop-place l =
    each gate 0 (items_view l.items) ≡ (each gate l.place (items_view (drop l.place l.items)) >>= (λ more. Ok (l.gates.items ++ more)))
