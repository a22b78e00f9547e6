use Rattle.std.proofs.Common.{◌≡◌, ◌++◌, drop, Ok}
use Rattle.serde_json.specs.View.{items_view}
use Rattle.eco_order_file.specs.Documents.{each, text, ◌>>=◌}
use Rattle.eco_order_file.proofs.values.each_text.Given as goal

abbrev pub invariant-loop-place : goal.invariant-loop-place
invariant-loop-place l =
    each text 0 (items_view l.items) ≡ (each text l.place (items_view (drop l.place l.items)) >>= (λ more. Ok (l.names.items ++ more)))
