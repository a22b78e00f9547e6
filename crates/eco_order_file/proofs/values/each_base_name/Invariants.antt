use Rattle.std.proofs.Common.{◌≡◌, ◌++◌, drop, Ok, length}
use Rattle.serde_json.specs.View.{items_view}
use Rattle.eco_order_file.specs.Documents.{each, base_name, ◌>>=◌}
use Rattle.eco_order_file.proofs.values.each_base_name.Given as goal

abbrev pub invariant-loop-place : goal.invariant-loop-place
invariant-loop-place l = record {
  said : each base_name 0 (items_view l.items) ≡ (each base_name l.place (items_view (drop l.place l.items)) >>= (λ more. Ok (l.names.items ++ more)));
  count : length l.names.items ≡ l.place;
}
