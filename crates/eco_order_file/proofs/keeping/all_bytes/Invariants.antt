use Rattle.std.proofs.Common.{◌≡◌, ◌++◌, drop, map}
use Rattle.eco_order_file.proofs.keeping.all_bytes.Given as goal

abbrev pub invariant-loop-name : goal.invariant-loop-name
invariant-loop-name l = map (λ k. k.now) l.keys.items ++ (drop l.name-index l.names) ≡ l.names
