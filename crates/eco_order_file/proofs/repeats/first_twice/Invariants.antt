use Rattle.std.proofs.Common.{◌≡◌, drop}
use Rattle.std.specs.Ordering.{eq_by_cmp}
use Rattle.std.specs.BTreeSet.{contains}
use Rattle.eco_order_file.specs.Repeats.{first_twice}
use Rattle.eco_order_file.proofs.Again.{again_by}
use Rattle.eco_order_file.proofs.repeats.first_twice.Given as goal

abbrev pub invariant-loop-key : goal.invariant-loop-key
invariant-loop-key g l = first_twice (eq_by_cmp g.K.Ord.cmp) l.keys ≡ again_by (eq_by_cmp g.K.Ord.cmp) (contains g.K.Ord.cmp l.seen) (drop l.key-index l.keys)
