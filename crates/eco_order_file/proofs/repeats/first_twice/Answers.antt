use Rattle.std.proofs.Common.{◌≡◌, ◌+◌, Bool, true, false, not, drop, ap, sym, ◌∙◌}
use Rattle.std.specs.List.{list_any}
use Rattle.std.specs.Ordering.{eq_by_cmp}
use Rattle.std.specs.BTreeMap.{is_at}
use Rattle.std.specs.BTreeSet.{contains}
use Rattle.eco_order_file.proofs.Again.{again_by, twice_from_none, seen_now, left_from}
use Rattle.eco_order_file.proofs.repeats.first_twice.Goals as goal

not_true : (a b : Bool) → a ≡ not b → a ≡ true → b ≡ false
not_true a true e f = e' where
  e' : true ≡ false
  e' = sym f ∙ e
not_true a false e f = Rattle.std.proofs.Common.refl

pub loop-key-init : goal.loop-key-init
loop-key-init g c =
    let cmp = g.K.Ord.cmp in
    twice_from_none (eq_by_cmp cmp) (contains cmp c.new-seen.result) c.args.keys.now (λ z. ap (list_any (is_at (cmp z))) c.new-seen.ensures.empty)

pub loop-key-preserved : goal.loop-key-preserved
loop-key-preserved g c =
    let cmp = g.K.Ord.cmp in
    let keys = c.args.keys.now in
    let i = c.loop-key.key-index in
    let x = c.key-item.result in
    c.loop-key.invariant ∙ ap (again_by (eq_by_cmp cmp) (contains cmp c.loop-key.seen)) (left_from keys i x c.loop-key-test.true c.key-item.is)
    ∙ seen_now (eq_by_cmp cmp) (contains cmp c.loop-key.seen) (contains cmp c.insert.new.self) x (drop (i + 1) keys)
    (not_true _ _ c.in_ok-insert.ensures.added c.if-not-branch.false) c.in_ok-insert.ensures.updates.0
