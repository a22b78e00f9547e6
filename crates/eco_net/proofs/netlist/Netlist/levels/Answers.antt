use Rattle.std.proofs.Common.{◌≡◌, ◌<◌, ◌++◌, sym, subst, map, take, drop, length, List, ℕ}
use Rattle.std.specs.List.{All}
use Rattle.eco_net.specs.Walks.{IsClosedWalk}
use Rattle.eco_net.specs.Listing.{netlist, net_name}
use Rattle.eco_net.specs.Search.{IsEvaluationOrder, IsRing, StopIs}
use Rattle.eco_net.specs.Rings.{IsLeastAt}
use Rattle.eco_net.proofs.Orders.{order_loop_free}
use Rattle.eco_net.proofs.Rotated.{all_of, ring_known, closed_walk}
use Rattle.eco_net.proofs.netlist.Netlist.levels.Goals as goal

pub least-first-requires-clause-known : goal.least-first-requires-clause-known
least-first-requires-clause-known c =
    let L = c.args.self.now in
    let r : IsRing L c.in-Err-Ring.ring.items = subst (StopIs L) c.in-Err-Ring.field-0-is c.in-Err-Ring.ensures.stop in
    subst (All (λ n. n < length L.nets)) (sym c.deref-in-Err-Ring.ensures.value) (all_of (λ n. n < length L.nets) c.in-Err-Ring.ring.items (ring_known L c.in-Err-Ring.ring.items r))

pub names_from-requires-clause-known : goal.names_from-requires-clause-known
names_from-requires-clause-known c =
    let L = c.args.self.now in
    let r : IsRing L c.in-Err-Ring.ring.items = subst (StopIs L) c.in-Err-Ring.field-0-is c.in-Err-Ring.ensures.stop in
    subst (All (λ n. n < length L.nets)) (sym c.deref-in-Err-Ring-2.ensures.value) (all_of (λ n. n < length L.nets) c.in-Err-Ring.ring.items (ring_known L c.in-Err-Ring.ring.items r))

pub depth-requires : goal.depth-requires
depth-requires c = subst (IsEvaluationOrder c.args.self.now) (sym c.deref.ensures.value) c.in-Ok.ensures.ok

pub returns-in_ok-depth-in-Ok-clause-ok : goal.returns-in_ok-depth-in-Ok-clause-ok
returns-in_ok-depth-in-Ok-clause-ok c =
    let L = c.args.self.now in
    let o : IsEvaluationOrder L c.in-Ok.order.items = c.in-Ok.ensures.ok in
    record { ordered = o; loop_free = order_loop_free L c.facts.ensures.listing c.in-Ok.order.items o; depth = c.in_ok-depth-in-Ok.ensures }

pub returns-in_ok-nets-in-Err-Ring-clause-stop : goal.returns-in_ok-nets-in-Err-Ring-clause-stop
returns-in_ok-nets-in-Err-Ring-clause-stop c =
    let L = c.args.self.now in
    let r : IsRing L c.in-Err-Ring.ring.items = subst (StopIs L) c.in-Err-Ring.field-0-is c.in-Err-Ring.ensures.stop in
    let d : c.deref-in-Err-Ring-2.result.now ≡ c.in-Err-Ring.ring.items = c.deref-in-Err-Ring-2.ensures.value in
    let l : IsLeastAt L.nets c.in-Err-Ring.ring.items (length c.in-Err-Ring.ring.items) c.least-first.result = subst (λ (xs : List ℕ). IsLeastAt L.nets xs (length xs) c.least-first.result) c.deref-in-Err-Ring.ensures.value c.least-first.ensures in
    subst (IsClosedWalk (netlist L)) (sym c.in_ok-nets-in-Err-Ring.ensures)
    (subst (λ (xs : List ℕ). IsClosedWalk (netlist L) (map (net_name L.nets) (drop c.least-first.result xs ++ take c.least-first.result xs))) (sym d)
    (closed_walk L c.facts.ensures.listing c.in-Err-Ring.ring.items c.least-first.result r l))
