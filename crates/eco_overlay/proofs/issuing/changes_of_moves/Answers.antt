use Rattle.std.proofs.Common.{sym, subst, map, Bor, ℕ, List}
use Rattle.eco_overlay.specs.PinMoves.{AreInOrder}
use Rattle.eco_overlay.specs.declared.net_changes.NetChanges.{NetChanges}
use Rattle.eco_overlay.proofs.Changing.{still_in_order, changes_are}
use Rattle.eco_overlay.proofs.issuing.changes_of_moves.Goals as goal

pub returns-clause-changes : goal.returns-clause-changes
returns-clause-changes c =
    let k : NetChanges = record { moves = c.ordered_moves-moves.result; added = c.in_ok-added.added; ordinary = c.in_ok-ordinary.ordinary; fresh = c.sort_names.new.names } in
    let marked = rw c.as_slice-nets.ensures at c.ordered_moves-moves.ensures in
    changes_are c.args.text.now c.args.design.now c.args.moves.items k (map (λ (n : Bor (List ℕ)). n.now) c.args.fresh.items) c.add_first_stated.new.fresh.items c.requires.unmarked marked
    (rw c.deref.ensures.value at c.in_ok-added.ensures) (rw c.as_slice-nets.ensures at c.in_ok-ordinary.ensures) (rw (c.as_slice-nets.ensures, c.as_slice.ensures) at c.in_ok-add_first_stated.ensures)
    c.sort_names.ensures.permutation c.sort_names.ensures.order

pub returns-clause-order : goal.returns-clause-order
returns-clause-order c =
    let marked = rw c.as_slice-nets.ensures at c.ordered_moves-moves.ensures in
    subst AreInOrder (sym marked.marks) (still_in_order c.args.text.now c.args.design.now.nets marked.sorted marked.order)
