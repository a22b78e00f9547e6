-- The place of a pin among moves that ascend.
use Rattle.std.specs.List.{AllByRecursion}
use Rattle.std.specs.List.Sorted.{IsStrictlySortedBy, IsNonDecreasingBy, IsPartitionPoint}
use Rattle.std.specs.Ordering.{is_eq, ordering_index}
use Rattle.std.proofs.Common.{◌≡◌, ℕ, zero, suc, ◌+◌, ◌<◌, true, false, List, [], ◌∷◌, length, map, get_or, Less, Greater, ap, sym, ◌∙◌, subst, arith, ⊎_elim}
use Rattle.std.proofs.lemmas.Bool.{cases_lt}
use Rattle.std.proofs.lemmas.Cmp.{tied_itself}
use Rattle.std.proofs.lemmas.List.Sorted.{searchable_from_sorted}
use Rattle.eco_def.specs.Named.{NamedJoint}
use Rattle.eco_overlay.specs.declared.pin_move.PinMove.{PinMove}
use Rattle.eco_overlay.specs.PinMoves.{moved_pin, pin_cmp, AreInOrder}
use Rattle.eco_overlay.proofs.Orders.{pin_total, move_before, not_back}

-- a pin before the others is before each of them
pub before_each : (j : NamedJoint) (ms : List PinMove) → AllByRecursion (λ k. pin_cmp j k ≡ Less) (map moved_pin ms) → (i : ℕ) (d : PinMove) → i < length ms → pin_cmp j (moved_pin (get_or ms i d)) ≡ Less
before_each j [] h i d lt = absurd (omega arith)
before_each j (m ∷ ms) h zero d lt = h.0
before_each j (m ∷ ms) h (suc i) d lt = before_each j ms h.1 i d (omega arith)

neighbours : (ms : List PinMove) → AreInOrder ms → (k : ℕ) (d : PinMove) → k + 1 < length ms → move_before (get_or ms (k + 1) d) (get_or ms k d) ≡ false
unfolding IsStrictlySortedBy
neighbours [] h k d lt = absurd (omega arith)
neighbours (m ∷ ms) h zero d lt =
    let n = get_or ms 0 d in
    not_back (pin_cmp (moved_pin n) (moved_pin m)) (pin_cmp (moved_pin m) (moved_pin n)) (pin_total.antisymm (moved_pin n) (moved_pin m)) (before_each (moved_pin m) ms h.0 0 d (omega arith))
neighbours (m ∷ ms) h (suc k) d lt =
    let e : suc k + 1 ≡ suc (k + 1) = omega arith in
    subst (λ n. move_before (get_or (m ∷ ms) n d) (get_or ms k d) ≡ false) (sym e) (neighbours ms h.1 k d (omega arith))

-- moves that ascend can be searched
pub searchable : (j : NamedJoint) (ms : List PinMove) → AreInOrder ms → IsNonDecreasingBy (λ m. ordering_index (pin_cmp (moved_pin m) j)) ms
searchable j ms h = searchable_from_sorted pin_total moved_pin ms j (λ k d _ lt. neighbours ms h k d lt)

pub is_equal : (j k : NamedJoint) → j ≡ k → is_eq (pin_cmp j k) ≡ true
is_equal j k e = ap (λ m. is_eq (pin_cmp j m)) (sym e) ∙ ap is_eq (tied_itself pin_total j)

-- a place between the lesser and the greater pins: none is the one that is looked for
pub none_between : (j : NamedJoint) (ms : List PinMove) (i : ℕ) → IsPartitionPoint (λ m. pin_cmp (moved_pin m) j ≡ Less) (λ m. pin_cmp (moved_pin m) j ≡ Greater) ms i →
    (k : ℕ) (d : PinMove) → k < length ms → moved_pin (get_or ms k d) ≡ j → ⊥
none_between j ms i point k d lt same =
    let on = is_equal (moved_pin (get_or ms k d)) j same in
    ⊎_elim (λ below. let off : true ≡ false = sym on ∙ ap is_eq (point.0 k d (omega arith) below) in cc) (λ above. let off : true ≡ false = sym on ∙ ap is_eq (point.1 k d above lt) in cc) (cases_lt k i)
