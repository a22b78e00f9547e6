-- The orders of names and of pins.
use Rattle.std.specs.List.{AllByRecursion, IsDistinct}
use Rattle.std.specs.List.Sorted.{IsStrictlySortedBy, IsPermutation, IsSortedBy}
use Rattle.std.specs.Ordering.{is_lt, is_eq, ordering_then, ordering_reverse, nat_cmp}
use Rattle.std.specs.declared.cmp.Ordering.{Ordering}
use Rattle.std.specs.Cmp.{IsTotalOrder, IsStrictWeakOrder}
use Rattle.std.specs.Cmp.Lexicographic.{slice_cmp}
use Rattle.std.specs.Str.{bytes_eq}
use Rattle.std.proofs.Common.{◌≡◌, ℕ, nat_lt, Bool, true, false, ◌&&◌, List, [], ◌∷◌, map, Less, Equal, Greater, refl, ap, sym, ◌∙◌, arith, if◌then◌else◌}
use Rattle.std.proofs.lemmas.Cmp.{nat_list_cmp_total, then_total, on_total}
use Rattle.std.proofs.lemmas.List.Sorted.{ranks_by, IsPermutation-map}
use Rattle.std.proofs.lemmas.Map.Text.{is_eq-slice_cmp}
use Rattle.std.proofs.lemmas.Map.Keys.{IsDistinct-IsPermutation}
use Rattle.std.proofs.lemmas.Slice.Eq.{bytes_eq-Decides}
use Rattle.std.proofs.lemmas.Bool.Decides.{same_from_decides}
use Rattle.std.proofs.lemmas.Grind.{common_steps}
use Rattle.eco_def.specs.Named.{NamedJoint}
use Rattle.eco_issued_laws.specs.Changes.{precedes, pin_precedes}
use Rattle.eco_overlay.specs.declared.pin_move.PinMove.{PinMove}
use Rattle.eco_overlay.specs.PinMoves.{new_joint, moved_pin, pin_cmp, same_pin, ArePinsApart, AreInOrder}
use Rattle.eco_overlay.proofs.Sorting.{Ascends, IsLinear, ascends_sorted}

-- ---- names

pub eq_sym : (xs ys : List ℕ) → bytes_eq xs ys ≡ bytes_eq ys xs
eq_sym xs ys = same_from_decides (bytes_eq xs ys) (bytes_eq ys xs) (bytes_eq-Decides xs ys) (let d = bytes_eq-Decides ys xs in (λ on. sym (d.0 on), λ e. d.1 (sym e)))

pub same_bytes : (xs ys : List ℕ) → slice_cmp nat_cmp xs ys ≡ Equal → xs ≡ ys
same_bytes xs ys e = (bytes_eq-Decides xs ys).0 (sym (is_eq-slice_cmp xs ys) ∙ ap is_eq e)

first_is : (x y : ℕ) (p : Bool) (o : Ordering) → p ≡ is_lt o → (if nat_lt x y then true else (if nat_lt y x then false else p)) ≡ is_lt (ordering_then (nat_cmp x y) o)
first_is x y p o e = grind (arith, common_steps)

pub precedes_is : (xs ys : List ℕ) → precedes xs ys ≡ is_lt (slice_cmp nat_cmp xs ys)
precedes_is [] [] = refl
precedes_is (x ∷ xs) [] = refl
precedes_is [] (y ∷ ys) = refl
precedes_is (x ∷ xs) (y ∷ ys) = first_is x y (precedes xs ys) (slice_cmp nat_cmp xs ys) (precedes_is xs ys)

-- ---- pins

pub pin_total : IsTotalOrder pin_cmp
pin_total = then_total (on_total (λ (j : NamedJoint). j.comp) nat_list_cmp_total) (on_total (λ (j : NamedJoint). j.pin) nat_list_cmp_total)

then_equal : (r s : Ordering) → ordering_then r s ≡ Equal → (r ≡ Equal) × (s ≡ Equal)
then_equal Less s e = cc
then_equal Equal s e = (refl, e)
then_equal Greater s e = cc

pub pin_exact : (j k : NamedJoint) → pin_cmp j k ≡ Equal → j ≡ k
pin_exact j k e =
    let both = then_equal (slice_cmp nat_cmp j.comp k.comp) (slice_cmp nat_cmp j.pin k.pin) e in
    let a = same_bytes j.comp k.comp both.0 in
    let b = same_bytes j.pin k.pin both.1 in
    ap (λ c. let m : NamedJoint = record { comp = c; pin = j.pin } in m) a ∙ ap (λ p. let m : NamedJoint = record { comp = k.comp; pin = p } in m) b

then_less : (r s : Ordering) → (if is_eq r then is_lt s else is_lt r) ≡ is_lt (ordering_then r s)
then_less Less s = refl
then_less Equal s = refl
then_less Greater s = refl

pub pin_precedes_is : (j k : NamedJoint) → pin_precedes j k ≡ is_lt (pin_cmp j k)
pin_precedes_is j k =
    ap (λ b. if b then precedes j.pin k.pin else precedes j.comp k.comp) (sym (is_eq-slice_cmp j.comp k.comp))
    ∙ ap (λ b. if is_eq (slice_cmp nat_cmp j.comp k.comp) then b else precedes j.comp k.comp) (precedes_is j.pin k.pin)
    ∙ ap (λ b. if is_eq (slice_cmp nat_cmp j.comp k.comp) then is_lt (slice_cmp nat_cmp j.pin k.pin) else b) (precedes_is j.comp k.comp)
    ∙ then_less (slice_cmp nat_cmp j.comp k.comp) (slice_cmp nat_cmp j.pin k.pin)

-- ---- a test that an order answers is linear

neither : (r s : Ordering) → r ≡ ordering_reverse s → is_lt r ≡ false → is_lt s ≡ false → r ≡ Equal
neither Less s e a b = cc
neither Equal s e a b = refl
neither Greater Less e a b = cc
neither Greater Equal e a b = cc
neither Greater Greater e a b = cc

pub linear_by : {A : Type 0} (before : A → A → Bool) (R : A → A → Ordering) → IsTotalOrder R → ((x y : A) → R x y ≡ Equal → x ≡ y) → ((x y : A) → before x y ≡ is_lt (R x y)) → IsLinear before
linear_by {A} before R total exact is =
    let w : IsStrictWeakOrder (λ x y. is_lt (R x y)) = ranks_by total (λ (x : A). x) in
    record {
      weak = record {
        one_way = λ x y e. is y x ∙ w.one_way x y (sym (is x y) ∙ e);
        chain = λ x y z a b. is x z ∙ w.chain x y z (sym (is x y) ∙ a) (sym (is y z) ∙ b);
      };
      same = λ x y a b. exact x y (neither (R x y) (R y x) (total.antisymm x y) (sym (is x y) ∙ a) (sym (is y x) ∙ b));
    }

pub names_linear : IsLinear precedes
names_linear = linear_by precedes (slice_cmp nat_cmp) nat_list_cmp_total same_bytes precedes_is

pub pins_linear : IsLinear pin_precedes
pins_linear = linear_by pin_precedes pin_cmp pin_total pin_exact pin_precedes_is

-- ---- sorted moves

abbrev pub move_before : PinMove → PinMove → Bool
move_before m n = is_lt (pin_cmp (moved_pin m) (moved_pin n))

pub moves_weak : IsStrictWeakOrder move_before
moves_weak = ranks_by pin_total moved_pin

same_pins : (j k : NamedJoint) → j ≡ k → (bytes_eq j.comp k.comp && bytes_eq j.pin k.pin) ≡ true
same_pins j k e = rw ((bytes_eq-Decides j.comp k.comp).1 (ap (λ m. m.comp) e), (bytes_eq-Decides j.pin k.pin).1 (ap (λ m. m.pin) e)) refl

less_of : (m n : PinMove) → move_before n m ≡ false → same_pin (new_joint m) (new_joint n) ≡ false → pin_cmp (moved_pin m) (moved_pin n) ≡ Less
less_of m n a b = at (pin_cmp (moved_pin m) (moved_pin n)) (pin_cmp (moved_pin n) (moved_pin m)) refl (pin_total.antisymm (moved_pin m) (moved_pin n)) a
  where
    equal : pin_cmp (moved_pin m) (moved_pin n) ≡ Equal → ⊥
    equal e = let apart : true ≡ false = sym (same_pins (moved_pin m) (moved_pin n) (pin_exact (moved_pin m) (moved_pin n) e)) ∙ b in cc

    at : (r s : Ordering) → pin_cmp (moved_pin m) (moved_pin n) ≡ r → r ≡ ordering_reverse s → is_lt s ≡ false → r ≡ Less
    at Less s is e off = refl
    at Equal s is e off = absurd (equal is)
    at Greater Less is e off = cc
    at Greater Equal is e off = cc
    at Greater Greater is e off = cc

all_less : (m : PinMove) (ns : List PinMove) → AllByRecursion (λ n. move_before n m ≡ false) ns → AllByRecursion (λ k. same_pin (new_joint m) k ≡ false) (map new_joint ns) → AllByRecursion (λ j. pin_cmp (moved_pin m) j ≡ Less) (map moved_pin ns)
all_less m [] a b = tt
all_less m (n ∷ ns) a b = (less_of m n a.0 b.0, all_less m ns a.1 b.1)

strictly : (ms : List PinMove) → Ascends move_before ms → ArePinsApart (map new_joint ms) → AreInOrder ms
unfolding IsStrictlySortedBy IsDistinct
strictly [] up apart = tt
strictly (m ∷ ms) up apart = (all_less m ms up.0 apart.0, strictly ms up.1 apart.1)

-- moves of different pins ascend after a sort
pub sorted_moves : (old new : List PinMove) → ArePinsApart (map new_joint old) → IsPermutation old new → IsSortedBy move_before new → AreInOrder new
sorted_moves old new apart moved sorted =
    strictly new (ascends_sorted move_before moves_weak new sorted)
    (IsDistinct-IsPermutation same_pin (λ n k. ap (λ b. b && bytes_eq n.pin k.pin) (eq_sym n.comp k.comp) ∙ ap (λ b. bytes_eq k.comp n.comp && b) (eq_sym n.pin k.pin)) (map new_joint old) (map new_joint new)
    (IsPermutation-map new_joint old new moved) apart)

-- pins that ascend are in the order of the definition
pub not_back : (r s : Ordering) → r ≡ ordering_reverse s → s ≡ Less → is_lt r ≡ false
not_back Less Less e a = cc
not_back Less Equal e a = cc
not_back Less Greater e a = cc
not_back Equal s e a = refl
not_back Greater s e a = refl

pins_behind : (j : NamedJoint) (ks : List NamedJoint) → AllByRecursion (λ k. pin_cmp j k ≡ Less) ks → AllByRecursion (λ k. pin_precedes k j ≡ false) ks
pins_behind j [] all = tt
pins_behind j (k ∷ ks) all = (pin_precedes_is k j ∙ not_back (pin_cmp k j) (pin_cmp j k) (pin_total.antisymm k j) all.0, pins_behind j ks all.1)

pub pins_ascend : (js : List NamedJoint) → IsStrictlySortedBy pin_cmp js → Ascends pin_precedes js
unfolding IsStrictlySortedBy
pins_ascend [] up = tt
pins_ascend (j ∷ js) up = (pins_behind j js up.0, pins_ascend js up.1)
