-- One joint among moves that ascend: at most one of them is of its pin.
use Rattle.std.specs.Str.{bytes_eq}
use Rattle.std.specs.List.{AllByRecursion}
use Rattle.std.specs.List.Sorted.{IsStrictlySortedBy}
use Rattle.std.specs.Ordering.{is_eq}
use Rattle.std.proofs.Common.{◌≡◌, ℕ, zero, suc, ◌<◌, Bool, true, false, not, ◌&&◌, ◌||◌, List, [], ◌∷◌, length, map, get_or, slice_set, Less, refl, ap, sym, ◌∙◌, subst, arith}
use Rattle.std.proofs.lemmas.Slice.Eq.{bytes_eq-Decides}
use Rattle.eco_def.specs.Named.{NamedJoint}
use Rattle.eco_issued_laws.specs.Changes.{NewJoint, is_no_component, is_joint_of, stays_on, pin_joint}
use Rattle.eco_overlay.specs.declared.pin_move.PinMove.{PinMove}
use Rattle.eco_overlay.specs.PinMoves.{new_joint, moved_pin, pin_cmp, marked, AreInOrder}
use Rattle.eco_overlay.proofs.Orders.{eq_sym}
use Rattle.eco_overlay.proofs.Places.{before_each, is_equal}

-- ---- whether a joint is of a moved pin

top_off : (n : NewJoint) (j : NamedJoint) → is_no_component j.comp ≡ true → is_joint_of n j ≡ false
top_off n j top = rw top refl

is_of_same : (n : NewJoint) (j : NamedJoint) → is_no_component j.comp ≡ false → pin_joint n ≡ j → is_joint_of n j ≡ true
is_of_same n j comp same = rw (comp, (bytes_eq-Decides n.comp j.comp).1 (ap (λ k. k.comp) same), (bytes_eq-Decides n.pin j.pin).1 (ap (λ k. k.pin) same)) refl

both : (a b c : Bool) → (not a && (b && c)) ≡ true → (b ≡ true) × (c ≡ true)
both true b c e = cc
both false true true e = (refl, refl)
both false true false e = cc
both false false c e = cc

of_same : (n : NewJoint) (j : NamedJoint) → is_joint_of n j ≡ true → pin_joint n ≡ j
of_same n j on =
    let e = both (is_no_component j.comp) (bytes_eq n.comp j.comp) (bytes_eq n.pin j.pin) on in
    let a = (bytes_eq-Decides n.comp j.comp).0 e.0 in
    let b = (bytes_eq-Decides n.pin j.pin).0 e.1 in
    ap (λ c. let m : NamedJoint = record { comp = c; pin = n.pin } in m) a ∙ ap (λ p. let m : NamedJoint = record { comp = j.comp; pin = p } in m) b

off_from : (b : Bool) → (b ≡ true → ⊥) → b ≡ false
off_from true f = absurd (f refl)
off_from false f = refl

of_other : (n : NewJoint) (j : NamedJoint) → (pin_joint n ≡ j → ⊥) → is_joint_of n j ≡ false
of_other n j apart = off_from (is_joint_of n j) (λ on. apart (of_same n j on))

less_apart : (j k : NamedJoint) → pin_cmp j k ≡ Less → j ≡ k → ⊥
less_apart j k less same = let off : true ≡ false = sym (is_equal j k same) ∙ ap is_eq less in cc

-- no move is of the joint's pin
abbrev pub AllOff : NamedJoint → List PinMove → Type 0
AllOff j ms = AllByRecursion (λ m. is_joint_of (new_joint m) j ≡ false) ms

pub off_top : (j : NamedJoint) (ms : List PinMove) → is_no_component j.comp ≡ true → AllOff j ms
off_top j [] top = tt
off_top j (m ∷ ms) top = (top_off (new_joint m) j top, off_top j ms top)

pub off_none : (j : NamedJoint) (ms : List PinMove) → ((k : ℕ) (d : PinMove) → k < length ms → moved_pin (get_or ms k d) ≡ j → ⊥) → AllOff j ms
off_none j [] none = tt
off_none j (m ∷ ms) none = (of_other (new_joint m) j (none zero m (omega arith)), off_none j ms (λ k d lt. none (suc k) d (omega arith)))

off_behind : (j : NamedJoint) (ms : List PinMove) → AllByRecursion (λ k. pin_cmp j k ≡ Less) (map moved_pin ms) → AllOff j ms
off_behind j [] all = tt
off_behind j (m ∷ ms) all = (of_other (new_joint m) j (λ e. less_apart j (moved_pin m) all.0 (sym e)), off_behind j ms all.1)

head_off : (j : NamedJoint) (m : PinMove) (ms : List PinMove) → AllByRecursion (λ k. pin_cmp (moved_pin m) k ≡ Less) (map moved_pin ms) → (i : ℕ) (d : PinMove) → i < length ms → moved_pin (get_or ms i d) ≡ j → is_joint_of (new_joint m) j ≡ false
head_off j m ms all i d lt same = of_other (new_joint m) j (λ e. less_apart (moved_pin m) (moved_pin (get_or ms i d)) (before_each (moved_pin m) ms all i d lt) (e ∙ sym same))

-- ---- whether it stays

pub stays_off : (j : NamedJoint) (net : List ℕ) (ms : List PinMove) → AllOff j ms → stays_on (map new_joint ms) net j ≡ true
stays_off j net [] off = refl
stays_off j net (m ∷ ms) off = ap (λ b. (not b || bytes_eq m.net.now net) && stays_on (map new_joint ms) net j) off.0 ∙ stays_off j net ms off.1

and_true : (b : Bool) → (b && true) ≡ b
and_true true = refl
and_true false = refl

pub stays_at : (j : NamedJoint) (net : List ℕ) (ms : List PinMove) → AreInOrder ms → is_no_component j.comp ≡ false → (i : ℕ) (d : PinMove) → i < length ms → moved_pin (get_or ms i d) ≡ j →
    bytes_eq (get_or ms i d).net.now net ≡ stays_on (map new_joint ms) net j
unfolding IsStrictlySortedBy
stays_at j net [] up comp i d lt same = absurd (omega arith)
stays_at j net (m ∷ ms) up comp zero d lt same =
    let behind : AllByRecursion (λ k. pin_cmp j k ≡ Less) (map moved_pin ms) = subst (λ n. AllByRecursion (λ k. pin_cmp n k ≡ Less) (map moved_pin ms)) same up.0 in
    sym (ap (λ b. (not b || bytes_eq m.net.now net) && stays_on (map new_joint ms) net j) (is_of_same (new_joint m) j comp same)
    ∙ ap (λ b. bytes_eq m.net.now net && b) (stays_off j net ms (off_behind j ms behind)) ∙ and_true (bytes_eq m.net.now net))
stays_at j net (m ∷ ms) up comp (suc i) d lt same =
    stays_at j net ms up.1 comp i d (omega arith) same
    ∙ sym (ap (λ b. (not b || bytes_eq m.net.now net) && stays_on (map new_joint ms) net j) (head_off j m ms up.0 i d (omega arith) same))

-- ---- the marks of its pin

or_off : (a b : Bool) → (a || (b && false)) ≡ a
or_off true b = refl
or_off false true = refl
or_off false false = refl

or_on : (a : Bool) → (a || true) ≡ true
or_on true = refl
or_on false = refl

mark_off : (j : NamedJoint) (net : List ℕ) (m : PinMove) → is_joint_of (new_joint m) j ≡ false → marked j net m ≡ m
mark_off j net m off = ap (λ b. let n : PinMove = record m { stands = b } in n) (ap (λ b. m.stands || (bytes_eq net m.net.now && b)) off ∙ or_off m.stands (bytes_eq net m.net.now))

mark_on : (j : NamedJoint) (net : List ℕ) (m : PinMove) → is_joint_of (new_joint m) j ≡ true → bytes_eq m.net.now net ≡ true → marked j net m ≡ record m { stands = true }
mark_on j net m on at = ap (λ b. let n : PinMove = record m { stands = b } in n)
    (ap (λ b. m.stands || (bytes_eq net m.net.now && b)) on ∙ ap (λ b. m.stands || (b && true)) (eq_sym net m.net.now ∙ at) ∙ or_on m.stands)

pub marks_off : (j : NamedJoint) (net : List ℕ) (ms : List PinMove) → AllOff j ms → ms ≡ map (marked j net) ms
marks_off j net [] off = refl
marks_off j net (m ∷ ms) off = ap (λ ns. m ∷ ns) (marks_off j net ms off.1) ∙ ap (λ n. n ∷ map (marked j net) ms) (sym (mark_off j net m off.0))

pub marks_at : (j : NamedJoint) (net : List ℕ) (ms : List PinMove) → AreInOrder ms → is_no_component j.comp ≡ false → (i : ℕ) (d : PinMove) → i < length ms → moved_pin (get_or ms i d) ≡ j →
    bytes_eq (get_or ms i d).net.now net ≡ true → slice_set ms i (record (get_or ms i d) { stands = true }) ≡ map (marked j net) ms
unfolding IsStrictlySortedBy
marks_at j net [] up comp i d lt same at = absurd (omega arith)
marks_at j net (m ∷ ms) up comp zero d lt same at =
    let behind : AllByRecursion (λ k. pin_cmp j k ≡ Less) (map moved_pin ms) = subst (λ n. AllByRecursion (λ k. pin_cmp n k ≡ Less) (map moved_pin ms)) same up.0 in
    ap (λ ns. (let n : PinMove = record m { stands = true } in n) ∷ ns) (marks_off j net ms (off_behind j ms behind)) ∙ ap (λ n. n ∷ map (marked j net) ms) (sym (mark_on j net m (is_of_same (new_joint m) j comp same) at))
marks_at j net (m ∷ ms) up comp (suc i) d lt same at =
    ap (λ ns. m ∷ ns) (marks_at j net ms up.1 comp i d (omega arith) same at) ∙ ap (λ n. n ∷ map (marked j net) ms) (sym (mark_off j net m (head_off j m ms up.0 i d (omega arith) same)))

-- the pin stands on another net
mark_elsewhere : (j : NamedJoint) (net : List ℕ) (m : PinMove) → bytes_eq m.net.now net ≡ false → marked j net m ≡ m
mark_elsewhere j net m off = ap (λ b. let n : PinMove = record m { stands = b } in n) (ap (λ b. m.stands || (b && is_joint_of (new_joint m) j)) (eq_sym net m.net.now ∙ off) ∙ or_none m.stands)
  where
    or_none : (a : Bool) → (a || false) ≡ a
    or_none true = refl
    or_none false = refl

pub marks_elsewhere : (j : NamedJoint) (net : List ℕ) (ms : List PinMove) → AreInOrder ms → (i : ℕ) (d : PinMove) → i < length ms → moved_pin (get_or ms i d) ≡ j →
    bytes_eq (get_or ms i d).net.now net ≡ false → ms ≡ map (marked j net) ms
unfolding IsStrictlySortedBy
marks_elsewhere j net [] up i d lt same at = absurd (omega arith)
marks_elsewhere j net (m ∷ ms) up zero d lt same at =
    let behind : AllByRecursion (λ k. pin_cmp j k ≡ Less) (map moved_pin ms) = subst (λ n. AllByRecursion (λ k. pin_cmp n k ≡ Less) (map moved_pin ms)) same up.0 in
    ap (λ ns. m ∷ ns) (marks_off j net ms (off_behind j ms behind)) ∙ ap (λ n. n ∷ map (marked j net) ms) (sym (mark_elsewhere j net m at))
marks_elsewhere j net (m ∷ ms) up (suc i) d lt same at =
    ap (λ ns. m ∷ ns) (marks_elsewhere j net ms up.1 i d (omega arith) same at) ∙ ap (λ n. n ∷ map (marked j net) ms) (sym (mark_off j net m (head_off j m ms up.0 i d (omega arith) same)))
