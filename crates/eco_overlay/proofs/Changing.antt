-- What the code's changes are, by the definitions.
use Rattle.std.specs.Str.{bytes_eq}
use Rattle.std.specs.List.{AllByRecursion, IsDistinct, list_all, list_any, filter}
use Rattle.std.specs.List.Sorted.{IsPermutation, IsSortedBy, IsStrictlySortedBy}
use Rattle.std.specs.Ordering.{is_lt, nat_cmp}
use Rattle.std.specs.Cmp.Lexicographic.{slice_cmp}
use Rattle.std.specs.Borrow.{Bor}
use Rattle.std.specs.Global.{Global}
use Rattle.std.specs.BTreeMap.{BTreeMap}
use Rattle.std.proofs.Common.{◌≡◌, ℕ, ◌+◌, ◌<◌, get_or, Bool, true, false, not, ◌&&◌, ◌||◌, List, [], ◌∷◌, ◌++◌, length, take, drop, map, sum_by, refl, ap, sym, ◌∙◌, subst, arith, append-nil, if◌then◌else◌, Vec, decimal}
use Rattle.std.proofs.Math.Path.{fun_ext}
use Rattle.std.proofs.lemmas.List.{take_all, drop_all, take_more, map-append}
use Rattle.std.proofs.lemmas.List.Sums.{sum_by-cons}
use Rattle.std.proofs.lemmas.List.Sorted.{sum_by-IsPermutation, list_any-IsPermutation, IsPermutation-map, ranks_by}
use Rattle.std.proofs.lemmas.Cmp.{nat_list_cmp_total}
use Rattle.std.proofs.lemmas.Simd.{map-map}
use Rattle.eco_def.specs.declared.design.NetStatement.{NetStatement}
use Rattle.eco_def.specs.declared.design.Design.{Design}
use Rattle.eco_def.specs.View.{design_in, pin_in}
use Rattle.eco_def.specs.Named.{NamedJoint, names_of, pin_names}
use Rattle.eco_common.specs.KnownNames.{knows}
use Rattle.eco_issued_laws.specs.Changes.{NewJoint, Fresh, Changes, is_nil, is_joint_of, pin_joint, pin_precedes, precedes, in_order, stays_on, stands, has_statement, new_pins, once_each, stated_first, fresh_nets, changes_of}
use Rattle.eco_overlay.specs.declared.pin_move.PinMove.{PinMove}
use Rattle.eco_overlay.specs.declared.new_joint.NewJoint as code
use Rattle.eco_overlay.specs.declared.net_changes.NetChanges.{NetChanges}
use Rattle.eco_text.specs.Cursor.{word_bytes}
use Rattle.eco_overlay.specs.PinMoves.{new_joint, joint_by_names, moved_pin, pin_cmp, marked_in, stands_in, AreInOrder, AreMarked, ArePinsApart, same_pin, are_pins_apart}
use Rattle.eco_overlay.specs.NetChanges.{coming, moves_on, pins_for, is_statement_of, fresh_of, changes_in, nets_first_stated}
use Rattle.eco_overlay.proofs.Sorting.{SameSums, Ascends, ascends_sorted, in_order_is, map_sums, filter_sums}
use Rattle.eco_overlay.proofs.Orders.{eq_sym, pins_linear, names_linear, pins_ascend, precedes_is}
use Rattle.eco_overlay.proofs.Readings.{either_is, ordinary_is, stands_is}
use Rattle.eco_overlay.proofs.Lean.{nil_map}

-- a slice that was written whole
pub all_new : {A : Type 0} (len : ℕ) (old new : List A) → len ≡ length old → length new ≡ length old → take len (new ++ drop (length new) old) ≡ new
all_new len old new is long = ap (λ xs. take len (new ++ xs)) (drop_all (length new) old (omega (arith, long))) ∙ ap (take len) (append-nil new) ∙ take_all len new (omega (arith, is, long))

-- ---- the moves, marked

pub same_joints : (text : List ℕ) (ss : List NetStatement) (ms : List PinMove) → map new_joint (map (marked_in text ss) ms) ≡ map new_joint ms
same_joints text ss ms = map-map new_joint (marked_in text ss) ms

pub still_in_order : (text : List ℕ) (ss : List NetStatement) (ms : List PinMove) → AreInOrder ms → AreInOrder (map (marked_in text ss) ms)
still_in_order text ss ms up = subst (IsStrictlySortedBy pin_cmp) (sym (map-map moved_pin (marked_in text ss) ms)) up

-- ---- the joints that stay

all_any : {A : Type 0} (p : A → Bool) (xs : List A) → list_all p xs ≡ not (list_any (λ x. not (p x)) xs)
all_any p [] = refl
all_any p (x ∷ xs) = at (p x) (all_any p xs)
  where
    at : (b : Bool) → list_all p xs ≡ not (list_any (λ y. not (p y)) xs) → (b && list_all p xs) ≡ not (not b || list_any (λ y. not (p y)) xs)
    at true rest = rest
    at false rest = refl

pub same_stays : (xs ys : List NewJoint) → IsPermutation xs ys → stays_on ys ≡ stays_on xs
same_stays xs ys moved = fun_ext (λ (net : List ℕ). fun_ext (λ (j : NamedJoint).
    all_any (λ n. not (is_joint_of n j) || bytes_eq n.net net) ys
    ∙ ap not (sym (list_any-IsPermutation (λ n. not (not (is_joint_of n j) || bytes_eq n.net net)) xs ys moved))
    ∙ sym (all_any (λ n. not (is_joint_of n j) || bytes_eq n.net net) xs)))

-- ---- the pins that come

all_kept : (P : NamedJoint → Type 0) (p : PinMove → Bool) (ms : List PinMove) → AllByRecursion P (map moved_pin ms) → AllByRecursion P (map moved_pin (filter p ms))
all_kept P p [] all = tt
all_kept P p (m ∷ ms) all = at (all_kept P p ms all.1) (p m)
  where
    at : AllByRecursion P (map moved_pin (filter p ms)) → (b : Bool) → AllByRecursion P (map moved_pin (if b then m ∷ filter p ms else filter p ms))
    at rest true = (all.0, rest)
    at rest false = rest

ascend_kept : (p : PinMove → Bool) (ms : List PinMove) → Ascends pin_precedes (map moved_pin ms) → Ascends pin_precedes (map moved_pin (filter p ms))
ascend_kept p [] up = tt
ascend_kept p (m ∷ ms) up = at (ascend_kept p ms up.1) (p m)
  where
    at : Ascends pin_precedes (map moved_pin (filter p ms)) → (b : Bool) → Ascends pin_precedes (map moved_pin (if b then m ∷ filter p ms else filter p ms))
    at rest true = (all_kept (λ k. pin_precedes k (moved_pin m) ≡ false) p ms up.0, rest)
    at rest false = rest

or_split : (a b : Bool) → (a || b) ≡ false → (a ≡ false) × (b ≡ false)
or_split true b e = cc
or_split false b e = (refl, e)

-- sums over moves of which none is marked
unmarked_sums : (f g : PinMove → ℕ) (ms : List PinMove) → list_any (λ m. m.stands) ms ≡ false → ((m : PinMove) → m.stands ≡ false → f m ≡ g m) → sum_by f ms ≡ sum_by g ms
unmarked_sums f g [] none same = refl
unmarked_sums f g (m ∷ ms) none same =
    let parts = or_split m.stands (list_any (λ k. k.stands) ms) none in
    sum_by-cons f m ms ∙ ap (λ n. n + sum_by f ms) (same m parts.0) ∙ ap (λ n. g m + n) (unmarked_sums f g ms parts.1 same) ∙ sym (sum_by-cons g m ms)

-- the pins that come to a net, of moves in order, are those of the definition
pub new_pins_are : (text : List ℕ) (d : Design) (old new : List PinMove) (net : List ℕ) → list_any (λ m. m.stands) old ≡ false → AreMarked text d.nets old new →
    map moved_pin (coming new net) ≡ new_pins (names_of (design_in text d)) (map new_joint old) net
new_pins_are text d old new net none are =
    let wanted : NewJoint → Bool = λ n. bytes_eq n.net net && not (stands ((names_of (design_in text d)).special ++ (names_of (design_in text d)).nets) n) in
    let comes : PinMove → Bool = λ m. bytes_eq net m.net.now && not m.stands in
    let up : Ascends pin_precedes (map moved_pin (coming new net)) =
    ascend_kept comes new (pins_ascend (map moved_pin new) (subst AreInOrder (sym are.marks) (still_in_order text d.nets are.sorted are.order))) in
    let each : (m : PinMove) → m.stands ≡ false → wanted (new_joint m) ≡ comes (marked_in text d.nets m) =
    λ m off. ap (λ b. b && not (stands ((names_of (design_in text d)).special ++ (names_of (design_in text d)).nets) (new_joint m))) (eq_sym m.net.now net)
    ∙ ap (λ b. bytes_eq net m.net.now && not b) (stands_is text (new_joint m) d ∙ sym (ap (λ b. b || stands_in text (new_joint m) d.nets) off)) in
    let same : SameSums (map pin_joint (filter wanted (map new_joint old))) (map moved_pin (coming new net)) =
    λ f. map_sums pin_joint f (filter wanted (map new_joint old)) ∙ filter_sums wanted (λ n. f (pin_joint n)) (map new_joint old) ∙ map_sums new_joint (λ n. if wanted n then f (pin_joint n) else 0) old
    ∙ unmarked_sums (λ m. if wanted (new_joint m) then f (moved_pin m) else 0) (λ m. if comes (marked_in text d.nets m) then f (moved_pin m) else 0) old none (λ m off. ap (λ b. if b then f (moved_pin m) else 0) (each m off))
    ∙ sym (sum_by-IsPermutation (λ m. if comes (marked_in text d.nets m) then f (moved_pin m) else 0) old are.sorted are.moved)
    ∙ sym (map_sums moved_pin f (coming new net) ∙ filter_sums comes (λ m. f (moved_pin m)) new ∙ ap (sum_by (λ m. if comes m then f (moved_pin m) else 0)) are.marks
    ∙ map_sums (marked_in text d.nets) (λ m. if comes m then f (moved_pin m) else 0) are.sorted) in
    sym (in_order_is pin_precedes pins_linear (map pin_joint (filter wanted (map new_joint old))) (map moved_pin (coming new net)) up same)

-- ---- the pins of a statement

if_same : (b : Bool) → let none : List NamedJoint = [] in none ≡ (if b then none else none)
if_same true = refl
if_same false = refl

pub chosen : (special known has : Bool) (ms : List PinMove) (js : List NamedJoint) → map moved_pin ms ≡ js → (is_nil ms ≡ false → known ≡ has) → map moved_pin (if special && known then [] else ms) ≡ (if special && has then [] else js)
chosen special known has [] js is at = ap (λ ks. map moved_pin ks) (none_of (special && known)) ∙ if_same (special && has) ∙ ap (λ ks. if special && has then [] else ks) is
  where
    none_of : (b : Bool) → let none : List PinMove = [] in (if b then none else none) ≡ none
    none_of true = refl
    none_of false = refl
chosen special known has (m ∷ ms) js is at = ap (λ b. map moved_pin (if special && b then [] else m ∷ ms)) (at refl) ∙ outside (special && has) ∙ ap (λ ks. if special && has then [] else ks) is
  where
    outside : (b : Bool) → map moved_pin (if b then [] else m ∷ ms) ≡ (if b then [] else map moved_pin (m ∷ ms))
    outside true = refl
    outside false = refl

-- ---- nets in order

abbrev name_before : Bor (List ℕ) → Bor (List ℕ) → Bool
name_before x y = is_lt (slice_cmp nat_cmp x.now y.now)

abbrev bytes_of : List (Bor (List ℕ)) → List (List ℕ)
bytes_of ns = map (λ n. n.now) ns

names_behind : (n : Bor (List ℕ)) (ns : List (Bor (List ℕ))) → AllByRecursion (λ k. name_before k n ≡ false) ns → AllByRecursion (λ k. precedes k n.now ≡ false) (bytes_of ns)
names_behind n [] all = tt
names_behind n (k ∷ ns) all = (precedes_is k.now n.now ∙ all.0, names_behind n ns all.1)

names_ascend : (ns : List (Bor (List ℕ))) → Ascends name_before ns → Ascends precedes (bytes_of ns)
names_ascend [] up = tt
names_ascend (n ∷ ns) up = (names_behind n ns up.0, names_ascend ns up.1)

-- names that were sorted are in the order of the definition
sorted_names : (before after : List (Bor (List ℕ))) (names : List (List ℕ)) → IsPermutation before after → IsSortedBy name_before after → bytes_of before ≡ names → in_order precedes names ≡ bytes_of after
sorted_names before after names moved sorted is =
    in_order_is precedes names_linear names (bytes_of after) (names_ascend after (ascends_sorted name_before (ranks_by nat_list_cmp_total (λ (n : Bor (List ℕ)). n.now)) after sorted))
    (λ f. ap (sum_by f) (sym is) ∙ sym (sum_by-IsPermutation f (bytes_of before) (bytes_of after) (IsPermutation-map (λ n. n.now) before after moved)))

-- ---- the nets that get their first statement

first_are : (text : List ℕ) (d : Design) (joints : List NewJoint) (added : BTreeMap (Bor (List ℕ)) (Vec PinMove Global)) → ((net : List ℕ) → map moved_pin (moves_on added net) ≡ new_pins (names_of (design_in text d)) joints net) →
    nets_first_stated text added d.nets d.pins ≡ stated_first (names_of (design_in text d)) joints
first_are text d joints added pins =
    let names = names_of (design_in text d) in
    let test : (λ net. not (list_any (is_statement_of text true net) d.nets) && not (is_nil (moves_on added net))) ≡ (λ net. not (has_statement (names.special ++ names.nets) net) && not (is_nil (new_pins names joints net))) =
    fun_ext (λ (net : List ℕ). ap (λ b. not b && not (is_nil (moves_on added net))) (sym (either_is text net d))
    ∙ ap (λ b. not (has_statement (names.special ++ names.nets) net) && not b) (sym (nil_map moved_pin (moves_on added net)) ∙ ap is_nil (pins net))) in
    let tops : map (λ p. p.net) names.pins ≡ map (λ p. word_bytes text p.net) d.pins = map-map (λ p. p.net) pin_names (map (pin_in text) d.pins) ∙ map-map (λ p. (pin_names p).net) (pin_in text) d.pins in
    ap (λ p. filter p (once_each (map (λ t. word_bytes text t.net) d.pins))) test
    ∙ ap (λ ns. filter (λ net. not (has_statement (names.special ++ names.nets) net) && not (is_nil (new_pins names joints net))) (once_each ns)) (sym tops)

-- ---- all of it

pub changes_are : (text : List ℕ) (d : Design) (old : List PinMove) (c : NetChanges) (nets : List (List ℕ)) (before : List (Bor (List ℕ))) → list_any (λ m. m.stands) old ≡ false → AreMarked text d.nets old c.moves.items →
    ((net : List ℕ) → moves_on c.added net ≡ coming c.moves.items net) → ((net : List ℕ) → is_nil (moves_on c.added net) ≡ false → knows c.ordinary net ≡ list_any (is_statement_of text false net) d.nets) →
    bytes_of before ≡ nets ++ nets_first_stated text c.added d.nets d.pins → IsPermutation before c.fresh.items → IsSortedBy (λ x y. is_lt (slice_cmp nat_cmp x.now y.now)) c.fresh.items →
    changes_in c ≡ changes_of (names_of (design_in text d)) (map new_joint old) nets
changes_are text d old c nets before none are on ordinary first moved sorted =
    let names = names_of (design_in text d) in
    let joints = map new_joint old in
    let stays : stays_on (map new_joint c.moves.items) ≡ stays_on joints =
    ap (λ ms. stays_on (map new_joint ms)) are.marks ∙ ap stays_on (same_joints text d.nets are.sorted) ∙ same_stays joints (map new_joint are.sorted) (IsPermutation-map new_joint old are.sorted are.moved) in
    let pins : (net : List ℕ) → map moved_pin (moves_on c.added net) ≡ new_pins names joints net = λ net. ap (map moved_pin) (on net) ∙ new_pins_are text d old c.moves.items net none are in
    let added : (λ special net. map moved_pin (pins_for c special net)) ≡ (λ special net. if special && has_statement names.nets net then [] else new_pins names joints net) =
    fun_ext (λ (special : Bool). fun_ext (λ (net : List ℕ). chosen special (knows c.ordinary net) (has_statement names.nets net) (moves_on c.added net) (new_pins names joints net) (pins net) (λ gets. ordinary net gets ∙ sym (ordinary_is text net d)))) in
    let order : in_order precedes (nets ++ stated_first names joints) ≡ bytes_of c.fresh.items = sorted_names before c.fresh.items (nets ++ stated_first names joints) moved sorted (first ∙ ap (λ ns. nets ++ ns) (first_are text d joints c.added pins)) in
    let fresh : map (fresh_of c) c.fresh.items ≡ fresh_nets names joints nets =
    sym (map-map (λ name. let f : Fresh = record { name = name; joints = map moved_pin (moves_on c.added name) } in f) (λ (n : Bor (List ℕ)). n.now) c.fresh.items)
    ∙ ap (λ g. map g (bytes_of c.fresh.items)) (fun_ext (λ (name : List ℕ). ap (λ js. let f : Fresh = record { name = name; joints = js } in f) (pins name)))
    ∙ ap (map (λ name. let f : Fresh = record { name = name; joints = new_pins names joints name } in f)) (sym order) in
    ap (λ s. let o : Changes = record { stays = s; added = λ special net. map moved_pin (pins_for c special net); fresh = map (fresh_of c) c.fresh.items; numeral = decimal } in o) stays
    ∙ ap (λ a. let o : Changes = record { stays = stays_on joints; added = a; fresh = map (fresh_of c) c.fresh.items; numeral = decimal } in o) added
    ∙ ap (λ fs. let o : Changes = record { stays = stays_on joints; added = λ special net. if special && has_statement names.nets net then [] else new_pins names joints net; fresh = fs; numeral = decimal } in o) fresh

-- ---- moves, one by one

pub one_apart : (m : PinMove) → ArePinsApart (map new_joint (m ∷ []))
unfolding IsDistinct
one_apart m = (tt, tt)

unmarked_more : (ms : List PinMove) (m : PinMove) → list_any (λ k. k.stands) ms ≡ false → m.stands ≡ false → list_any (λ k. k.stands) (ms ++ m ∷ []) ≡ false
unmarked_more [] m none off = ap (λ b. b || false) off
unmarked_more (k ∷ ms) m none off = let parts = or_split k.stands (list_any (λ j. j.stands) ms) none in ap (λ b. b || list_any (λ j. j.stands) (ms ++ m ∷ [])) parts.0 ∙ unmarked_more ms m parts.1 off

-- one joint more
pub move_more : (js : List code.NewJoint) (i : ℕ) (j : code.NewJoint) (old new : List PinMove) (m : PinMove) → i < length js → j ≡ get_or js i j → new ≡ old ++ m ∷ [] → new_joint m ≡ joint_by_names j → m.stands ≡ false →
    (map new_joint old ≡ map joint_by_names (take i js)) × (list_any (λ k. k.stands) old ≡ false) → (map new_joint new ≡ map joint_by_names (take (i + 1) js)) × (list_any (λ k. k.stands) new ≡ false)
move_more js i j old new m lt at is same off before = (
  ap (map new_joint) is ∙ map-append new_joint old (m ∷ []) ∙ ap (λ ns. ns ++ new_joint m ∷ []) before.0 ∙ ap (λ n. map joint_by_names (take i js) ++ n ∷ []) same
      ∙ sym (map-append joint_by_names (take i js) (j ∷ [])) ∙ ap (λ k. map joint_by_names (take i js ++ k ∷ [])) at ∙ ap (map joint_by_names) (sym (take_more js i j lt)),
  ap (list_any (λ k. k.stands)) is ∙ unmarked_more old m before.1 off,
)

-- ---- the test of pins

all_others : (n : NewJoint) (ns : List NewJoint) → not (list_any (same_pin n) ns) ≡ true → AllByRecursion (λ k. same_pin n k ≡ false) ns
all_others n [] on = tt
all_others n (k ∷ ns) on = at (all_others n ns) (same_pin n k) refl on
  where
    at : (not (list_any (same_pin n) ns) ≡ true → AllByRecursion (λ j. same_pin n j ≡ false) ns) → (b : Bool) → same_pin n k ≡ b → not (b || list_any (same_pin n) ns) ≡ true →
        (same_pin n k ≡ false) × AllByRecursion (λ j. same_pin n j ≡ false) ns
    at rest true e off = cc
    at rest false e off = (e, rest off)

and_parts : (a b : Bool) → (a && b) ≡ true → (a ≡ true) × (b ≡ true)
and_parts true b e = (refl, e)
and_parts false b e = cc

pub apart_from : (ns : List NewJoint) → are_pins_apart ns ≡ true → ArePinsApart ns
unfolding IsDistinct
apart_from [] on = tt
apart_from (n ∷ ns) on = let parts = and_parts (not (list_any (same_pin n) ns)) (are_pins_apart ns) on in (all_others n ns parts.0, apart_from ns parts.1)
