-- All pins of a listing, in order
use Rattle.std.proofs.Common.{◌≡◌, ℕ, zero, suc, ◌+◌, ◌<◌, ◌≤◌, Bool, true, false, cond, List, [], ◌∷◌, ◌++◌, map, length, Option, Some, None, refl, sym, ap, ap₂, ◌∙◌, subst, arith, slice_get, inl, inr, ⊎_elim, ◌⊎◌, true≢false, Less, Equal, Ordering, nat_cmp}
use Rattle.std.specs.Ordering.{ordering_then}
use Rattle.std.specs.List.{filter, range_with_len, AllByRecursion}
use Rattle.std.specs.List.Sorted.{IsStrictlySortedBy}
use Rattle.std.proofs.lemmas.Bool.{eqb-true, eq-eqb}
use Rattle.std.specs.Cmp.{tied_itself, nat_cmp_total}
use Rattle.std.proofs.lemmas.Bool.Decides.{nat_tests}
use Rattle.eco_net.specs.declared.rows.CompRow.{CompRow}
use Rattle.eco_net.specs.declared.ids.CompId.{CompId}
use Rattle.eco_net.specs.declared.ids.PinRef.{PinRef}
use Rattle.eco_net.specs.declared.ids.PinRef.TheVariants.{Top, Pin}
use Rattle.eco_net.specs.Listing.{Listing, pins, IsKnownPin, HasPin}
use Rattle.eco_net.specs.PinOrder.{pin_order}
use Rattle.eco_net.specs.ByNumber.{tops_to, pins_to, comp_pins, all_pins, is_net}
use Rattle.eco_net.proofs.Basics.{Has, same_Some, not_None, has_map, has_append_left, has_append_right, has_of_map}

-- ---- ranges

le_cases : (a i : ℕ) → a ≤ i → (a ≡ i) ⊎ (a + 1 ≤ i)
le_cases zero zero h = inl refl
le_cases zero (suc i) h = inr (omega arith)
le_cases (suc a) zero h = absurd (omega arith)
le_cases (suc a) (suc i) h = ⊎_elim (λ e. inl (ap suc e)) (λ l. inr (omega (arith, l))) (le_cases a i (omega arith))

pub has_range : (a n i : ℕ) → a ≤ i → i < a + n → Has (range_with_len a n) i
has_range a zero i h g = absurd (omega arith)
has_range a (suc n) i h g = ⊎_elim (λ e. inl e) (λ l. inr (has_range (a + 1) n i l (omega arith))) (le_cases a i h)

pub range_has : (a n i : ℕ) → Has (range_with_len a n) i → (a ≤ i) × (i < a + n)
range_has a zero i h = absurd h
range_has a (suc n) i (inl e) = (omega (arith, e), omega (arith, e))
range_has a (suc n) i (inr h) = let r = range_has (a + 1) n i h in (omega (arith, r.0), omega (arith, r.1))

pub has_below : (n i : ℕ) → i < n → Has (range_with_len 0 n) i
has_below n i h = has_range 0 n i (omega arith) (omega arith)

pub below_has : (n i : ℕ) → Has (range_with_len 0 n) i → i < n
below_has n i h = omega (arith, (range_has 0 n i h).1)

-- ---- which pins they are

pub split_has : {A : Type 0} (xs ys : List A) (z : A) → Has (xs ++ ys) z → Has xs z ⊎ Has ys z
split_has [] ys z h = inr h
split_has (x ∷ xs) ys z (inl e) = inl (inl e)
split_has (x ∷ xs) ys z (inr h) = ⊎_elim (λ a. inl (inr a)) inr (split_has xs ys z h)

-- what a pin of one of these rows is
pub record AtRow (c : ℕ) (rows : List CompRow) (p : PinRef) : Type 0 where
  pub offset : ℕ
  pub row : CompRow
  pub at : slice_get rows offset ≡ Some row
  pub number : ℕ
  pub within : number < length (pins row)
  pub is : p ≡ Pin (record { 0 = c + offset }) number

comp_has : (c : ℕ) (rows : List CompRow) (i k : ℕ) (r : CompRow) → slice_get rows i ≡ Some r → k < length (pins r) → Has (comp_pins c rows) (Pin (record { 0 = c + i }) k)
comp_has c [] i k r e h = absurd (not_None (sym e))
comp_has c (x ∷ rows) zero k r e h =
    let z : c ≡ c + 0 = omega arith in
    has_append_left (pins_to c (length (pins x))) _ _ (subst (λ d. Has (pins_to c (length (pins x))) (Pin (record { 0 = d }) k)) z (has_map (λ k. Pin (record { 0 = c }) k) (range_with_len 0 (length (pins x))) k (has_below (length (pins x)) k (subst (λ y. k < length (pins y)) (sym (same_Some e)) h))))
comp_has c (x ∷ rows) (suc i) k r e h =
    let z : (c + 1) + i ≡ c + suc i = omega arith in
    has_append_right (pins_to c (length (pins x))) _ _ (subst (λ d. Has (comp_pins (c + 1) rows) (Pin (record { 0 = d }) k)) z (comp_has (c + 1) rows i k r e h))

has_comp : (c : ℕ) (rows : List CompRow) (p : PinRef) → Has (comp_pins c rows) p → AtRow c rows p
has_comp c [] p h = absurd h
has_comp c (x ∷ rows) p h = ⊎_elim
    (λ a. let w = has_of_map (λ k. Pin (record { 0 = c }) k) (range_with_len 0 (length (pins x))) p a in
    let z : c ≡ c + 0 = omega arith in
    record { offset = 0; row = x; at = refl; number = w.0; within = below_has (length (pins x)) w.0 w.1; is = sym w.2 ∙ ap (λ d. Pin (record { 0 = d }) w.0) z })
    (λ a. let w = has_comp (c + 1) rows p a in
    let z : (c + 1) + w.offset ≡ c + suc w.offset = omega arith in
    record { offset = suc w.offset; row = w.row; at = w.at; number = w.number; within = w.within; is = w.is ∙ ap (λ d. Pin (record { 0 = d }) w.number) z })
    (split_has (pins_to c (length (pins x))) (comp_pins (c + 1) rows) p h)

pub has_top : (L : Listing) (t : ℕ) → t < length L.tops → Has (tops_to (length L.tops)) (Top (record { 0 = t }))
has_top L t h = has_map (λ t. Top (record { 0 = t })) (range_with_len 0 (length L.tops)) t (has_below (length L.tops) t h)

pub has_pin : (L : Listing) (c : CompId) (k : ℕ) → HasPin (slice_get L.comps c.0) k → Has (comp_pins 0 L.comps) (Pin c k)
has_pin L c k h = go (slice_get L.comps c.0) refl h
  where
    go : (o : Option CompRow) → slice_get L.comps c.0 ≡ o → HasPin o k → Has (comp_pins 0 L.comps) (Pin c k)
    go None e g = absurd g
    go (Some r) e g = let z : 0 + c.0 ≡ c.0 = omega arith in subst (λ d. Has (comp_pins 0 L.comps) (Pin (record { 0 = d }) k)) z (comp_has 0 L.comps c.0 k r e g)

-- a component's pin is no top pin
pub comp_pin : (L : Listing) (p : PinRef) → Has (comp_pins 0 L.comps) p → (c : CompId) × (k : ℕ) × (p ≡ Pin c k)
comp_pin L p h = let w = has_comp 0 L.comps p h in (record { 0 = 0 + w.offset }, w.number, w.is)

pub has_known : (L : Listing) (p : PinRef) → IsKnownPin L p → Has (all_pins L) p
has_known L (Top t) h = has_append_left (tops_to (length L.tops)) _ _ (has_top L t.0 h)
has_known L (Pin c k) h = has_append_right (tops_to (length L.tops)) _ _ (has_pin L c k h)

pub known_has : (L : Listing) (p : PinRef) → Has (all_pins L) p → IsKnownPin L p
known_has L p h = ⊎_elim
    (λ a. let w = has_of_map (λ t. Top (record { 0 = t })) (range_with_len 0 (length L.tops)) p a in
    subst (IsKnownPin L) w.2 (below_has (length L.tops) w.0 w.1))
    (λ a. let w = has_comp 0 L.comps p a in
    let z : 0 + w.offset ≡ w.offset = omega arith in
    subst (IsKnownPin L) (sym (w.is ∙ ap (λ d. Pin (record { 0 = d }) w.number) z)) (subst (λ o. HasPin o w.number) (sym w.at) w.within))
    (split_has (tops_to (length L.tops)) (comp_pins 0 L.comps) p h)

-- ---- their order

pub all_from : {A : Type 0} (P : A → Type 0) (xs : List A) → ((x : A) → Has xs x → P x) → AllByRecursion P xs
all_from P [] h = tt
all_from P (x ∷ xs) h = (h x (inl refl), all_from P xs (λ y i. h y (inr i)))

pub all_at : {A : Type 0} (P : A → Type 0) (xs : List A) → AllByRecursion P xs → (x : A) → Has xs x → P x
all_at P [] h x i = absurd i
all_at P (y ∷ xs) h x (inl e) = subst P e h.0
all_at P (y ∷ xs) h x (inr i) = all_at P xs h.1 x i

pub sorted_append : {A : Type 0} (R : A → A → Ordering) (xs ys : List A) → IsStrictlySortedBy R xs → IsStrictlySortedBy R ys → ((x y : A) → Has xs x → Has ys y → R x y ≡ Less) → IsStrictlySortedBy R (xs ++ ys)
unfolding IsStrictlySortedBy
sorted_append R [] ys a b h = b
sorted_append R (x ∷ xs) ys a b h = (
  all_from (λ y. R x y ≡ Less) (xs ++ ys) (λ y i. ⊎_elim (λ j. all_at (λ y. R x y ≡ Less) xs a.0 y j) (λ j. h x y (inl refl) j) (split_has xs ys y i)),
  sorted_append R xs ys a.1 b (λ z y i j. h z y (inr i) j),
)

sorted_range : (f : ℕ → PinRef) → ((i j : ℕ) → i < j → pin_order (f i) (f j) ≡ Less) → (a n : ℕ) → IsStrictlySortedBy pin_order (map f (range_with_len a n))
unfolding IsStrictlySortedBy
sorted_range f h a zero = tt
sorted_range f h a (suc n) = (
  all_from (λ y. pin_order (f a) y ≡ Less) (map f (range_with_len (a + 1) n)) (λ y i.
      let w = has_of_map f (range_with_len (a + 1) n) y i in
      let g : a < w.0 = omega (arith, (range_has (a + 1) n w.0 w.1).0) in
      ap (pin_order (f a)) (sym w.2) ∙ h a w.0 g),
  sorted_range f h (a + 1) n,
)

pub less_nat : (i j : ℕ) → i < j → nat_cmp i j ≡ Less
less_nat i j h = grind (arith, nat_tests)

top_less : (i j : ℕ) → i < j → pin_order (Top (record { 0 = i })) (Top (record { 0 = j })) ≡ Less
top_less i j h = ap (λ o. ordering_then o Equal) (less_nat i j h)

pin_less : (c i j : ℕ) → i < j → pin_order (Pin (record { 0 = c }) i) (Pin (record { 0 = c }) j) ≡ Less
pin_less c i j h = ap₂ (λ o p. ordering_then o (ordering_then p Equal)) (tied_itself nat_cmp_total c) (less_nat i j h)

comp_less : (c d i j : ℕ) → c < d → pin_order (Pin (record { 0 = c }) i) (Pin (record { 0 = d }) j) ≡ Less
comp_less c d i j h = ap (λ o. ordering_then o (ordering_then (nat_cmp i j) Equal)) (less_nat c d h)

pub comps_sorted : (c : ℕ) (rows : List CompRow) → IsStrictlySortedBy pin_order (comp_pins c rows)
unfolding IsStrictlySortedBy
comps_sorted c [] = tt
comps_sorted c (r ∷ rows) = sorted_append pin_order (pins_to c (length (pins r))) (comp_pins (c + 1) rows)
    (sorted_range (λ k. Pin (record { 0 = c }) k) (λ i j h. pin_less c i j h) 0 (length (pins r)))
    (comps_sorted (c + 1) rows)
    (λ x y i j.
    let v = has_of_map (λ k. Pin (record { 0 = c }) k) (range_with_len 0 (length (pins r))) x i in
    let w = has_comp (c + 1) rows y j in
    let g : c < (c + 1) + w.offset = omega arith in
    ap₂ pin_order (sym v.2) w.is ∙ comp_less c ((c + 1) + w.offset) v.0 w.number g)

pub tops_sorted : (L : Listing) → IsStrictlySortedBy pin_order (tops_to (length L.tops))
tops_sorted L = sorted_range (λ t. Top (record { 0 = t })) (λ i j h. top_less i j h) 0 (length L.tops)

-- all pins stand in order
pub pins_sorted : (L : Listing) → IsStrictlySortedBy pin_order (all_pins L)
pins_sorted L = sorted_append pin_order (tops_to (length L.tops)) (comp_pins 0 L.comps)
    (tops_sorted L)
    (comps_sorted 0 L.comps)
    (λ x y i j.
    let v = has_of_map (λ t. Top (record { 0 = t })) (range_with_len 0 (length L.tops)) x i in
    let w = has_comp 0 L.comps y j in
    ap₂ pin_order (sym v.2) w.is)

-- ---- what a filter keeps

pub has_filter : {A : Type 0} (t : A → Bool) (xs : List A) (x : A) → Has xs x → t x ≡ true → Has (filter t xs) x
has_filter t [] x h e = absurd h
has_filter {A = A} t (y ∷ xs) x h e = go (t y) refl h (λ i. has_filter t xs x i e)
  where
    go : (b : Bool) → t y ≡ b → (y ≡ x) ⊎ Has xs x → (Has xs x → Has (filter t xs) x) → Has (cond b (y ∷ filter t xs) (filter t xs)) x
    go true f (inl s) r = inl s
    go true f (inr i) r = inr (r i)
    go false f (inl s) r = absurd (true≢false (sym e ∙ ap t (sym s) ∙ f))
    go false f (inr i) r = r i

pub filter_has : {A : Type 0} (t : A → Bool) (xs : List A) (x : A) → Has (filter t xs) x → Has xs x × (t x ≡ true)
filter_has t [] x h = absurd h
filter_has {A = A} t (y ∷ xs) x h = go (t y) refl h (λ i. filter_has t xs x i)
  where
    go : (b : Bool) → t y ≡ b → Has (cond b (y ∷ filter t xs) (filter t xs)) x → (Has (filter t xs) x → Has xs x × (t x ≡ true)) → ((y ≡ x) ⊎ Has xs x) × (t x ≡ true)
    go true f (inl s) r = (inl s, ap t (sym s) ∙ f)
    go true f (inr i) r = let w = r i in (inr w.0, w.1)
    go false f i r = let w = r i in (inr w.0, w.1)

pub on_net : (o : Option ℕ) (n : ℕ) → is_net o n ≡ true → o ≡ Some n
on_net None n e = absurd (true≢false (sym e))
on_net (Some m) n e = ap Some (eqb-true m n e)

pub net_on : (o : Option ℕ) (n : ℕ) → o ≡ Some n → is_net o n ≡ true
net_on o n e = ap (λ o. is_net o n) e ∙ eq-eqb n n refl
