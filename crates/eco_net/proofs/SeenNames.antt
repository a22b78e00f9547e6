-- The observables by number and by name
use Rattle.std.proofs.Common.{◌≡◌, ◌≢◌, ℕ, ◌<◌, Bool, true, false, List, [], ◌∷◌, ◌++◌, length, Option, Some, None, refl, sym, ap, ap₂, ◌∙◌, subst, inl, inr, ⊎_elim, true≢false, slice_get, Less, Ordering, nat_cmp, zero, suc, cond, arith}
use Rattle.std.specs.Option.{option_map}
use Rattle.std.specs.List.{filter}
use Rattle.std.specs.List.Sorted.{IsStrictlySortedBy}
use Rattle.std.specs.Ordering.{ordering_then}
use Rattle.std.specs.Cmp.{tied_itself, nat_cmp_total}
use Rattle.std.specs.Cmp.Lexicographic.{slice_cmp}
use Rattle.std.specs.FinMap.{get}
use Rattle.std.proofs.lemmas.List.Elements.{filter-append}
use Rattle.std.proofs.lemmas.List.{append-nil, append_assoc}
use Rattle.std.proofs.lemmas.List.Kept.{IsStrictlySortedBy-filter}
use Rattle.eco_common.specs.declared.geometry.Dir.{Dir}
use Rattle.eco_common.specs.declared.geometry.Dir.TheVariants.{Input, Output, Inout}
use Rattle.eco_net.specs.declared.rows.TopRow.{TopRow}
use Rattle.eco_net.specs.declared.cut.CutKey.{CutKey}
use Rattle.eco_net.specs.declared.ids.CompId.{CompId}
use Rattle.eco_net.specs.declared.ids.PinRef.{PinRef}
use Rattle.eco_net.specs.declared.ids.PinRef.TheVariants.{Top, Pin}
use Rattle.eco_net.specs.declared.observables.Seen.{Seen}
use Rattle.eco_net.specs.declared.observables.Seen.TheVariants.{AtChip, AtBox, AtGate}
use Rattle.eco_net.specs.Netlist.{Role, GateInput, GateOutput, BoxedPin, TopPin}
use Rattle.eco_net.specs.Observables.{ObservedRole, ObservedTop, ObservedAt, IsObservable}
use Rattle.eco_net.specs.Listing.{Listing, netlist, net_name, numbered_pin, IsKnownPin}
use Rattle.eco_net.specs.Kept.{IsListing}
use Rattle.eco_net.specs.ByNumber.{joint_at, role_at, tops_to, comp_pins}
use Rattle.eco_net.specs.KeysOf.{key_at}
use Rattle.eco_net.specs.PinOrder.{pin_order, kind_number, observed_order}
use Rattle.eco_net.specs.Pins.{ArePins}
use Rattle.eco_net.specs.Seen.{seen_top, seen_free, seen_role, seen_at, same_seen, is_seen, seen_pins}
use Rattle.eco_net.proofs.Basics.{Has, same_Some, not_None, has_from_contains, contains_from_has, has_of_map, has_append_left, has_append_right}
use Rattle.eco_net.proofs.Named.{comp_is, top_is, role_is, joined_is}
use Rattle.eco_net.proofs.PinNames.{PinRow, pin_row, TopAt, top_row, pin_name_is, top_name_is, pin_role_is, pin_net_is}
use Rattle.eco_net.proofs.KeyNames.{keyed, unkeyed}
use Rattle.eco_net.proofs.AllPins.{has_filter, filter_has, split_has, sorted_append, all_from, all_at, known_has, tops_sorted, comps_sorted, comp_pin, has_top, has_pin, less_nat}

-- ---- which kind a pin is of

same_is : (s : Seen) (o : Option Seen) → same_seen s o ≡ true → o ≡ Some s
same_is s None e = absurd (true≢false (sym e))
same_is AtChip (Some AtChip) e = refl
same_is AtChip (Some AtBox) e = absurd (true≢false (sym e))
same_is AtChip (Some AtGate) e = absurd (true≢false (sym e))
same_is AtBox (Some AtChip) e = absurd (true≢false (sym e))
same_is AtBox (Some AtBox) e = refl
same_is AtBox (Some AtGate) e = absurd (true≢false (sym e))
same_is AtGate (Some AtChip) e = absurd (true≢false (sym e))
same_is AtGate (Some AtBox) e = absurd (true≢false (sym e))
same_is AtGate (Some AtGate) e = refl

is_same : (s : Seen) → same_seen s (Some s) ≡ true
is_same AtChip = refl
is_same AtBox = refl
is_same AtGate = refl

not_free : {s : Seen} (o : Option CutKey) → (AtGate ≡ s → ⊥) → option_map (λ key. AtGate) o ≡ Some s → ⊥
not_free None n e = not_None (sym e)
not_free (Some key) n e = n (same_Some e)

gate_or_box : AtGate ≡ AtBox → ⊥
gate_or_box e = cc

gate_or_chip : AtGate ≡ AtChip → ⊥
gate_or_chip e = cc

box_or_gate : AtBox ≡ AtGate → ⊥
box_or_gate e = cc

box_or_chip : AtBox ≡ AtChip → ⊥
box_or_chip e = cc

module _ (L : Listing) where
  free_apart : {s : Seen} (j : Option ℕ) → (AtGate ≡ s → ⊥) → seen_free L j ≡ Some s → ⊥
  free_apart None n e = not_None (sym e)
  free_apart (Some m) n e = not_free (key_at L m) n e

  box_kind : (o : Option Role) (j : Option ℕ) → seen_role L o j ≡ Some AtBox → kind_number o ≡ 1
  box_kind None j e = refl
  box_kind (Some GateInput) j e = refl
  box_kind (Some (GateOutput t)) j e = absurd (free_apart j gate_or_box e)
  box_kind (Some (BoxedPin d)) j e = refl

  gate_kind : (o : Option Role) (j : Option ℕ) → seen_role L o j ≡ Some AtGate → kind_number o ≡ 2
  gate_kind None j e = absurd (not_None (sym e))
  gate_kind (Some GateInput) j e = absurd (not_None (sym e))
  gate_kind (Some (GateOutput t)) j e = refl
  gate_kind (Some (BoxedPin Input)) j e = absurd (box_or_gate (same_Some e))
  gate_kind (Some (BoxedPin Output)) j e = absurd (not_None (sym e))
  gate_kind (Some (BoxedPin Inout)) j e = absurd (box_or_gate (same_Some e))

  no_chip : (o : Option Role) (j : Option ℕ) → seen_role L o j ≡ Some AtChip → ⊥
  no_chip None j e = not_None (sym e)
  no_chip (Some GateInput) j e = not_None (sym e)
  no_chip (Some (GateOutput t)) j e = free_apart j gate_or_chip e
  no_chip (Some (BoxedPin Input)) j e = box_or_chip (same_Some e)
  no_chip (Some (BoxedPin Output)) j e = not_None (sym e)
  no_chip (Some (BoxedPin Inout)) j e = box_or_chip (same_Some e)

-- ---- what is seen by number is observable by name

module _ (L : Listing) (is : IsListing L) where
  -- pins of the chip
  dir_seen : (r : TopRow) (d : Dir) → r.dir ≡ d → (s : Seen) → seen_top (Some (record r { dir = d })) ≡ Some s → d ≢ Input
  dir_seen r Input f s e g = not_None (sym e)
  dir_seen r Output f s e g = cc
  dir_seen r Inout f s e g = cc

  seen_dir : (r : TopRow) (d : Dir) → r.dir ≡ d → d ≢ Input → seen_top (Some (record r { dir = d })) ≡ Some AtChip
  seen_dir r Input f n = absurd (n refl)
  seen_dir r Output f n = refl
  seen_dir r Inout f n = refl

  top_observed : (t : ℕ) (w : TopAt L t) → IsObservable (netlist L) (TopPin w.row.name) ≡ (w.row.dir ≢ Input)
  top_observed t w = ap ObservedTop (top_is L is t w.row w.is)

  -- pins of components
  pin_observed : (c k : ℕ) (w : PinRow L c k) → ObservedAt (netlist L) (get (netlist L).comps w.row.name) w.pin.0 ≡ ObservedRole (netlist L) (Some w.pin.1) (option_map (net_name L.nets) w.net)
  pin_observed c k w =
      ap (λ o. ObservedAt (netlist L) o w.pin.0) (comp_is L is c w.row w.is)
      ∙ ap₂ (ObservedRole (netlist L)) (role_is L is c w.row k w.pin w.is w.at) (joined_is L is c w.row k w.pin w.net w.is w.at w.joint)

  abbrev Known : Option ℕ → Type 0
  Known j = (n : ℕ) → j ≡ Some n → n < length L.nets

  role_seen : (r : Role) (j : Option ℕ) → Known j → (s : Seen) → seen_role L (Some r) j ≡ Some s → ObservedRole (netlist L) (Some r) (option_map (net_name L.nets) j)
  role_seen GateInput j h s e = absurd (not_None (sym e))
  role_seen (GateOutput t) None h s e = absurd (not_None (sym e))
  role_seen (GateOutput t) (Some n) h s e = go (key_at L n) refl e
    where
      go : (o : Option CutKey) → key_at L n ≡ o → option_map (λ key. AtGate) o ≡ Some s → ObservedRole (netlist L) (Some (GateOutput t)) (Some (net_name L.nets n))
      go None f g = absurd (not_None (sym g))
      go (Some key) f g = (keyed L is n (h n refl) key f).0
  role_seen (BoxedPin Input) j h s e = tt
  role_seen (BoxedPin Output) j h s e = absurd (not_None (sym e))
  role_seen (BoxedPin Inout) j h s e = tt

  seen_by : (r : Role) (j : Option ℕ) → Known j → ObservedRole (netlist L) (Some r) (option_map (net_name L.nets) j) → (s : Seen) × (seen_role L (Some r) j ≡ Some s)
  seen_by GateInput j h o = absurd o
  seen_by (GateOutput t) None h o = absurd o
  seen_by (GateOutput t) (Some n) h o = go (key_at L n) refl
    where
      go : (k : Option CutKey) → key_at L n ≡ k → (s : Seen) × (option_map (λ key. AtGate) k ≡ Some s)
      go None f = absurd (unkeyed L is n (h n refl) f o)
      go (Some key) f = (AtGate, refl)
  seen_by (BoxedPin Input) j h o = (AtBox, refl)
  seen_by (BoxedPin Output) j h o = absurd o
  seen_by (BoxedPin Inout) j h o = (AtBox, refl)

  known_joint : (c k : ℕ) (w : PinRow L c k) → Known w.net
  known_joint c k w n e = (is.rows c w.row w.is).known k n (w.joint ∙ ap Some e)

  role_is_seen : (c k : ℕ) (w : PinRow L c k) → seen_role L (role_at (slice_get L.comps c) k) (joint_at (slice_get L.comps c) k) ≡ seen_role L (Some w.pin.1) w.net
  role_is_seen c k w = ap₂ (seen_role L) (pin_role_is L c k w) (pin_net_is L c k w)

  pub seen_named : (p : PinRef) → IsKnownPin L p → (s : Seen) → seen_at L p ≡ Some s → IsObservable (netlist L) (numbered_pin L p)
  seen_named (Top t) h s e =
      let w = top_row L t.0 h in
      subst (IsObservable (netlist L)) (sym (top_name_is L t.0 w)) (subst (λ A. A) (sym (top_observed t.0 w)) (dir_seen w.row w.row.dir refl s (sym (ap seen_top w.is) ∙ e)))
  seen_named (Pin c k) h s e =
      let w = pin_row L is c.0 k h in
      subst (IsObservable (netlist L)) (sym (pin_name_is L c.0 k w)) (subst (λ A. A) (sym (pin_observed c.0 k w)) (role_seen w.pin.1 w.net (known_joint c.0 k w) s (sym (role_is_seen c.0 k w) ∙ e)))

  pub named_seen : (p : PinRef) → IsKnownPin L p → IsObservable (netlist L) (numbered_pin L p) → (s : Seen) × (seen_at L p ≡ Some s)
  named_seen (Top t) h o =
      let w = top_row L t.0 h in
      (AtChip, ap seen_top w.is ∙ seen_dir w.row w.row.dir refl (subst (λ A. A) (top_observed t.0 w) (subst (IsObservable (netlist L)) (top_name_is L t.0 w) o)))
  named_seen (Pin c k) h o =
      let w = pin_row L is c.0 k h in
      let s = seen_by w.pin.1 w.net (known_joint c.0 k w) (subst (λ A. A) (pin_observed c.0 k w) (subst (IsObservable (netlist L)) (pin_name_is L c.0 k w) o)) in
      (s.0, role_is_seen c.0 k w ∙ s.1)

-- ---- their order

sorted_alike : {A : Type 0} (R S : A → A → Ordering) (xs : List A) → ((x y : A) → Has xs x → Has xs y → R x y ≡ Less → S x y ≡ Less) → IsStrictlySortedBy R xs → IsStrictlySortedBy S xs
unfolding IsStrictlySortedBy
sorted_alike R S [] h s = tt
sorted_alike R S (x ∷ xs) h s = (
  all_from (λ y. S x y ≡ Less) xs (λ y i. h x y (inl refl) (inr i) (all_at (λ y. R x y ≡ Less) xs s.0 y i)),
  sorted_alike R S xs (λ y z i j. h y z (inr i) (inr j)) s.1,
)

module _ (L : Listing) where
  abbrev Of : ℕ → PinRef → Type 0
  Of n p = (c : CompId) × (k : ℕ) × (p ≡ Pin c k) × (kind_number (role_at (slice_get L.comps c.0) k) ≡ n)

  box_of : (p : PinRef) → Has (filter (is_seen L AtBox) (comp_pins 0 L.comps)) p → Of 1 p
  box_of p h =
      let w = filter_has (is_seen L AtBox) (comp_pins 0 L.comps) p h in
      let q = comp_pin L p w.0 in
      (q.0, q.1, q.2, box_kind L _ _ (ap (seen_at L) (sym q.2) ∙ same_is AtBox (seen_at L p) w.1))

  gate_of : (p : PinRef) → Has (filter (is_seen L AtGate) (comp_pins 0 L.comps)) p → Of 2 p
  gate_of p h =
      let w = filter_has (is_seen L AtGate) (comp_pins 0 L.comps) p h in
      let q = comp_pin L p w.0 in
      (q.0, q.1, q.2, gate_kind L _ _ (ap (seen_at L) (sym q.2) ∙ same_is AtGate (seen_at L p) w.1))

  top_in : (p : PinRef) → Has (filter (is_seen L AtChip) (tops_to (length L.tops))) p → (t : ℕ) × (p ≡ Top (record { 0 = t }))
  top_in p h =
      let w = has_of_map (λ t. Top (record { 0 = t })) _ p (filter_has (is_seen L AtChip) (tops_to (length L.tops)) p h).0 in
      (w.0, sym w.2)

  same_kind : (n : ℕ) (p q : PinRef) → Of n p → Of n q → pin_order p q ≡ Less → observed_order L p q ≡ Less
  same_kind n p q a b e =
      ap₂ (observed_order L) a.2 b.2
      ∙ ap₂ (λ i j. ordering_then (nat_cmp i j) (slice_cmp nat_cmp (a.0.0 ∷ a.1 ∷ []) (b.0.0 ∷ b.1 ∷ []))) a.3 b.3
      ∙ ap (λ o. ordering_then o (slice_cmp nat_cmp (a.0.0 ∷ a.1 ∷ []) (b.0.0 ∷ b.1 ∷ []))) (tied_itself nat_cmp_total n)
      ∙ sym (ap₂ pin_order a.2 b.2)
      ∙ e

  box_gate : (p q : PinRef) → Of 1 p → Of 2 q → observed_order L p q ≡ Less
  box_gate p q a b =
      ap₂ (observed_order L) a.2 b.2
      ∙ ap₂ (λ i j. ordering_then (nat_cmp i j) (slice_cmp nat_cmp (a.0.0 ∷ a.1 ∷ []) (b.0.0 ∷ b.1 ∷ []))) a.3 b.3

  chip_first : (t : ℕ) (n : ℕ) (p : PinRef) → n ≢ 0 → Of n p → observed_order L (Top (record { 0 = t })) p ≡ Less
  chip_first t n p h a =
      ap (observed_order L (Top (record { 0 = t }))) a.2
      ∙ ap (λ j. ordering_then (nat_cmp 0 j) (slice_cmp nat_cmp (t ∷ []) (a.0.0 ∷ a.1 ∷ []))) a.3
      ∙ ap (λ o. ordering_then o (slice_cmp nat_cmp (t ∷ []) (a.0.0 ∷ a.1 ∷ []))) (zero_less n h)
    where
      zero_less : (n : ℕ) → n ≢ 0 → nat_cmp 0 n ≡ Less
      zero_less zero h = absurd (h refl)
      zero_less (suc n) h = less_nat 0 (suc n) (omega arith)

  seen_sorted : IsStrictlySortedBy (observed_order L) (seen_pins L)
  seen_sorted = sorted_append (observed_order L) _ _
      (sorted_alike pin_order (observed_order L) _
      (λ p q i j e.
      let a = top_in p i in
      let b = top_in q j in
      ap₂ (observed_order L) a.1 b.1 ∙ sym (ap₂ pin_order a.1 b.1) ∙ e)
      (IsStrictlySortedBy-filter pin_order (is_seen L AtChip) (tops_to (length L.tops)) (tops_sorted L)))
      (sorted_append (observed_order L) _ _
      (sorted_alike pin_order (observed_order L) _ (λ p q i j e. same_kind 1 p q (box_of p i) (box_of q j) e) (IsStrictlySortedBy-filter pin_order (is_seen L AtBox) (comp_pins 0 L.comps) (comps_sorted 0 L.comps)))
      (sorted_alike pin_order (observed_order L) _ (λ p q i j e. same_kind 2 p q (gate_of p i) (gate_of q j) e) (IsStrictlySortedBy-filter pin_order (is_seen L AtGate) (comp_pins 0 L.comps) (comps_sorted 0 L.comps)))
      (λ p q i j. box_gate p q (box_of p i) (gate_of q j)))
      (λ p q i j.
      let a = top_in p i in
      ap (λ x. observed_order L x q) a.1 ∙ ⊎_elim (λ k. chip_first a.0 1 q (λ z. absurd (omega (arith, z))) (box_of q k)) (λ k. chip_first a.0 2 q (λ z. absurd (omega (arith, z))) (gate_of q k)) (split_has (filter (is_seen L AtBox) (comp_pins 0 L.comps)) _ q j))

-- ---- all of them

module _ (L : Listing) (is : IsListing L) where
  -- a pin that is found is known and is seen
  found_is : (p : PinRef) → Has (seen_pins L) p → IsKnownPin L p × ((s : Seen) × (seen_at L p ≡ Some s))
  found_is p h = ⊎_elim
      (λ i. let w = filter_has (is_seen L AtChip) (tops_to (length L.tops)) p i in (known_has L p (has_append_left (tops_to (length L.tops)) (comp_pins 0 L.comps) p w.0), (AtChip, same_is AtChip (seen_at L p) w.1)))
      (λ i. ⊎_elim
      (λ j. let w = filter_has (is_seen L AtBox) (comp_pins 0 L.comps) p j in (known_has L p (has_append_right (tops_to (length L.tops)) (comp_pins 0 L.comps) p w.0), (AtBox, same_is AtBox (seen_at L p) w.1)))
      (λ j. let w = filter_has (is_seen L AtGate) (comp_pins 0 L.comps) p j in (known_has L p (has_append_right (tops_to (length L.tops)) (comp_pins 0 L.comps) p w.0), (AtGate, same_is AtGate (seen_at L p) w.1)))
      (split_has (filter (is_seen L AtBox) (comp_pins 0 L.comps)) _ p i))
      (split_has (filter (is_seen L AtChip) (tops_to (length L.tops))) _ p h)

  -- a known pin that is seen is found
  is_found : (p : PinRef) → IsKnownPin L p → (s : Seen) → seen_at L p ≡ Some s → Has (seen_pins L) p
  is_found (Top t) h s e =
      has_append_left (filter (is_seen L AtChip) (tops_to (length L.tops))) _ (Top t) (has_filter (is_seen L AtChip) (tops_to (length L.tops)) (Top t) (has_top L t.0 h) (by_dir (slice_get L.tops t.0) s e))
    where
      by_dir : (o : Option TopRow) (s : Seen) → seen_top o ≡ Some s → same_seen AtChip (seen_top o) ≡ true
      by_dir None s e = absurd (not_None (sym e))
      by_dir (Some r) s e = go r.dir e
        where
          go : (d : Dir) → seen_top (Some (record r { dir = d })) ≡ Some s → same_seen AtChip (seen_top (Some (record r { dir = d }))) ≡ true
          go Input e = absurd (not_None (sym e))
          go Output e = refl
          go Inout e = refl
  is_found (Pin c k) h AtChip e = absurd (no_chip L _ _ e)
  is_found (Pin c k) h AtBox e =
      has_append_right (filter (is_seen L AtChip) (tops_to (length L.tops))) _ (Pin c k) (has_append_left (filter (is_seen L AtBox) (comp_pins 0 L.comps)) _ (Pin c k)
      (has_filter (is_seen L AtBox) (comp_pins 0 L.comps) (Pin c k) (has_pin L c k h) (ap (same_seen AtBox) e)))
  is_found (Pin c k) h AtGate e =
      has_append_right (filter (is_seen L AtChip) (tops_to (length L.tops))) _ (Pin c k) (has_append_right (filter (is_seen L AtBox) (comp_pins 0 L.comps)) _ (Pin c k)
      (has_filter (is_seen L AtGate) (comp_pins 0 L.comps) (Pin c k) (has_pin L c k h) (ap (same_seen AtGate) e)))

  -- the pins that are seen are the observables, each once and in order
  pub seen_are : ArePins L (observed_order L) (IsObservable (netlist L)) (seen_pins L)
  seen_are = record {
    sorted = seen_sorted L;
    known = λ p c. (found_is p (has_from_contains _ p c)).0;
    each = λ p c. let w = found_is p (has_from_contains _ p c) in seen_named L is p w.0 w.1.0 w.1.1;
    all = λ p k o. let s = named_seen L is p k o in contains_from_has _ p (is_found p k s.0 s.1);
  }

-- ---- one pin more

pub kept : {A : Type 0} (t : A → Bool) (before xs : List A) (y : A) → t y ≡ true → (before ++ filter t xs) ++ y ∷ [] ≡ before ++ filter t (xs ++ y ∷ [])
kept t before xs y e =
    append_assoc before (filter t xs) (y ∷ [])
    ∙ ap (λ ys. before ++ ys) (sym (filter-append t xs (y ∷ []) ∙ ap (λ b. filter t xs ++ cond b (y ∷ []) []) e))

pub passed : {A : Type 0} (t : A → Bool) (before xs : List A) (y : A) → t y ≡ false → before ++ filter t xs ≡ before ++ filter t (xs ++ y ∷ [])
passed t before xs y e = ap (λ ys. before ++ ys) (sym (filter-append t xs (y ∷ []) ∙ ap (λ b. filter t xs ++ cond b (y ∷ []) []) e ∙ append-nil (filter t xs)))
