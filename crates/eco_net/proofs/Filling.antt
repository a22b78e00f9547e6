-- Lists that are filled in two rounds: the counts of the first give each list its places
use Rattle.std.proofs.Common.{◌≡◌, ℕ, zero, suc, ◌+◌, ◌*◌, ◌^◌, ◌<◌, ◌≤◌, Bool, true, false, cond, List, [], ◌∷◌, ◌++◌, map, length, get_or, set, take, Option, Some, None, refl, sym, ap, ap₂, ◌∙◌, subst, arith, replicate, slice_get, inl, inr, ⊎_elim, ◌⊎◌, sum, length-set, get_or-set_same, get_or-set_other}
use Rattle.std.specs.List.{filter, range_with_len}
use Rattle.std.proofs.lemmas.List.{same_lists, get_or_past, length-replicate, get_or-replicate, take-take, take_all, length-append}
use Rattle.std.proofs.lemmas.List.Edits.{length-between, get_or-between}
use Rattle.std.proofs.lemmas.List.FromFn.{length-map-range_with_len, get_or-map-range_with_len}
use Rattle.std.proofs.lemmas.List.Sums.{sum_by-set, sum_by_more, sum_by-take-le, fold_push, fold-append}
use Rattle.std.proofs.lemmas.List.Folds.{sum_by-replicate}
use Rattle.std.proofs.lemmas.Option.{slice_get-get_or}
use Rattle.std.proofs.lemmas.Bool.{eq-eqb, ne_eqb, cases_eq, cases_order, cases_lt}
use Rattle.eco_net.specs.declared.rows.CompRow.{CompRow}
use Rattle.eco_net.specs.declared.ids.PinRef.{PinRef}
use Rattle.eco_net.specs.declared.ids.PinRef.TheVariants.{Top, Pin}
use Rattle.eco_net.specs.Listing.{Listing, pins}
use Rattle.eco_net.specs.ByNumber.{net_at, is_net, is_on, by_net, tops_to, pins_to, comp_pins, all_pins}
use Rattle.eco_net.specs.PinLists.{Places, put_if_on, put_all, sums, list_at, lists, AreEnds}
use Rattle.eco_net.specs.Kept.{IsListing}
use Rattle.eco_net.proofs.Basics.{Has, map_agree}
use Rattle.eco_net.proofs.AllPins.{on_net, below_has, known_has}
use Rattle.eco_net.proofs.PinNames.{known_net}

-- ---- one pin

put_ends : (P : Places) (o : Option ℕ) (p : PinRef) → length (put_if_on P o p).ends ≡ length P.ends
put_ends P None p = refl
put_ends P (Some m) p = length-set P.ends m (get_or P.ends m 0 + 1)

put_places : (P : Places) (o : Option ℕ) (p : PinRef) → length (put_if_on P o p).pins ≡ length P.pins
put_places P None p = refl
put_places P (Some m) p = length-set P.pins (get_or P.ends m 0) p

-- the end of a list moves past the pin that is put on it
put_end : (P : Places) (o : Option ℕ) (p : PinRef) (n : ℕ) → n < length P.ends → get_or (put_if_on P o p).ends n 0 ≡ get_or P.ends n 0 + cond (is_net o n) 1 0
put_end P None p n h = omega arith
put_end P (Some m) p n h = ⊎_elim
    (λ e. subst (λ m. get_or (set P.ends m (get_or P.ends m 0 + 1)) n 0 ≡ get_or P.ends n 0 + cond (is_net (Some m) n) 1 0) e
    (get_or-set_same P.ends n (get_or P.ends n 0 + 1) 0 h ∙ ap (λ b. get_or P.ends n 0 + cond b 1 0) (sym (eq-eqb n n refl))))
    (λ a. let z : get_or P.ends n 0 ≡ get_or P.ends n 0 + 0 = omega arith in
    get_or-set_other P.ends m n (get_or P.ends m 0 + 1) 0 a ∙ z ∙ ap (λ b. get_or P.ends n 0 + cond b 1 0) (sym (ne_eqb m n (λ e. a (sym e)))))
    (cases_eq n m)

put_within : (P : Places) (o : Option ℕ) (p : PinRef) (n : ℕ) → get_or (put_if_on P o p).ends n 0 ≤ get_or P.ends n 0 + 1
put_within P o p n = ⊎_elim
    (λ h. go (is_net o n) (put_end P o p n h))
    (λ h. omega (arith, get_or_past (put_if_on P o p).ends n 0 (omega (arith, h, put_ends P o p))))
    (cases_lt n (length P.ends))
  where
    go : (b : Bool) → get_or (put_if_on P o p).ends n 0 ≡ get_or P.ends n 0 + cond b 1 0 → get_or (put_if_on P o p).ends n 0 ≤ get_or P.ends n 0 + 1
    go true e = omega (arith, e)
    go false e = omega (arith, e)

-- ---- each of some pins

count_more : (b : Bool) (p : PinRef) (qs : List PinRef) → length (cond b (p ∷ qs) qs) ≡ cond b 1 0 + length qs
count_more true p qs = omega arith
count_more false p qs = omega arith

module _ (L : Listing) where
  -- each of these pins is on one of n nets or on none
  abbrev pub AreOn : ℕ → List PinRef → Type 0
  AreOn n ps = (p : PinRef) → Has ps p → (m : ℕ) → net_at L p ≡ Some m → m < n

  pub all_ends : (ps : List PinRef) (P : Places) → length (put_all L P ps).ends ≡ length P.ends
  all_ends [] P = refl
  all_ends (p ∷ ps) P = all_ends ps (put_if_on P (net_at L p) p) ∙ put_ends P (net_at L p) p

  pub all_places : (ps : List PinRef) (P : Places) → length (put_all L P ps).pins ≡ length P.pins
  all_places [] P = refl
  all_places (p ∷ ps) P = all_places ps (put_if_on P (net_at L p) p) ∙ put_places P (net_at L p) p

  -- no end moves further than there are pins
  pub all_within : (ps : List PinRef) (P : Places) (n : ℕ) → get_or (put_all L P ps).ends n 0 ≤ get_or P.ends n 0 + length ps
  all_within [] P n = omega arith
  all_within (p ∷ ps) P n = omega (arith, all_within ps (put_if_on P (net_at L p) p) n, put_within P (net_at L p) p n)

  pub all_sum : (ps : List PinRef) (P : Places) → AreOn (length P.ends) ps → sum (put_all L P ps).ends ≤ sum P.ends + length ps
  all_sum [] P on = omega arith
  all_sum (p ∷ ps) P on =
      let P' = put_if_on P (net_at L p) p in
      let rest = all_sum ps P' (subst (λ n. AreOn n ps) (sym (put_ends P (net_at L p) p)) (λ q i. on q (inr i))) in
      let one : sum P'.ends ≤ sum P.ends + 1 = go (net_at L p) refl in
      omega (arith, rest, one)
    where
      go : (o : Option ℕ) → net_at L p ≡ o → sum (put_if_on P o p).ends ≤ sum P.ends + 1
      go None e = omega arith
      go (Some m) e = omega (arith, sum_by-set (λ x. x) P.ends m (get_or P.ends m 0 + 1) 0 (on p (inl refl) m e))

  abbrev count_on : ℕ → List PinRef → ℕ
  count_on n ps = length (filter (is_on L n) ps)

  -- the first of them moves the end of its list, and is one of those that its list still gets
  end_first : (p : PinRef) (ps : List PinRef) (P : Places) (n : ℕ) → n < length P.ends → get_or (put_if_on P (net_at L p) p).ends n 0 + count_on n ps ≡ get_or P.ends n 0 + count_on n (p ∷ ps)
  end_first p ps P n h = omega (arith, put_end P (net_at L p) p n h, count_more (is_on L n p) p (filter (is_on L n) ps))

  end_grows : (p : PinRef) (P : Places) (n : ℕ) → n < length P.ends → get_or P.ends n 0 ≤ get_or (put_if_on P (net_at L p) p).ends n 0
  end_grows p P n h = omega (arith, put_end P (net_at L p) p n h)

  -- each list ends after so many pins as it gets
  pub all_end : (ps : List PinRef) (P : Places) (n : ℕ) → n < length P.ends → get_or (put_all L P ps).ends n 0 ≡ get_or P.ends n 0 + count_on n ps
  all_end [] P n h = omega arith
  all_end (p ∷ ps) P n h =
      all_end ps (put_if_on P (net_at L p) p) n (omega (arith, h, put_ends P (net_at L p) p)) ∙ end_first p ps P n h

  -- each list has places of its own for the pins that it still gets
  pub record HasRoom (P : Places) (ps : List PinRef) : Type 0 where
    pub within : (n : ℕ) → n < length P.ends → get_or P.ends n 0 + length (filter (is_on L n) ps) ≤ length P.pins
    pub apart : (m n : ℕ) → m < n → n < length P.ends → get_or P.ends m 0 + length (filter (is_on L m) ps) ≤ get_or P.ends n 0

  room_rest : (p : PinRef) (ps : List PinRef) (P : Places) → HasRoom P (p ∷ ps) → HasRoom (put_if_on P (net_at L p) p) ps
  room_rest p ps P r = record {
    within = λ n h.
        let h' : n < length P.ends = omega (arith, h, put_ends P (net_at L p) p) in
        omega (arith, end_first p ps P n h', r.within n h', put_places P (net_at L p) p);
    apart = λ m n l h.
        let h' : n < length P.ends = omega (arith, h, put_ends P (net_at L p) p) in
        omega (arith, end_first p ps P m (omega (arith, l, h')), r.apart m n l h', end_grows p P n h');
  }

  -- a place that no list reaches keeps its pin
  kept : (ps : List PinRef) (P : Places) (j : ℕ) (d : PinRef) → AreOn (length P.ends) ps → ((n : ℕ) → n < length P.ends → (j < get_or P.ends n 0) ⊎ (get_or P.ends n 0 + count_on n ps ≤ j)) → get_or (put_all L P ps).pins j d ≡ get_or P.pins j d
  kept [] P j d on far = refl
  kept (p ∷ ps) P j d on far =
      kept ps (put_if_on P (net_at L p) p) j d (subst (λ n. AreOn n ps) (sym (put_ends P (net_at L p) p)) (λ q i. on q (inr i)))
      (λ n h.
      let h' : n < length P.ends = omega (arith, h, put_ends P (net_at L p) p) in
      ⊎_elim (λ l. inl (omega (arith, l, end_grows p P n h'))) (λ l. inr (omega (arith, l, end_first p ps P n h'))) (far n h'))
      ∙ go (net_at L p) refl
    where
      go : (o : Option ℕ) → net_at L p ≡ o → get_or (put_if_on P o p).pins j d ≡ get_or P.pins j d
      go None e = refl
      go (Some m) e =
          let h = on p (inl refl) m e in
          let one : count_on m (p ∷ ps) ≡ 1 + count_on m ps = count_more (is_on L m p) p (filter (is_on L m) ps) ∙ ap (λ b. cond b 1 0 + count_on m ps) (ap (λ o. is_net o m) e ∙ eq-eqb m m refl) in
          get_or-set_other P.pins (get_or P.ends m 0) j p d (⊎_elim (λ l s. omega (arith, l, s)) (λ l s. omega (arith, l, s, one)) (far m h))

  module _ (p : PinRef) (ps : List PinRef) (P : Places) (on : AreOn (length P.ends) (p ∷ ps)) (r : HasRoom P (p ∷ ps)) (n : ℕ) (h : n < length P.ends) where
    abbrev next : Places
    next = put_if_on P (net_at L p) p

    rest_on : AreOn (length next.ends) ps
    rest_on = subst (λ n. AreOn n ps) (sym (put_ends P (net_at L p) p)) (λ q i. on q (inr i))

    end_is : (b : Bool) → is_on L n p ≡ b → get_or next.ends n 0 ≡ get_or P.ends n 0 + cond b 1 0
    end_is b e = put_end P (net_at L p) p n h ∙ ap (λ b. get_or P.ends n 0 + cond b 1 0) e

    first_count : is_on L n p ≡ true → count_on n (p ∷ ps) ≡ 1 + count_on n ps
    first_count e = count_more (is_on L n p) p (filter (is_on L n) ps) ∙ ap (λ b. cond b 1 0 + count_on n ps) e

    -- no pin that comes later is put at the place of the first
    first_far : is_on L n p ≡ true → (m : ℕ) → m < length P.ends → (get_or P.ends n 0 < get_or next.ends m 0) ⊎ (get_or next.ends m 0 + count_on m ps ≤ get_or P.ends n 0)
    first_far e m g = ⊎_elim
        (λ s. inl (subst (λ m. get_or P.ends n 0 < get_or next.ends m 0) (sym s) (omega (arith, end_is true e))))
        (λ s. ⊎_elim
        (λ l. inr (omega (arith, r.apart m n l h, end_first p ps P m g)))
        (λ l. inl (omega (arith, r.apart n m l g, end_grows p P m g, first_count e)))
        s)
        (cases_order m n)

    first_placed : (d : PinRef) → is_on L n p ≡ true → get_or (put_all L next ps).pins (get_or P.ends n 0) d ≡ p
    first_placed d e =
        kept ps next (get_or P.ends n 0) d rest_on (λ m g. first_far e m (omega (arith, g, put_ends P (net_at L p) p)))
        ∙ ap (λ o. get_or (put_if_on P o p).pins (get_or P.ends n 0) d) (on_net (net_at L p) n e)
        ∙ get_or-set_same P.pins (get_or P.ends n 0) p d (omega (arith, r.within n h, first_count e))

    abbrev kept_by : Bool → List PinRef
    kept_by b = cond b (p ∷ filter (is_on L n) ps) (filter (is_on L n) ps)

    step_placed : (d : PinRef) → ((k : ℕ) → k < count_on n ps → get_or (put_all L next ps).pins (get_or next.ends n 0 + k) d ≡ get_or (filter (is_on L n) ps) k d) → (b : Bool) → is_on L n p ≡ b → (k : ℕ) → k < length (kept_by b) → get_or (put_all L next ps).pins (get_or P.ends n 0 + k) d ≡ get_or (kept_by b) k d
    step_placed d rest false e k l =
        let z : get_or P.ends n 0 + k ≡ get_or next.ends n 0 + k = omega (arith, end_is false e) in
        ap (λ i. get_or (put_all L next ps).pins i d) z ∙ rest k l
    step_placed d rest true e zero l =
        let z : get_or P.ends n 0 + 0 ≡ get_or P.ends n 0 = omega arith in
        ap (λ i. get_or (put_all L next ps).pins i d) z ∙ first_placed d e
    step_placed d rest true e (suc k) l =
        let z : get_or P.ends n 0 + suc k ≡ get_or next.ends n 0 + k = omega (arith, end_is true e) in
        ap (λ i. get_or (put_all L next ps).pins i d) z ∙ rest k (omega (arith, l))

  -- each list has its pins in order
  pub placed : (ps : List PinRef) (P : Places) → AreOn (length P.ends) ps → HasRoom P ps → (n k : ℕ) (d : PinRef) → n < length P.ends → k < length (filter (is_on L n) ps) → get_or (put_all L P ps).pins (get_or P.ends n 0 + k) d ≡ get_or (filter (is_on L n) ps) k d
  placed [] P on r n k d h l = absurd (omega arith)
  placed (p ∷ ps) P on r n k d h l =
      step_placed p ps P on r n h d
      (λ j g. placed ps (put_if_on P (net_at L p) p) (rest_on p ps P on r n h) (room_rest p ps P r) n j d (omega (arith, h, put_ends P (net_at L p) p)) g)
      (is_on L n p) refl k l

-- ---- the lists

pub list_within : (ends : List ℕ) (pins : List PinRef) (n : ℕ) (ls : List (List PinRef)) → lists ends pins ≡ ls → n < length ls → n < length ends
list_within ends pins n ls e h = omega (arith, h, ap length e, length-map-range_with_len (list_at ends pins) 0 (length ends))

pub list_found : (ends : List ℕ) (pins : List PinRef) (n : ℕ) (ls : List (List PinRef)) → lists ends pins ≡ ls → n < length ls → slice_get ls n ≡ Some (list_at ends pins n)
list_found ends pins n ls e h =
    let l = list_within ends pins n ls e h in
    ap (λ ls. slice_get ls n) (sym e)
    ∙ slice_get-get_or (lists ends pins) n [] (omega (arith, h, ap length e))
    ∙ ap Some (get_or-map-range_with_len (list_at ends pins) 0 (length ends) n n [] l (omega arith))

-- ---- how many pins there are

pins_few : (c k : ℕ) (rows : List CompRow) → ((i : ℕ) (r : CompRow) → slice_get rows i ≡ Some r → length (pins r) < 2 ^ 32) → length (comp_pins c (take k rows)) ≤ length rows * 2 ^ 32
pins_few c zero rows few = omega arith
pins_few c (suc k) [] few = omega arith
pins_few c (suc k) (r ∷ rows) few =
    omega (arith, length-append (pins_to c (length (pins r))) (comp_pins (c + 1) (take k rows)), length-map-range_with_len (λ k. Pin (record { 0 = c }) k) 0 (length (pins r)), few 0 r refl, pins_few (c + 1) k rows (λ i. few (suc i)))

module _ (L : Listing) (is : IsListing L) where
  pub some_few : (k : ℕ) → length (tops_to (length L.tops) ++ comp_pins 0 (take k L.comps)) < 2 ^ 54
  some_few k =
      omega (arith, length-append (tops_to (length L.tops)) (comp_pins 0 (take k L.comps)), length-map-range_with_len (λ t. Top (record { 0 = t })) 0 (length L.tops), pins_few 0 k L.comps (λ i r e. (is.rows i r e).kind.few), is.few_tops, is.few_comps)

  pub all_few : length (all_pins L) < 2 ^ 54
  all_few = omega (arith, some_few (length L.comps), ap (λ rows. length (tops_to (length L.tops) ++ comp_pins 0 rows)) (take_all (length L.comps) L.comps (omega arith)))

-- ---- a step of a walk over the pins

module _ (L : Listing) (P Q : Places) (ps : List PinRef) (e : Q ≡ put_all L P ps) where
  pub step_ends : length Q.ends ≡ length P.ends
  step_ends = ap (λ P. length P.ends) e ∙ all_ends L ps P

  pub step_few : (n : ℕ) → get_or Q.ends n 0 ≤ get_or P.ends n 0 + length ps
  step_few n = omega (arith, ap (λ P. get_or P.ends n 0) e, all_within L ps P n)

  pub step_put : (p : PinRef) (o : Option ℕ) (qs : List PinRef) → net_at L p ≡ o → qs ≡ ps ++ p ∷ [] → put_if_on Q o p ≡ put_all L P qs
  step_put p o qs f g =
      ap₂ (λ P o. put_if_on P o p) e (sym f)
      ∙ sym (fold_push (λ P p. put_if_on P (net_at L p) p) P ps p)
      ∙ ap (put_all L P) (sym g)

  pub step_more : (rs qs : List PinRef) → qs ≡ ps ++ rs → put_all L Q rs ≡ put_all L P qs
  step_more rs qs g =
      ap (λ P. put_all L P rs) e
      ∙ sym (fold-append (λ P p. put_if_on P (net_at L p) p) P ps rs)
      ∙ ap (put_all L P) (sym g)

-- ---- both rounds

module _ (L : Listing) (is : IsListing L) where
  -- the pins of each list, and where they begin
  abbrev size : ℕ → ℕ
  size n = length (filter (is_on L n) (all_pins L))

  pub are_on : AreOn L (length L.nets) (all_pins L)
  are_on p i m e = known_net L is p m (known_has L p i) e

  module _ (A B : Places) (a : A ≡ record { ends = replicate (length L.nets) 0; pins = [] }) (b : B ≡ put_all L A (all_pins L)) where
    none_ends : length A.ends ≡ length L.nets
    none_ends = ap (λ P. length P.ends) a ∙ length-replicate (length L.nets) 0

    pub none_few : (n : ℕ) → get_or A.ends n 0 ≡ 0
    none_few n = ap (λ P. get_or P.ends n 0) a ∙ ⊎_elim
        (λ h. get_or-replicate (length L.nets) n 0 0 h)
        (λ h. get_or_past (replicate (length L.nets) 0) n 0 (omega (arith, h, length-replicate {A = ℕ} (length L.nets) 0)))
        (cases_lt n (length L.nets))

    pub counted_ends : length B.ends ≡ length L.nets
    counted_ends = ap (λ P. length P.ends) b ∙ all_ends L (all_pins L) A ∙ none_ends

    counted : (n : ℕ) → n < length L.nets → get_or B.ends n 0 ≡ size n
    counted n h = omega (arith, ap (λ P. get_or P.ends n 0) b, all_end L (all_pins L) A n (omega (arith, h, none_ends)), none_few n)

    pub counted_few : sum B.ends < 2 ^ 54
    counted_few = omega (arith, ap (λ P. sum P.ends) b, all_sum L (all_pins L) A (subst (λ n. AreOn L n (all_pins L)) (sym none_ends) are_on), ap (λ P. sum P.ends) a, sum_by-replicate (λ x. x) (length L.nets) 0, all_few L is)

    module _ (C : Places) (x : PinRef) (c : C ≡ record { ends = sums B.ends; pins = replicate (sum B.ends) x }) where
      abbrev before : ℕ → ℕ
      before n = sum (take n B.ends)

      before_next : (n : ℕ) → n < length L.nets → before (n + 1) ≡ before n + size n
      before_next n h = sum_by_more (λ x. x) B.ends n 0 (omega (arith, h, counted_ends)) ∙ ap (λ m. before n + m) (counted n h)

      before_more : (m n : ℕ) → m ≤ n → before m ≤ before n
      before_more m n h = omega (arith, ap sum (take-take m n B.ends h), sum_by-take-le (λ x. x) (take n B.ends) m)

      pub room_ends : length C.ends ≡ length L.nets
      room_ends = ap (λ P. length P.ends) c ∙ length-map-range_with_len before 0 (length B.ends) ∙ counted_ends

      room_begins : (n : ℕ) → n < length L.nets → get_or C.ends n 0 ≡ before n
      room_begins n h = ap (λ P. get_or P.ends n 0) c ∙ get_or-map-range_with_len before 0 (length B.ends) n n 0 (omega (arith, h, counted_ends)) (omega arith)

      pub room_few : (n : ℕ) → get_or C.ends n 0 < 2 ^ 54
      room_few n = ⊎_elim
          (λ h. omega (arith, room_begins n h, sum_by-take-le (λ x. x) B.ends n, counted_few))
          (λ h. omega (arith, get_or_past C.ends n 0 (omega (arith, h, room_ends))))
          (cases_lt n (length L.nets))

      room_places : length C.pins ≡ sum B.ends
      room_places = ap (λ P. length P.pins) c ∙ length-replicate (sum B.ends) x

      has_room : HasRoom L C (all_pins L)
      has_room = record {
        within = λ n h.
            let h' : n < length L.nets = omega (arith, h, room_ends) in
            omega (arith, room_begins n h', before_next n h', sum_by-take-le (λ x. x) B.ends (n + 1), room_places);
        apart = λ m n l h.
            let h' : n < length L.nets = omega (arith, h, room_ends) in
            let g' : m < length L.nets = omega (arith, l, h') in
            omega (arith, room_begins m g', room_begins n h', before_next m g', before_more (m + 1) n (omega (arith, l)));
      }

      module _ (D : Places) (d : D ≡ put_all L C (all_pins L)) where
        filled_ends : length D.ends ≡ length L.nets
        filled_ends = ap (λ P. length P.ends) d ∙ all_ends L (all_pins L) C ∙ room_ends

        filled_places : length D.pins ≡ sum B.ends
        filled_places = ap (λ P. length P.pins) d ∙ all_places L (all_pins L) C ∙ room_places

        filled_end : (n : ℕ) → n < length L.nets → get_or D.ends n 0 ≡ before (n + 1)
        filled_end n h = omega (arith, ap (λ P. get_or P.ends n 0) d, all_end L (all_pins L) C n (omega (arith, h, room_ends)), room_begins n h, before_next n h)

        filled_start : (n : ℕ) → n < length L.nets → get_or (0 ∷ D.ends) n 0 ≡ before n
        filled_start zero h = refl
        filled_start (suc n) h = let z : n + 1 ≡ suc n = omega arith in filled_end n (omega arith) ∙ ap before z

        pub filled_within : AreEnds D.ends (length D.pins)
        filled_within n h =
            let h' : n < length L.nets = omega (arith, h, filled_ends) in
            (omega (arith, filled_start n h', filled_end n h', before_next n h'), omega (arith, filled_end n h', sum_by-take-le (λ x. x) B.ends (n + 1), filled_places))

        list_is : (n : ℕ) → n < length L.nets → list_at D.ends D.pins n ≡ filter (is_on L n) (all_pins L)
        list_is n h =
            let w = filled_within n (omega (arith, h, filled_ends)) in
            let len : length (list_at D.ends D.pins n) ≡ size n = omega (arith, length-between D.pins (get_or (0 ∷ D.ends) n 0) (get_or D.ends n 0) w.1, filled_start n h, filled_end n h, before_next n h) in
            same_lists _ _ len
            (λ k e l.
            let z : get_or (0 ∷ D.ends) n 0 + k ≡ get_or C.ends n 0 + k = omega (arith, filled_start n h, room_begins n h) in
            get_or-between D.pins (get_or (0 ∷ D.ends) n 0) (get_or D.ends n 0) k e (omega (arith, l, len, filled_start n h, filled_end n h, before_next n h))
            ∙ (λ i. get_or (d i).pins (z i) e)
            ∙ placed L (all_pins L) C (subst (λ n. AreOn L n (all_pins L)) (sym room_ends) are_on) has_room n k e (omega (arith, h, room_ends)) (omega (arith, l, len)))

        -- the lists are the pins of each net
        pub filled_lists : lists D.ends D.pins ≡ by_net L (all_pins L)
        filled_lists =
            ap (λ n. map (list_at D.ends D.pins) (range_with_len 0 n)) filled_ends
            ∙ map_agree (list_at D.ends D.pins) (λ n. filter (is_on L n) (all_pins L)) (range_with_len 0 (length L.nets)) (λ n i. list_is n (below_has (length L.nets) n i))
