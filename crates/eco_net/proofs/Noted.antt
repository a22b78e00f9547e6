-- The driving pins of each net as they are noted, a pin at a time
use Rattle.std.proofs.Common.{◌≡◌, ℕ, ◌+◌, ◌<◌, Bool, true, false, cond, List, [], ◌∷◌, ◌++◌, length, get_or, set, take, Option, Some, None, refl, sym, ap, ◌∙◌, subst, arith, replicate, slice_get, ⊎_elim, length-set, get_or-set_same, get_or-set_other}
use Rattle.std.specs.List.{filter, range_with_len}
use Rattle.std.proofs.lemmas.List.{same_lists, length-replicate, get_or-replicate, append-nil, append_assoc, take_all}
use Rattle.std.proofs.lemmas.List.Elements.{filter-append}
use Rattle.std.proofs.lemmas.List.FromFn.{length-map-range_with_len, get_or-map-range_with_len}
use Rattle.std.proofs.lemmas.Bool.{cases_eq, ne_eqb}
use Rattle.eco_net.specs.declared.ids.PinRef.{PinRef}
use Rattle.eco_net.specs.declared.ids.PinRef.TheVariants.{Pin}
use Rattle.eco_net.specs.declared.drivers.Driving.{Driving}
use Rattle.eco_net.specs.declared.drivers.Driving.TheVariants.{None as Undriven}
use Rattle.eco_net.specs.declared.rows.CompRow.{CompRow}
use Rattle.eco_net.specs.Listing.{Listing, pins}
use Rattle.eco_net.specs.ByNumber.{net_at, is_net, is_on, drives, tops_to, pins_to, comp_pins, all_pins, sole, driver_at}
use Rattle.eco_net.specs.Driving.{driving_of, driving_at, each_driving, pins_before}
use Rattle.eco_net.proofs.Basics.{map_agree}
use Rattle.eco_net.proofs.AllPins.{net_on}
use Rattle.eco_net.proofs.ByNets.{pins_more, comp_more}

module _ (L : Listing) where
  pub noted_length : (ps : List PinRef) → length (each_driving L ps) ≡ length L.nets
  noted_length ps = length-map-range_with_len (driving_at L ps) 0 (length L.nets)

  pub noted_at : (ps : List PinRef) (n : ℕ) (d : Driving) → n < length L.nets → get_or (each_driving L ps) n d ≡ driving_at L ps n
  noted_at ps n d h = get_or-map-range_with_len (driving_at L ps) 0 (length L.nets) n n d h (omega arith)

  pub none_noted : replicate (length L.nets) Undriven ≡ each_driving L []
  none_noted = same_lists _ _ (length-replicate (length L.nets) Undriven ∙ sym (noted_length []))
      (λ k d l.
      let h : k < length L.nets = omega (arith, l, length-replicate {A = Driving} (length L.nets) Undriven) in
      get_or-replicate (length L.nets) k Undriven d h ∙ sym (noted_at [] k d h))

  abbrev driving_on : ℕ → List PinRef → List PinRef
  driving_on n ps = filter (drives L) (filter (is_on L n) ps)

  driving_more : (n : ℕ) (ps qs : List PinRef) → driving_on n (ps ++ qs) ≡ driving_on n ps ++ driving_on n qs
  driving_more n ps qs = ap (filter (drives L)) (filter-append (is_on L n) ps qs) ∙ filter-append (drives L) (filter (is_on L n) ps) (filter (is_on L n) qs)

  module _ (ps : List PinRef) (p : PinRef) where
    passed : ((n : ℕ) → driving_on n (p ∷ []) ≡ []) → each_driving L ps ≡ each_driving L (ps ++ p ∷ [])
    passed none = map_agree (driving_at L ps) (driving_at L (ps ++ p ∷ [])) (range_with_len 0 (length L.nets))
        (λ n i. ap driving_of (sym (driving_more n ps (p ∷ []) ∙ ap (λ qs. driving_on n ps ++ qs) (none n) ∙ append-nil (driving_on n ps))))

    -- an unconnected pin
    pub off_passed : net_at L p ≡ None → each_driving L ps ≡ each_driving L (ps ++ p ∷ [])
    off_passed e = passed (λ n. ap (λ o. filter (drives L) (cond (is_net o n) (p ∷ []) [])) e)

    -- a pin that drives nothing
    pub sink_passed : drives L p ≡ false → each_driving L ps ≡ each_driving L (ps ++ p ∷ [])
    sink_passed e = passed (λ n. go (is_on L n p))
      where
        go : (b : Bool) → filter (drives L) (cond b (p ∷ []) []) ≡ []
        go true = ap (λ b. cond b (p ∷ []) []) e
        go false = refl

    -- a driving pin on a net
    module _ (m : ℕ) (on : net_at L p ≡ Some m) (is : drives L p ≡ true) where
      here : (n : ℕ) (b : Bool) → is_on L n p ≡ b → driving_on n (p ∷ []) ≡ cond b (p ∷ []) []
      here n true e = ap (λ b. filter (drives L) (cond b (p ∷ []) [])) e ∙ ap (λ b. cond b (p ∷ []) []) is
      here n false e = ap (λ b. filter (drives L) (cond b (p ∷ []) [])) e

      -- what a net is noted with after it
      after : (n : ℕ) (b : Bool) → is_on L n p ≡ b → driving_at L (ps ++ p ∷ []) n ≡ driving_of (driving_on n ps ++ cond b (p ∷ []) [])
      after n b e = ap driving_of (driving_more n ps (p ∷ []) ∙ ap (λ qs. driving_on n ps ++ qs) (here n b e))

      -- only its net's entry changes
      pub noted : (ds : List Driving) (x d : Driving) → ds ≡ each_driving L ps → m < length L.nets → ((qs : List PinRef) → get_or ds m d ≡ driving_of qs → x ≡ driving_of (qs ++ p ∷ [])) → set ds m x ≡ each_driving L (ps ++ p ∷ [])
      noted ds x d e h adds = ap (λ ds. set ds m x) e ∙ same_lists _ _
          (length-set (each_driving L ps) m x ∙ noted_length ps ∙ sym (noted_length (ps ++ p ∷ [])))
          (λ n y l.
          let g : n < length L.nets = omega (arith, l, length-set (each_driving L ps) m x, noted_length ps) in
          at n y g ∙ sym (noted_at (ps ++ p ∷ []) n y g))
        where
          at : (n : ℕ) (y : Driving) → n < length L.nets → get_or (set (each_driving L ps) m x) n y ≡ driving_at L (ps ++ p ∷ []) n
          at n y g = ⊎_elim
              (λ s. subst (λ n. get_or (set (each_driving L ps) m x) n y ≡ driving_at L (ps ++ p ∷ []) n) s
              (get_or-set_same (each_driving L ps) m x y (omega (arith, h, noted_length ps))
              ∙ adds (driving_on m ps) (ap (λ ds. get_or ds m d) e ∙ noted_at ps m d h)
              ∙ sym (after m true (net_on (net_at L p) m on))))
              (λ a. get_or-set_other (each_driving L ps) m n x y (λ s. a (sym s)) ∙ noted_at ps n y g
              ∙ ap driving_of (sym (append-nil (driving_on n ps)))
              ∙ sym (after n false (ap (λ o. is_net o n) on ∙ ne_eqb m n a)))
              (cases_eq m n)

  -- ---- the walk

  -- one more pin of a component
  pub before_pin : (c k : ℕ) → (pins_before L c ++ pins_to c k) ++ Pin (record { 0 = c }) k ∷ [] ≡ pins_before L c ++ pins_to c (k + 1)
  before_pin c k = append_assoc (pins_before L c) (pins_to c k) (Pin (record { 0 = c }) k ∷ []) ∙ ap (λ ps. pins_before L c ++ ps) (sym (pins_more c k))

  -- all pins of a component
  pub before_comp : (c : ℕ) (r : CompRow) → slice_get L.comps c ≡ Some r → c < length L.comps → pins_before L c ++ pins_to c (length (pins r)) ≡ pins_before L (c + 1)
  before_comp c r e h =
      append_assoc (tops_to (length L.tops)) (comp_pins 0 (take c L.comps)) (pins_to c (length (pins r)))
      ∙ ap (λ ps. tops_to (length L.tops) ++ ps) (sym (comp_more L c r e h))

  pub before_all : pins_before L (length L.comps) ≡ all_pins L
  before_all = ap (λ rows. tops_to (length L.tops) ++ comp_pins 0 rows) (take_all (length L.comps) L.comps (omega arith))

  -- an entry gives the driver
  pub sole_noted : (ds : List Driving) → ds ≡ each_driving L (all_pins L) → (n : ℕ) (d : Driving) (o : Option PinRef) → n < length L.nets → ((qs : List PinRef) → get_or ds n d ≡ driving_of qs → o ≡ sole qs) → o ≡ driver_at L n
  sole_noted ds e n d o h is = is (driving_on n (all_pins L)) (ap (λ ds. get_or ds n d) e ∙ noted_at (all_pins L) n d h)
