-- The cut key of a net by number and by name
use Rattle.std.proofs.Common.{◌≡◌, ℕ, zero, suc, ◌+◌, ◌<◌, Bool, true, false, [], ◌∷◌, map, length, drop, Option, Some, None, refl, sym, ap, ap₂, ◌∙◌, subst, arith, slice_get, inl, inr, true≢false}
use Rattle.std.specs.List.{filter_map, range_with_len, cons_option}
use Rattle.std.specs.FinMap.{get}
use Rattle.std.proofs.lemmas.List.{drop_all, drop_more}
use Rattle.std.proofs.lemmas.Option.{get_or_from_slice_get}
use Rattle.eco_common.specs.declared.geometry.Dir.{Dir}
use Rattle.eco_common.specs.declared.geometry.Dir.TheVariants.{Input, Output, Inout}
use Rattle.eco_net.specs.declared.kind.Kind.{Kind}
use Rattle.eco_net.specs.declared.kind.Kind.TheVariants.{Gate, Boxed as GivenBox}
use Rattle.eco_net.specs.declared.rows.NetRow.{NetRow}
use Rattle.eco_net.specs.declared.ids.CompId.{CompId}
use Rattle.eco_net.specs.declared.ids.TopId.{TopId}
use Rattle.eco_net.specs.declared.ids.PinRef.{PinRef}
use Rattle.eco_net.specs.declared.ids.PinRef.TheVariants.{Top as TopNumber, Pin as PinNumber}
use Rattle.eco_net.specs.declared.cut.CutKey.{CutKey as KeyNumber}
use Rattle.eco_net.specs.declared.cut.CutKey.TheVariants.{Net}
use Rattle.eco_net.specs.Netlist.{Netlist, Role, GateInput, GateOutput, BoxedPin, pins_of}
use Rattle.eco_net.specs.Drivers.{is_driving, IsComputed, IsFree}
use Rattle.eco_net.specs.CutKeys.{PinKey, NetKey, KeyOf, is_source_pin, is_source_top, is_source_at, is_source, is_input}
use Rattle.eco_net.specs.Listing.{Listing, netlist, net_names, numbered_pin, pins, given_kind}
use Rattle.eco_net.specs.Kept.{IsListing}
use Rattle.eco_net.specs.ByNumber.{driver_at}
use Rattle.eco_net.specs.Gates.{by_kind, gate_at, gate_pin, unsupplied}
use Rattle.eco_net.specs.KeysOf.{key_named, KeysAlong, key_by_dir, key_by_top, key_by_role, key_by_driver, unless_supply, key_of_row, key_at, keys_of}
use Rattle.eco_net.proofs.Basics.{Has, same_Some, not_None}
use Rattle.eco_net.proofs.Places.{at_place}
use Rattle.eco_net.proofs.Named.{net_is, comp_is, top_is, role_is}
use Rattle.eco_net.proofs.PinNames.{pin_row, PinRow, top_row, TopAt, pin_name_is, top_name_is, pin_role_is, net_name_is}
use Rattle.eco_net.proofs.DriverNames.{driver_named, no_driver_named, driver_drives}
use Rattle.eco_net.proofs.GateNames.{nm, is_computed, not_computed, is_gate, has_at, box_outside, gate_inside}

module _ (L : Listing) (is : IsListing L) where
  -- ---- what a pin's number says of its name

  top_source : (t : TopId) (w : TopAt L t.0) → is_source_pin (netlist L) (numbered_pin L (TopNumber t)) ≡ is_input w.row.dir
  top_source t w = ap (is_source_pin (netlist L)) (top_name_is L t.0 w) ∙ ap is_source_top (top_is L is t.0 w.row w.is)

  pin_source : (c : CompId) (k : ℕ) (w : PinRow L c.0 k) → is_source_pin (netlist L) (numbered_pin L (PinNumber c k)) ≡ is_source (Some w.pin.1)
  pin_source c k w =
      ap (is_source_pin (netlist L)) (pin_name_is L c.0 k w)
      ∙ ap (λ o. is_source_at o w.pin.0) (comp_is L is c.0 w.row w.is)
      ∙ ap is_source (role_is L is c.0 w.row k w.pin w.is w.at)

  -- ---- a net that is no supply

  module _ (n : ℕ) (h : n < length L.nets) where
    abbrev N : Netlist
    N = netlist L

    row : (r : NetRow) × (slice_get L.nets n ≡ Some r)
    row = at_place L.nets n h

    supply_named : get N.nets (nm L is n) ≡ Some row.0.supply
    supply_named = ap (get N.nets) (net_name_is L is n row.0 row.1) ∙ net_is L is n row.0 row.1

    -- the key that is its driving pin, where that is a source
    driver_key : (p : PinRef) → driver_at L n ≡ Some p → is_source_pin N (numbered_pin L p) ≡ true → KeyOf N (nm L is n) (PinKey (numbered_pin L p))
    driver_key p d s = ((driver_named L is n p h d).1, s)

    -- the net itself, where its driving pin is no source
    other_key : (p : PinRef) → driver_at L n ≡ Some p → is_source_pin N (numbered_pin L p) ≡ false → KeyOf N (nm L is n) (NetKey (nm L is n))
    other_key p d s = (refl, λ q e t. true≢false (sym t ∙ ap (is_source_pin N) (sym (e.only (numbered_pin L p) (driver_named L is n p h d).1.drives)) ∙ s))

    no_key : driver_at L n ≡ None → KeyOf N (nm L is n) (NetKey (nm L is n))
    no_key d = (refl, λ q e t. no_driver_named L is n h d q e)

    free_by : row.0.supply ≡ None → (o : Option PinRef) → driver_at L n ≡ o → gate_pin L o ≡ None → IsFree N (nm L is n)
    free_by s o d g = (
      supply_named ∙ ap Some s,
      not_computed L is n h (ap₂ (λ r p. unsupplied r (gate_pin L p)) row.1 d ∙ ap (unsupplied (Some row.0)) g ∙ none row.0.supply),
    )
      where
        none : (s : Option Bool) → unsupplied (Some (record row.0 { supply = s })) None ≡ None
        none None = refl
        none (Some b) = refl

    abbrev Keyed : KeyNumber → Type 0
    Keyed key = IsFree N (nm L is n) × KeyOf N (nm L is n) (key_named L key)

    own : (key : KeyNumber) → Some (Net (record { 0 = n })) ≡ Some key → IsFree N (nm L is n) → KeyOf N (nm L is n) (NetKey (nm L is n)) → Keyed key
    own key e f k = subst Keyed (same_Some e) (f, k)

    by_dir : row.0.supply ≡ None → (t : TopId) → driver_at L n ≡ Some (TopNumber t) → (w : TopAt L t.0) → (d : Dir) → w.row.dir ≡ d → (key : KeyNumber) → key_by_dir d t n ≡ Some key → Keyed key
    by_dir s t d w Input e key f = subst Keyed (same_Some f) (free_by s (Some (TopNumber t)) d refl, driver_key (TopNumber t) d (top_source t w ∙ ap is_input e))
    by_dir s t d w Output e key f = own key f (free_by s (Some (TopNumber t)) d refl) (other_key (TopNumber t) d (top_source t w ∙ ap is_input e))
    by_dir s t d w Inout e key f = own key f (free_by s (Some (TopNumber t)) d refl) (other_key (TopNumber t) d (top_source t w ∙ ap is_input e))

    -- a pin of a box is no gate's
    boxed : (c : CompId) (k : ℕ) (w : PinRow L c.0 k) (d : Dir) → w.pin.1 ≡ BoxedPin d → gate_pin L (Some (PinNumber c k)) ≡ None
    boxed c k w d e = go w.row.kind refl
      where
        go : (x : Kind) → w.row.kind ≡ x → gate_pin L (Some (PinNumber c k)) ≡ None
        go (Gate m) f = absurd (gate_inside m w.pin (subst (λ x. Has (pins_of (given_kind x)) w.pin) f (has_at (pins w.row) k w.pin w.at)) d e)
        go (GivenBox ps) f = ap (λ o. gate_at o c k) w.is ∙ ap (λ x. by_kind x c k) f

    by_role : row.0.supply ≡ None → (c : CompId) (k : ℕ) → driver_at L n ≡ Some (PinNumber c k) → (w : PinRow L c.0 k) → (r : Role) → w.pin.1 ≡ r → (key : KeyNumber) → key_by_role (Some r) c k n ≡ Some key → Keyed key
    by_role s c k d w GateInput e key f = absurd (true≢false (sym (driver_drives L is n (PinNumber c k) d) ∙ ap is_driving (pin_role_is L c.0 k w ∙ ap Some e)))
    by_role s c k d w (GateOutput t) e key f = absurd (not_None (sym f))
    by_role s c k d w (BoxedPin Input) e key f = own key f (free_by s (Some (PinNumber c k)) d (boxed c k w Input e)) (other_key (PinNumber c k) d (pin_source c k w ∙ ap (λ r. is_source (Some r)) e))
    by_role s c k d w (BoxedPin Output) e key f = subst Keyed (same_Some f) (free_by s (Some (PinNumber c k)) d (boxed c k w Output e), driver_key (PinNumber c k) d (pin_source c k w ∙ ap (λ r. is_source (Some r)) e))
    by_role s c k d w (BoxedPin Inout) e key f = own key f (free_by s (Some (PinNumber c k)) d (boxed c k w Inout e)) (other_key (PinNumber c k) d (pin_source c k w ∙ ap (λ r. is_source (Some r)) e))

    by_driver : row.0.supply ≡ None → (o : Option PinRef) → driver_at L n ≡ o → (key : KeyNumber) → key_by_driver L n o ≡ Some key → Keyed key
    by_driver s None d key e = own key e (free_by s None d refl) (no_key d)
    by_driver s (Some (TopNumber t)) d key e =
        let w = top_row L t.0 (driver_named L is n (TopNumber t) h d).0 in
        by_dir s t d w w.row.dir refl key (sym (ap (λ o. key_by_top o t n) w.is) ∙ e)
    by_driver s (Some (PinNumber c k)) d key e =
        let w = pin_row L is c.0 k (driver_named L is n (PinNumber c k) h d).0 in
        by_role s c k d w w.pin.1 refl key (sym (ap (λ o. key_by_role o c k n) (pin_role_is L c.0 k w)) ∙ e)

    by_supply : (s : Option Bool) → row.0.supply ≡ s → (key : KeyNumber) → unless_supply s (key_by_driver L n (driver_at L n)) ≡ Some key → Keyed key
    by_supply None s key e = by_driver s (driver_at L n) refl key e
    by_supply (Some b) s key e = absurd (not_None (sym e))

    row_key : key_at L n ≡ unless_supply row.0.supply (key_by_driver L n (driver_at L n))
    row_key = ap (λ o. key_of_row o (key_by_driver L n (driver_at L n))) row.1

    -- a net with a key is free, and that is its key
    pub keyed : (key : KeyNumber) → key_at L n ≡ Some key → IsFree (netlist L) (nm L is n) × KeyOf (netlist L) (nm L is n) (key_named L key)
    keyed key e = by_supply row.0.supply refl key (sym row_key ∙ e)

    computing : row.0.supply ≡ None → (c : CompId) (k : ℕ) → driver_at L n ≡ Some (PinNumber c k) → (w : PinRow L c.0 k) → (r : Role) → w.pin.1 ≡ r → key_by_role (Some r) c k n ≡ None → IsComputed N (nm L is n)
    computing s c k d w GateInput e f = absurd (not_None f)
    computing s c k d w (BoxedPin Input) e f = absurd (not_None f)
    computing s c k d w (BoxedPin Output) e f = absurd (not_None f)
    computing s c k d w (BoxedPin Inout) e f = absurd (not_None f)
    computing s c k d w (GateOutput t) e f = go w.row.kind refl
      where
        go : (x : Kind) → w.row.kind ≡ x → IsComputed N (nm L is n)
        go (Gate m) g = is_computed L is n (c, k) (is_gate L n (c, k) (record { row = row.0; net = row.1; free = s; driver = d; comp = w.row; at = w.is; master = m; kind = g }))
        go (GivenBox ps) g = absurd (box_outside ps w.pin (subst (λ x. Has (pins_of (given_kind x)) w.pin) g (has_at (pins w.row) k w.pin w.at)) t e)

    dir_has : (d : Dir) (t : TopId) → key_by_dir d t n ≡ None → ⊥
    dir_has Input t e = not_None e
    dir_has Output t e = not_None e
    dir_has Inout t e = not_None e

    no_key_by : row.0.supply ≡ None → (o : Option PinRef) → driver_at L n ≡ o → key_by_driver L n o ≡ None → IsComputed N (nm L is n)
    no_key_by s None d e = absurd (not_None e)
    no_key_by s (Some (TopNumber t)) d e =
        let w = top_row L t.0 (driver_named L is n (TopNumber t) h d).0 in
        absurd (dir_has w.row.dir t (sym (ap (λ o. key_by_top o t n) w.is) ∙ e))
    no_key_by s (Some (PinNumber c k)) d e =
        let w = pin_row L is c.0 k (driver_named L is n (PinNumber c k) h d).0 in
        computing s c k d w w.pin.1 refl (sym (ap (λ o. key_by_role o c k n) (pin_role_is L c.0 k w)) ∙ e)

    -- a net without a key isn't free
    pub unkeyed : key_at L n ≡ None → IsFree (netlist L) (nm L is n) → ⊥
    unkeyed e f =
        let s : row.0.supply ≡ None = same_Some (sym supply_named ∙ f.0) in
        f.1 (no_key_by s (driver_at L n) refl (sym (ap (λ x. unless_supply x (key_by_driver L n (driver_at L n))) s) ∙ sym row_key ∙ e))

  -- ---- the keys of all nets, in order

  along_from : (a m : ℕ) → a + m ≡ length L.nets → KeysAlong (netlist L) (map (λ r. r.name) (drop a L.nets)) (map (key_named L) (filter_map (key_at L) (range_with_len a m)))
  along_from a zero e = subst (λ rs. KeysAlong (netlist L) (map (λ (r : NetRow). r.name) rs) []) (sym (drop_all a L.nets (omega (arith, e)))) refl
  along_from a (suc m) e =
      let h : a < length L.nets = omega (arith, e) in
      let r = at_place L.nets a h in
      let left : drop a L.nets ≡ r.0 ∷ drop (a + 1) L.nets = drop_more L.nets a r.0 h ∙ ap (λ x. x ∷ drop (a + 1) L.nets) (get_or_from_slice_get L.nets a r.0 r.0 r.1) in
      let rest = along_from (a + 1) m (omega (arith, e)) in
      subst (λ rs. KeysAlong (netlist L) (map (λ (r : NetRow). r.name) rs) (map (key_named L) (filter_map (key_at L) (range_with_len a (suc m))))) (sym left) (go a m r.0 (net_name_is L is a r.0 r.1) (key_at L a) refl h rest)
    where
      go : (a m : ℕ) (r : NetRow) → nm L is a ≡ r.name → (o : Option KeyNumber) → key_at L a ≡ o → a < length L.nets → KeysAlong (netlist L) (map (λ r. r.name) (drop (a + 1) L.nets)) (map (key_named L) (filter_map (key_at L) (range_with_len (a + 1) m))) → KeysAlong (netlist L) (r.name ∷ map (λ r. r.name) (drop (a + 1) L.nets)) (map (key_named L) (cons_option o (filter_map (key_at L) (range_with_len (a + 1) m))))
      go a m r n None e h rest = inr (subst (λ q. IsFree (netlist L) q → ⊥) n (unkeyed a h e), rest)
      go a m r n (Some key) e h rest =
          let k = keyed a h key e in
          inl (subst (IsFree (netlist L)) n k.0, key_named L key, map (key_named L) (filter_map (key_at L) (range_with_len (a + 1) m)), refl, subst (λ q. KeyOf (netlist L) q (key_named L key)) n k.1, rest)

  pub keys_along : KeysAlong (netlist L) (net_names L) (map (key_named L) (keys_of L))
  keys_along = along_from 0 (length L.nets) (omega arith)
