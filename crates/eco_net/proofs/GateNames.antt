-- Computed nets by number and by name
use Rattle.std.proofs.Common.{◌≡◌, ℕ, zero, suc, ◌+◌, ◌<◌, ◌≤◌, Bool, true, List, [], ◌∷◌, map, length, take, get_or, Option, Some, None, refl, sym, ap, ap₂, ◌∙◌, subst, arith, slice_get, inl, inr, ⊎_elim, true≢false}
use Rattle.std.specs.Option.{option_map}
use Rattle.std.specs.FinMap.{get}
use Rattle.std.proofs.lemmas.Option.{slice_get_within, get_or_from_slice_get}
use Rattle.std.proofs.lemmas.List.{length-map, same_lists, get_or-map, get_or-take, length-take-le}
use Rattle.eco_common.specs.declared.geometry.Dir.{Dir}
use Rattle.eco_func.specs.Masters.{MasterTables}
use Rattle.eco_net.specs.declared.kind.Kind.{Kind}
use Rattle.eco_net.specs.declared.kind.Kind.TheVariants.{Gate, Boxed}
use Rattle.eco_net.specs.declared.kind.BoxPin.{BoxPin}
use Rattle.eco_net.specs.declared.rows.NetRow.{NetRow}
use Rattle.eco_net.specs.declared.rows.CompRow.{CompRow}
use Rattle.eco_net.specs.declared.ids.CompId.{CompId}
use Rattle.eco_net.specs.declared.ids.PinRef.{PinRef}
use Rattle.eco_net.specs.declared.ids.PinRef.TheVariants.{Top, Pin}
use Rattle.eco_net.specs.Netlist.{Name, TopPin, CompPin, Role, GateInput as Read, GateOutput, BoxedPin, pins_of, role_of, input_nets, input_names}
use Rattle.eco_net.specs.Drivers.{is_driving, IsDriver, Computed, IsComputed}
use Rattle.eco_net.specs.Walks.{ReadsNet}
use Rattle.eco_net.specs.Listing.{Listing, netlist, component, pins, given_kind, net_name, numbered_pin, IsKnownPin}
use Rattle.eco_net.specs.Kept.{IsRow, IsListing}
use Rattle.eco_net.specs.ByNumber.{role_at, driver_at}
use Rattle.eco_net.specs.Gates.{GatePin, by_kind, gate_at, gate_pin, unsupplied, computed_by, input_count, gate_inputs, inputs_at, FeedsNet}
use Rattle.eco_net.proofs.Basics.{Has, same_Some, not_None, has_from_contains, contains_from_has, has_map, has_of_map}
use Rattle.eco_net.proofs.Solved.{one_table}
use Rattle.eco_net.proofs.AllPins.{split_has}
use Rattle.eco_net.proofs.Decide.{same_comp, same_place}
use Rattle.eco_net.proofs.Places.{at_place}
use Rattle.eco_net.proofs.Named.{comp_is, net_is, role_is, joined_is, net_found}
use Rattle.eco_net.proofs.PinNames.{PinRow, pin_row, pin_name_is, pin_role_is, net_name_is, same_net}
use Rattle.eco_net.proofs.DriverNames.{driver_named, driver_number, driver_drives}
use Rattle.eco_net.proofs.KindPins.{input_at}
use Rattle.eco_net.proofs.MasterPins.{gate_length}

-- ---- what a computed net's number says

pub record GateIs (L : Listing) (n : ℕ) (g : GatePin) : Type 0 where
  pub row : NetRow
  pub net : slice_get L.nets n ≡ Some row
  pub free : row.supply ≡ None
  pub driver : driver_at L n ≡ Some (Pin g.0 g.1)
  pub comp : CompRow
  pub at : slice_get L.comps g.0.0 ≡ Some comp
  pub master : MasterTables
  pub kind : comp.kind ≡ Gate master

by_kind_is : (k : Kind) (c : CompId) (j : ℕ) (g : GatePin) → by_kind k c j ≡ Some g → (m : MasterTables) × (k ≡ Gate m) × (c ≡ g.0) × (j ≡ g.1)
by_kind_is (Gate m) c j g e = (m, refl, ap (λ x. x.0) (same_Some e), ap (λ x. x.1) (same_Some e))
by_kind_is (Boxed ps) c j g e = absurd (not_None (sym e))

pub gate_is : (L : Listing) (n : ℕ) (g : GatePin) → computed_by L n ≡ Some g → GateIs L n g
gate_is L n g e = by_net (slice_get L.nets n) refl e
  where
    by_comp : (r : NetRow) → slice_get L.nets n ≡ Some r → r.supply ≡ None → (c : CompId) (k : ℕ) → driver_at L n ≡ Some (Pin c k) → (o : Option CompRow) → slice_get L.comps c.0 ≡ o → gate_at o c k ≡ Some g → GateIs L n g
    by_comp r f s c k d None h e = absurd (not_None (sym e))
    by_comp r f s c k d (Some x) h e =
        let w = by_kind_is x.kind c k g e in
        record {
          row = r;
          net = f;
          free = s;
          driver = d ∙ ap₂ (λ a b. Some (Pin a b)) w.2 w.3;
          comp = x;
          at = ap (λ (a : CompId). slice_get L.comps a.0) (sym w.2) ∙ h;
          master = w.0;
          kind = w.1;
        }

    by_driver : (r : NetRow) → slice_get L.nets n ≡ Some r → r.supply ≡ None → (o : Option PinRef) → driver_at L n ≡ o → gate_pin L o ≡ Some g → GateIs L n g
    by_driver r f s None d e = absurd (not_None (sym e))
    by_driver r f s (Some (Top t)) d e = absurd (not_None (sym e))
    by_driver r f s (Some (Pin c k)) d e = by_comp r f s c k d (slice_get L.comps c.0) refl e

    by_supply : (r : NetRow) → slice_get L.nets n ≡ Some r → (s : Option Bool) → r.supply ≡ s → unsupplied (Some (record r { supply = s })) (gate_pin L (driver_at L n)) ≡ Some g → GateIs L n g
    by_supply r f None s e = by_driver r f s (driver_at L n) refl e
    by_supply r f (Some b) s e = absurd (not_None (sym e))

    by_net : (o : Option NetRow) → slice_get L.nets n ≡ o → unsupplied o (gate_pin L (driver_at L n)) ≡ Some g → GateIs L n g
    by_net None f e = absurd (not_None (sym e))
    by_net (Some r) f e = by_supply r f r.supply refl e

pub is_gate : (L : Listing) (n : ℕ) (g : GatePin) → GateIs L n g → computed_by L n ≡ Some g
is_gate L n g w =
    ap₂ (λ o p. unsupplied o (gate_pin L p)) w.net w.driver
    ∙ ap (λ o. unsupplied (Some w.row) (gate_at o g.0 g.1)) w.at
    ∙ ap (λ k. unsupplied (Some w.row) (by_kind k g.0 g.1)) w.kind
    ∙ ap (λ s. unsupplied (Some (record w.row { supply = s })) (Some g)) w.free

pub computed_known : (L : Listing) (n : ℕ) (g : GatePin) → computed_by L n ≡ Some g → n < length L.nets
computed_known L n g e = let w = gate_is L n g e in slice_get_within L.nets n w.row w.net

-- ---- roles

no_outside : {d : Dir} → Read ≡ BoxedPin d → ⊥
no_outside e = cc

no_outside_out : {t : List Bool} {d : Dir} → GateOutput t ≡ BoxedPin d → ⊥
no_outside_out e = cc

pub gate_inside : (m : MasterTables) (p : Name × Role) → Has (pins_of (given_kind (Gate m))) p → (d : Dir) → p.1 ≡ BoxedPin d → ⊥
gate_inside m p h d e = ⊎_elim
    (λ i. let w = has_of_map {B = Name × Role} (λ p. (p, Read)) m.inputs p i in no_outside (ap (λ (x : Name × Role). x.1) w.2 ∙ e))
    (λ i. let w = has_of_map {B = Name × Role} (λ o. (o.0, GateOutput o.1)) _ p i in no_outside_out (ap (λ (x : Name × Role). x.1) w.2 ∙ e))
    (split_has (map {B = Name × Role} (λ p. (p, Read)) m.inputs) _ p h)

not_computing : {t : List Bool} {d : Dir} → BoxedPin d ≡ GateOutput t → ⊥
not_computing e = cc

pub box_outside : (ps : List BoxPin) (p : Name × Role) → Has (pins_of (given_kind (Boxed ps))) p → (t : List Bool) → p.1 ≡ GateOutput t → ⊥
box_outside ps p h t e = let w = has_of_map {B = Name × Role} (λ p. (p.0, BoxedPin p.1)) _ p h in not_computing (ap (λ (x : Name × Role). x.1) w.2 ∙ e)

pub has_at : {A : Type 0} (xs : List A) (i : ℕ) (x : A) → slice_get xs i ≡ Some x → Has xs x
has_at [] i x e = absurd (not_None (sym e))
has_at (y ∷ xs) zero x e = inl (same_Some e)
has_at (y ∷ xs) (suc i) x e = inr (has_at xs i x e)

pub at_has : {A : Type 0} (xs : List A) (x : A) → Has xs x → (i : ℕ) × (slice_get xs i ≡ Some x)
at_has [] x h = absurd h
at_has (y ∷ xs) x (inl e) = (0, ap Some e)
at_has (y ∷ xs) x (inr h) = let r = at_has xs x h in (suc r.0, r.1)

driving_table : (m : MasterTables) (p : Name × Role) → Has (pins_of (given_kind (Gate m))) p → is_driving (Some p.1) ≡ true → (t : List Bool) × (p.1 ≡ GateOutput t)
driving_table m p h e = go p.1 refl e
  where
    go : (r : Role) → p.1 ≡ r → is_driving (Some r) ≡ true → (t : List Bool) × (p.1 ≡ GateOutput t)
    go Read f e = absurd (true≢false (sym e))
    go (GateOutput t) f e = (t, f)
    go (BoxedPin d) f e = absurd (gate_inside m p h d f)

module _ (L : Listing) (is : IsListing L) where
  abbrev pub nm : ℕ → Name
  nm n = net_name L.nets n

  -- ---- the nets of a gate's inputs

  pub inputs_named : (c : ℕ) (r : CompRow) (m : MasterTables) → slice_get L.comps c ≡ Some r → r.kind ≡ Gate m → input_nets (component L.nets r) ≡ map (option_map nm) (inputs_at L c)
  inputs_named c r m e f =
      ap (λ k. map (get (component L.nets r).joined) (input_names (given_kind k))) f
      ∙ same_lists _ _ lengths each
      ∙ sym (ap (λ o. map (option_map nm) (gate_inputs o)) e ∙ ap (λ k. map (option_map nm) (take (input_count k) r.joined)) f)
    where
      row : IsRow (length L.nets) r
      row = is.rows c r e

      wide : length m.inputs ≤ length r.joined
      wide =
          let a : length (pins r) ≡ length m.inputs + length m.outputs = ap (λ k. length (pins_of (given_kind k))) f ∙ gate_length m in
          omega (arith, a, row.each_pin)

      lengths : length (map (get (component L.nets r).joined) m.inputs) ≡ length (map (option_map nm) (take (length m.inputs) r.joined))
      lengths =
          length-map m.inputs (get (component L.nets r).joined)
          ∙ sym (length-map (take (length m.inputs) r.joined) (option_map nm) ∙ length-take-le (length m.inputs) r.joined wide)

      each : (k : ℕ) (d : Option Name) → k < length (map (get (component L.nets r).joined) m.inputs) → get_or (map (get (component L.nets r).joined) m.inputs) k d ≡ get_or (map (option_map nm) (take (length m.inputs) r.joined)) k d
      each k d h =
          let g : k < length m.inputs = omega (arith, h, length-map m.inputs (get (component L.nets r).joined)) in
          let j = at_place r.joined k (omega (arith, g, wide)) in
          let p = get_or m.inputs k [] in
          let at : slice_get (pins r) k ≡ Some (p, Read) = ap (λ x. slice_get (pins_of (given_kind x)) k) f ∙ input_at m m.inputs m.outputs refl refl k [] g in
          let t : k < length (take (length m.inputs) r.joined) = omega (arith, g, length-take-le (length m.inputs) r.joined wide) in
          get_or-map (get (component L.nets r).joined) m.inputs k [] d g
          ∙ joined_is L is c r k (p, Read) j.0 e at j.1
          ∙ sym (get_or-map (option_map nm) (take (length m.inputs) r.joined) k None d t
          ∙ ap (option_map nm) (get_or-take (length m.inputs) r.joined k None g ∙ get_or_from_slice_get r.joined k j.0 None j.1))

  -- ---- computed nets

  -- a net that is found computed is computed
  pub computed_named : (n : ℕ) (g : GatePin) → computed_by L n ≡ Some g → (table : List Bool) × Computed (netlist L) (nm n) table (map (option_map nm) (inputs_at L g.0.0)) × (role_at (slice_get L.comps g.0.0) g.1 ≡ Some (GateOutput table))
  computed_named n g e =
      let w = gate_is L n g e in
      let h = slice_get_within L.nets n w.row w.net in
      let d = driver_named L is n (Pin g.0 g.1) h w.driver in
      let q = pin_row L is g.0.0 g.1 d.0 in
      let kind : q.row.kind ≡ Gate w.master = ap (λ (r : CompRow). r.kind) (same_Some (sym q.is ∙ w.at)) ∙ w.kind in
      let role : is_driving (Some q.pin.1) ≡ true = ap is_driving (sym (pin_role_is L g.0.0 g.1 q)) ∙ driver_drives L is n (Pin g.0 g.1) w.driver in
      let t = driving_table w.master q.pin (subst (λ k. Has (pins_of (given_kind k)) q.pin) kind (has_at (pins q.row) g.1 q.pin q.at)) role in (
        t.0,
        record {
          unsupplied = ap (get (netlist L).nets) (net_name_is L is n w.row w.net) ∙ net_is L is n w.row w.net ∙ ap Some w.free;
          comp = q.row.name;
          pin = q.pin.0;
          gate = component L.nets q.row;
          is = comp_is L is g.0.0 q.row q.is;
          driver = subst (IsDriver (netlist L) (nm n)) (pin_name_is L g.0.0 g.1 q) d.1;
          at = role_is L is g.0.0 q.row g.1 q.pin q.is q.at ∙ ap Some t.1;
          reads = inputs_named g.0.0 q.row w.master q.is kind;
        },
        pin_role_is L g.0.0 g.1 q ∙ ap Some t.1,
      )

  top_or_comp : {t c p : Name} → TopPin t ≡ CompPin c p → ⊥
  top_or_comp e = cc

  -- a computed net is found computed
  pub named_computed : (n : ℕ) → n < length L.nets → (t : List Bool) (ins : List (Option Name)) → Computed (netlist L) (nm n) t ins → (g : GatePin) × (computed_by L n ≡ Some g)
  named_computed n h t ins m = by_pin d.0 d.1 d.2 d.3
    where
      r : (x : NetRow) × (slice_get L.nets n ≡ Some x)
      r = at_place L.nets n h

      free : r.0.supply ≡ None
      free = same_Some (sym (ap (get (netlist L).nets) (net_name_is L is n r.0 r.1) ∙ net_is L is n r.0 r.1) ∙ m.unsupplied)

      d : (p : PinRef) × (driver_at L n ≡ Some p) × IsKnownPin L p × (numbered_pin L p ≡ CompPin m.comp m.pin)
      d = driver_number L is n (CompPin m.comp m.pin) h m.driver

      by_row : (c : CompId) (k : ℕ) → driver_at L n ≡ Some (Pin c k) → (q : PinRow L c.0 k) → q.pin.1 ≡ GateOutput t → (x : Kind) → q.row.kind ≡ x → (g : GatePin) × (computed_by L n ≡ Some g)
      by_row c k e q role (Gate ms) f = ((c, k), is_gate L n (c, k) (record { row = r.0; net = r.1; free = free; driver = e; comp = q.row; at = q.is; master = ms; kind = f }))
      by_row c k e q role (Boxed ps) f = absurd (box_outside ps q.pin (subst (λ x. Has (pins_of (given_kind x)) q.pin) f (has_at (pins q.row) k q.pin q.at)) t role)

      by_pin : (p : PinRef) → driver_at L n ≡ Some p → IsKnownPin L p → numbered_pin L p ≡ CompPin m.comp m.pin → (g : GatePin) × (computed_by L n ≡ Some g)
      by_pin (Top x) e known named = absurd (top_or_comp named)
      by_pin (Pin c k) e known named =
          let q = pin_row L is c.0 k known in
          let s : CompPin q.row.name q.pin.0 ≡ CompPin m.comp m.pin = sym (pin_name_is L c.0 k q) ∙ named in
          let gate : component L.nets q.row ≡ m.gate = same_Some (sym (comp_is L is c.0 q.row q.is) ∙ ap (get (netlist L).comps) (same_comp s) ∙ m.is) in
          let role : q.pin.1 ≡ GateOutput t = same_Some (sym (role_is L is c.0 q.row k q.pin q.is q.at) ∙ ap₂ role_of gate (same_place s) ∙ m.at) in
          by_row c k e q role q.row.kind refl

  -- the pin that computes a net is a known one
  pub gate_known : (n : ℕ) (g : GatePin) → computed_by L n ≡ Some g → IsKnownPin L (Pin g.0 g.1)
  gate_known n g e = let w = gate_is L n g e in (driver_named L is n (Pin g.0 g.1) (slice_get_within L.nets n w.row w.net) w.driver).0

  pub not_computed : (n : ℕ) → n < length L.nets → computed_by L n ≡ None → IsComputed (netlist L) (nm n) → ⊥
  not_computed n h e m = let w = named_computed n h m.0 m.1 m.2 in not_None (sym w.1 ∙ e)

  pub is_computed : (n : ℕ) (g : GatePin) → computed_by L n ≡ Some g → IsComputed (netlist L) (nm n)
  is_computed n g e = let w = computed_named n g e in (w.0, map (option_map nm) (inputs_at L g.0.0), w.1)

  -- ---- what the driver of a computed net reads

  pub reads_named : (a b : ℕ) → FeedsNet L a b → ReadsNet (netlist L) (nm a) (nm b)
  reads_named a b w =
      let t = computed_named b w.gate w.to in
      record {
        from = is_computed a w.source w.from;
        table = t.0;
        inputs = map (option_map nm) (inputs_at L w.gate.0.0);
        to = t.1;
        reads = contains_from_has _ _ (has_map (option_map nm) (inputs_at L w.gate.0.0) (Some a) (has_from_contains _ _ w.reads));
      }

  -- the number of a net that is computed
  pub number_of : (q : Name) → IsComputed (netlist L) q → (n : ℕ) × (n < length L.nets) × (nm n ≡ q)
  number_of q m =
      let w = net_found L is q None m.2.unsupplied in
      (w.0, slice_get_within L.nets w.0 w.1 w.2, net_name_is L is w.0 w.1 w.2 ∙ w.3)

  pub some_name : (j : Option ℕ) (q : Name) → option_map nm j ≡ Some q → (i : ℕ) × (j ≡ Some i) × (nm i ≡ q)
  some_name None q e = absurd (not_None (sym e))
  some_name (Some i) q e = (i, refl, same_Some e)

  pub named_reads : (a b : ℕ) → a < length L.nets → b < length L.nets → ReadsNet (netlist L) (nm a) (nm b) → FeedsNet L a b
  named_reads a b h k w =
      let from = named_computed a h w.from.0 w.from.1 w.from.2 in
      let to = named_computed b k w.table w.inputs w.to in
      let t = computed_named b to.0 to.1 in
      let same : w.inputs ≡ map (option_map nm) (inputs_at L to.0.0.0) = (one_table (netlist L) (nm b) w.table t.0 w.inputs _ w.to t.1).1 in
      let x = has_of_map (option_map nm) (inputs_at L to.0.0.0) (Some (nm a)) (subst (λ xs. Has xs (Some (nm a))) same (has_from_contains w.inputs _ w.reads)) in
      let i = some_name x.0 (nm a) x.2 in
      let g = gate_is L b to.0 to.1 in
      let p = at_has (inputs_at L to.0.0.0) (Some i.0) (subst (λ y. Has (inputs_at L to.0.0.0) y) i.1 x.1) in
      let row : IsRow (length L.nets) g.comp = is.rows to.0.0.0 g.comp g.at in
      let known : i.0 < length L.nets = row.known p.0 i.0 (taken (input_count g.comp.kind) g.comp.joined p.0 (Some i.0) (sym (ap (λ o. slice_get (gate_inputs o) p.0) g.at) ∙ p.1)) in
      let here : i.0 ≡ a = same_net L is i.0 a known h i.2 in
      record {
        gate = to.0;
        to = to.1;
        reads = contains_from_has _ _ (subst (λ n. Has (inputs_at L to.0.0.0) (Some n)) here (subst (λ y. Has (inputs_at L to.0.0.0) y) i.1 x.1));
        source = from.0;
        from = from.1;
      }
    where
      taken : {A : Type 0} (n : ℕ) (xs : List A) (i : ℕ) (x : A) → slice_get (take n xs) i ≡ Some x → slice_get xs i ≡ Some x
      taken zero xs i x e = absurd (not_None (sym e))
      taken (suc n) [] i x e = absurd (not_None (sym e))
      taken (suc n) (y ∷ xs) zero x e = e
      taken (suc n) (y ∷ xs) (suc i) x e = taken n xs i x e
