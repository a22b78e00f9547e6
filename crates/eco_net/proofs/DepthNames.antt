-- The depths of a listing's gates are those of its netlist
use Rattle.std.proofs.Common.{◌≡◌, ℕ, zero, suc, ◌+◌, ◌<◌, ◌≤◌, max, List, map, length, Option, Some, None, refl, sym, ap, ◌∙◌, subst, arith, slice_get, inl, inr, ⊎_elim, ◌⊎◌}
use Rattle.std.specs.Option.{option_map}
use Rattle.std.proofs.lemmas.Option.{slice_get_within, get_or_from_slice_get}
use Rattle.std.proofs.lemmas.Bool.{cases_lt}
use Rattle.eco_func.specs.Masters.{MasterTables}
use Rattle.eco_net.specs.declared.kind.Kind.{Kind}
use Rattle.eco_net.specs.declared.kind.Kind.TheVariants.{Gate, Boxed}
use Rattle.eco_net.specs.declared.rows.CompRow.{CompRow}
use Rattle.eco_net.specs.declared.ids.PinRef.TheVariants.{Pin}
use Rattle.eco_net.specs.Netlist.{Name, Netlist, Gate as GateNamed, CompPin, input_nets}
use Rattle.eco_net.specs.Drivers.{IsDriver, Computed}
use Rattle.eco_net.specs.Depth.{IsGate, Feeds, Behind, IsDepth}
use Rattle.eco_net.specs.Listing.{Listing, netlist, component, given_kind}
use Rattle.eco_net.specs.Kept.{IsListing}
use Rattle.eco_net.specs.Gates.{GatePin, computed_by, input_count, gate_inputs, inputs_at}
use Rattle.eco_net.specs.DepthsOf.{depth_at, deepest, gate_depth, AreDepths}
use Rattle.eco_net.proofs.Basics.{Has, same_Some, has_from_contains, contains_from_has, has_map, has_of_map}
use Rattle.eco_net.proofs.Decide.{same_comp}
use Rattle.eco_net.proofs.Named.{comp_is, comp_of}
use Rattle.eco_net.proofs.PinNames.{pin_row, pin_name_is, same_net}
use Rattle.eco_net.proofs.DriverNames.{driver_named}
use Rattle.eco_net.proofs.GateNames.{nm, GateIs, gate_is, at_has, inputs_named, computed_named, named_computed, number_of, some_name}
use Rattle.eco_net.proofs.InputPins.{taken_at}
use Rattle.eco_net.proofs.SearchPaths.{lt_cases}
use Rattle.eco_net.proofs.DepthNumbers.{deepest_has, deepest_is}

-- the gate of a number
pub record GateRow (L : Listing) (c : ℕ) : Type 0 where
  pub row : CompRow
  pub at : slice_get L.comps c ≡ Some row
  pub master : MasterTables
  pub kind : row.kind ≡ Gate master

-- no gate among the first i components is deeper, and there is one so deep
pub record IsGreatestTo (L : Listing) (ds : List ℕ) (i d : ℕ) : Type 0 where
  pub reached : (d ≡ 0) ⊎ ((c : ℕ) × GateRow L c × (d ≡ gate_depth L ds c))
  pub each : (c : ℕ) → c < i → GateRow L c → gate_depth L ds c ≤ d

abbrev row_of_gate : {L : Listing} {a : ℕ} {g : GatePin} → GateIs L a g → GateRow L g.0.0
row_of_gate x = record { row = x.comp; at = x.at; master = x.master; kind = x.kind }

pub greatest_gate : (L : Listing) (ds : List ℕ) (i d : ℕ) → GateRow L i → IsGreatestTo L ds i d → IsGreatestTo L ds (i + 1) (max (gate_depth L ds i) d)
greatest_gate L ds i d y w = record {
  reached = go (cases_lt (gate_depth L ds i) d) w.reached;
  each = λ c h z. ⊎_elim (λ l. omega (arith, w.each c l z)) (λ s. omega (arith, ap (gate_depth L ds) s)) (lt_cases c i h);
}
  where
    go : (gate_depth L ds i < d) ⊎ (d ≤ gate_depth L ds i) → (d ≡ 0) ⊎ ((c : ℕ) × GateRow L c × (d ≡ gate_depth L ds c)) → (max (gate_depth L ds i) d ≡ 0) ⊎ ((c : ℕ) × GateRow L c × (max (gate_depth L ds i) d ≡ gate_depth L ds c))
    go (inl h) (inl z) = absurd (omega (arith, h, z))
    go (inl h) (inr r) = inr (r.0, r.1, omega (arith, h, r.2))
    go (inr h) r = inr (i, y, omega (arith, h))

pub greatest_box : (L : Listing) (ds : List ℕ) (i d : ℕ) → (GateRow L i → ⊥) → IsGreatestTo L ds i d → IsGreatestTo L ds (i + 1) d
greatest_box L ds i d none w = record {
  reached = w.reached;
  each = λ c h z. ⊎_elim (λ l. w.each c l z) (λ s. absurd (none (subst (GateRow L) s z))) (lt_cases c i h);
}

module _ (L : Listing) (is : IsListing L) where
  abbrev N : Netlist
  N = netlist L

  -- the component of the pin that drives a computed net
  driven_by : (a : ℕ) (g : GatePin) (x : GateIs L a g) (n q p : Name) → nm L is a ≡ n → IsDriver N n (CompPin q p) → x.comp.name ≡ q
  driven_by a g x n q p e d =
      let w = driver_named L is a (Pin g.0 g.1) (slice_get_within L.nets a x.row x.net) x.driver in
      let r = pin_row L is g.0.0 g.1 w.0 in
      let same : CompPin r.row.name r.pin.0 ≡ CompPin q p = sym (pin_name_is L g.0.0 g.1 r) ∙ d.only _ (w.1.drives ∙ ap Some e) in
      ap (λ (y : CompRow). y.name) (same_Some (sym x.at ∙ r.is)) ∙ same_comp same

  input_known : (c : ℕ) (y : GateRow L c) (a : ℕ) → Has (inputs_at L c) (Some a) → a < length L.nets
  input_known c y a h =
      let p = at_has (inputs_at L c) (Some a) h in
      let q = taken_at (input_count y.row.kind) y.row.joined p.0 (Some a) (sym (ap (λ o. slice_get (gate_inputs o) p.0) y.at) ∙ p.1) in
      (is.rows c y.row y.at).known p.0 a q.1

  -- ---- what feeds a gate

  pub feeds_named : (c : ℕ) (y : GateRow L c) (a : ℕ) (g : GatePin) (x : GateIs L a g) → Has (inputs_at L c) (Some a) → computed_by L a ≡ Some g → Feeds N x.comp.name y.row.name
  feeds_named c y a g x h e =
      let t = computed_named L is a g e in
      record {
        gate = component L.nets y.row;
        is = comp_is L is c y.row y.at;
        net = nm L is a;
        reads = contains_from_has _ _ (subst (λ js. Has js (Some (nm L is a))) (sym (inputs_named L is c y.row y.master y.at y.kind)) (has_map (option_map (nm L is)) (inputs_at L c) (Some a) h));
        table = t.0;
        inputs = map (option_map (nm L is)) (inputs_at L g.0.0);
        computed = t.1;
        by = sym (driven_by a g x (nm L is a) t.1.comp t.1.pin refl t.1.driver);
      }

  -- what feeds a gate by number
  record FedBy (c : ℕ) (q : Name) : Type 0 where
    net : ℕ
    pin : GatePin
    reads : Has (inputs_at L c) (Some net)
    by : computed_by L net ≡ Some pin
    gate : GateIs L net pin
    named : gate.comp.name ≡ q

  fed_by : (c : ℕ) (y : GateRow L c) (q : Name) → Feeds N q y.row.name → FedBy c q
  fed_by c y q f =
      let same : f.gate ≡ component L.nets y.row = same_Some (sym f.is ∙ comp_is L is c y.row y.at) in
      let w = number_of L is f.net (f.table, f.inputs, f.computed) in
      let g = named_computed L is w.0 w.1 f.table f.inputs (subst (λ n. Computed N n f.table f.inputs) (sym w.2) f.computed) in
      let x = gate_is L w.0 g.0 g.1 in
      let named : input_nets f.gate ≡ map (option_map (nm L is)) (inputs_at L c) = ap input_nets same ∙ inputs_named L is c y.row y.master y.at y.kind in
      let j = has_of_map (option_map (nm L is)) (inputs_at L c) (Some f.net) (subst (λ js. Has js (Some f.net)) named (has_from_contains (input_nets f.gate) _ f.reads)) in
      let i = some_name L is j.0 f.net j.2 in
      let has : Has (inputs_at L c) (Some i.0) = subst (Has (inputs_at L c)) i.1 j.1 in
      let here : i.0 ≡ w.0 = same_net L is i.0 w.0 (input_known c y i.0 has) w.1 (i.2 ∙ sym w.2) in
      record {
        net = w.0;
        pin = g.0;
        reads = subst (λ n. Has (inputs_at L c) (Some n)) here has;
        by = g.1;
        gate = x;
        named = driven_by w.0 g.0 x f.net f.computed.comp f.computed.pin w.2 f.computed.driver ∙ f.by;
      }

  -- ---- chains of gates

  module _ (ds : List ℕ) (are : AreDepths L ds) where
    net_depth : (a : ℕ) (g : GatePin) → computed_by L a ≡ Some g → depth_at ds (Some a) ≡ gate_depth L ds g.0.0
    net_depth a g e = get_or_from_slice_get ds a (gate_depth L ds g.0.0) 0 (are.computed a g e)

    -- no chain is longer than the depth says
    no_longer : (k c : ℕ) (y : GateRow L c) → Behind N y.row.name k → k ≤ deepest ds (inputs_at L c)
    no_longer zero c y b = omega arith
    no_longer (suc k) c y b =
        let f = fed_by c y b.0 b.1 in
        let rest = no_longer k f.pin.0.0 (row_of_gate f.gate) (subst (λ q. Behind N q k) (sym f.named) b.2) in
        omega (arith, rest, net_depth f.net f.pin f.by, deepest_has ds (inputs_at L c) (Some f.net) f.reads)

    -- there is a chain as long as the depth says
    so_long : (k c : ℕ) (y : GateRow L c) → deepest ds (inputs_at L c) ≡ k → Behind N y.row.name k
    so_long zero c y e = tt
    so_long (suc k) c y e = go (deepest_is ds (inputs_at L c)) (λ d z f. so_long k d z f)
      where
        by_gate : (a : ℕ) → Has (inputs_at L c) (Some a) → deepest ds (inputs_at L c) ≡ depth_at ds (Some a) → (o : Option GatePin) → computed_by L a ≡ o → ((d : ℕ) (z : GateRow L d) → deepest ds (inputs_at L d) ≡ k → Behind N z.row.name k) → Behind N y.row.name (suc k)
        by_gate a h f None g rest = absurd (omega (arith, e, f, get_or_from_slice_get ds a 0 0 (are.others a (input_known c y a h) g)))
        by_gate a h f (Some g) by rest =
            let x = gate_is L a g by in
            (x.comp.name, feeds_named c y a g x h by, rest g.0.0 (row_of_gate x) (omega (arith, e, f, net_depth a g by)))

        go : (deepest ds (inputs_at L c) ≡ 0) ⊎ ((j : Option ℕ) × Has (inputs_at L c) j × (deepest ds (inputs_at L c) ≡ depth_at ds j)) → ((d : ℕ) (z : GateRow L d) → deepest ds (inputs_at L d) ≡ k → Behind N z.row.name k) → Behind N y.row.name (suc k)
        go (inl z) rest = absurd (omega (arith, e, z))
        go (inr (None, h, f)) rest = absurd (omega (arith, e, f))
        go (inr (Some a, h, f)) rest = by_gate a h f (computed_by L a) refl rest

    given_gate : (k : Kind) (ins : List Name) (outs : _) → given_kind k ≡ GateNamed ins outs → (m : MasterTables) × (k ≡ Gate m)
    given_gate (Gate m) ins outs e = (m, refl)
    given_gate (Boxed ps) ins outs e = absurd (cc)

    gate_row : (q : Name) (w : IsGate N q) → (c : ℕ) × (y : GateRow L c) × (y.row.name ≡ q)
    gate_row q w =
        let r = comp_of L is q w.gate w.is in
        let m = given_gate r.1.kind w.inputs w.outputs (ap (λ x. x.kind) r.4 ∙ w.kind) in
        (r.0, record { row = r.1; at = r.2; master = m.0; kind = m.1 }, r.3)

    pub is_depth : (d : ℕ) → IsGreatestTo L ds (length L.comps) d → IsDepth N d
    is_depth d w = record {
      reached = ⊎_elim (λ z. inl z) (λ r. inr (gate r.0 r.1 r.2)) w.reached;
      greatest = λ q k g b.
          let y = gate_row q g in
          let a = no_longer k y.0 y.1 (subst (λ p. Behind N p k) (sym y.2) b) in
          omega (arith, a, w.each y.0 (slice_get_within L.comps y.0 y.1.row y.1.at) y.1);
    }
      where
        gate : (c : ℕ) (y : GateRow L c) → d ≡ gate_depth L ds c → (q : Name) × IsGate N q × (k : ℕ) × (d ≡ suc k) × Behind N q k
        gate c y e = (
          y.row.name,
          record { gate = component L.nets y.row; inputs = y.master.inputs; outputs = _; is = comp_is L is c y.row y.at; kind = ap given_kind y.kind },
          deepest ds (inputs_at L c),
          omega (arith, e),
          so_long (deepest ds (inputs_at L c)) c y refl,
        )
