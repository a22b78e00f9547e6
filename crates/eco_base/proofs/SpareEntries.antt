-- The entry of the functions file for a gate of the netlist is what that gate computes.
use Rattle.std.proofs.Common.{◌≡◌, ℕ, zero, suc, ◌+◌, ◌<◌, ◌≤◌, Bool, true, false, cond, not, nat_lt, List, [], ◌∷◌, length, Option, Some, None, slice_get, refl, sym, ap, ◌∙◌, subst, true≢false, arith}
use Rattle.std.specs.Prelude.{option_and_then}
use Rattle.std.specs.List.{position, position_or_len}
use Rattle.std.specs.Option.{option_map}
use Rattle.std.specs.Str.{bytes_eq}
use Rattle.std.specs.FinMap.{get}
use Rattle.std.proofs.lemmas.Bool.Decides.{nat_tests}
use Rattle.std.proofs.lemmas.Option.{slice_get-map, slice_get_within}
use Rattle.std.proofs.lemmas.Slice.Eq.{bytes_eq-Decides}
use Rattle.eco_def.specs.Named.{NamedComp, comp_names as named_of}
use Rattle.eco_def.specs.View.{comp_in}
use Rattle.eco_func.specs.Masters.{MasterTables}
use Rattle.eco_func.specs.FunctionsFile.{find_master as find_function}
use Rattle.eco_lef.specs.declared.master.Master.{Master}
use Rattle.eco_lef.specs.Collected.{find_master}
use Rattle.eco_net.specs.Netlist.{Name, Kind, Component}
use Rattle.eco_net.specs.Listing.{given_kind, AreDistinctNames}
use Rattle.eco_net.specs.declared.kind.Kind.TheVariants.{Gate}
use Rattle.eco_net.proofs.Basics.{Has, same_Some, not_None}
use Rattle.eco_net.proofs.GateNames.{at_has}
use Rattle.eco_elaborate.specs.Stated.{named_comps}
use Rattle.eco_elaborate.proofs.Found.{comp_said}
use Rattle.eco_elaborate.proofs.Members.{found_passes}
use Rattle.eco_master_faults.specs.Tables.{kind_by, kind_in}
use Rattle.eco_base.specs.Stock.{is_gate}
use Rattle.eco_base.specs.Texts.{TextParts}
use Rattle.eco_base.specs.Joined.{kinds, design_names, comp_names}
use Rattle.eco_base.specs.Stocks.{listed_netlist, entry_at}
use Rattle.eco_base.proofs.Lists.{row_at, map_twice}

-- ---- the place of a name

first_passing : (p : Name → Bool) (names : List Name) (i : ℕ) (n : Name) → slice_get names i ≡ Some n → p n ≡ true → ((j : ℕ) (m : Name) → slice_get names j ≡ Some m → p m ≡ true → i ≤ j) → position_or_len p names ≡ i
first_passing p [] i n e h first = absurd (not_None (sym e))
first_passing p (m ∷ names) zero n e h first = ap (λ b. cond (not b) (1 + position_or_len p names) 0) (ap p (same_Some e) ∙ h)
first_passing p (m ∷ names) (suc i) n e h first = go (λ before. first_passing p names i n e h before) (p m) refl
  where
    go : (((j : ℕ) (k : Name) → slice_get names j ≡ Some k → p k ≡ true → i ≤ j) → position_or_len p names ≡ i) → (b : Bool) → p m ≡ b → cond (not (p m)) (1 + position_or_len p names) 0 ≡ suc i
    go rest true f = absurd (omega (arith, first 0 m refl f))
    go rest false f =
        ap (λ b. cond (not b) (1 + position_or_len p names) 0) f
        ∙ ap (λ k. 1 + k) (rest (λ j k there passes. omega (arith, first (suc j) k there passes)))
        ∙ omega arith

-- where no name stands twice, a name's place is the first of it
pub place_of : (names : List Name) (i : ℕ) (n : Name) → AreDistinctNames names → slice_get names i ≡ Some n → position (bytes_eq n) names ≡ Some i
place_of names i n apart e =
    let first : position_or_len (bytes_eq n) names ≡ i = first_passing (bytes_eq n) names i n e ((bytes_eq-Decides n n).1 refl) (λ j m there passes.
    omega (arith, apart i j n e (there ∙ ap Some (sym ((bytes_eq-Decides n m).0 passes))))) in
    ap (λ k. cond (nat_lt k (length names)) (Some k) None) first ∙ ap (λ b. cond b (Some i) None) (within (slice_get_within names i n e))
  where
    within : i < length names → nat_lt i (length names) ≡ true
    within h = grind (arith, nat_tests)

-- ---- the entry of a master's name

-- a gate's master has an entry, whose tables are the gate's
gate_entry : (t : TextParts) (model : Name) (k : Kind) → (kinds t).kind model ≡ Some k → is_gate k ≡ true → (f : MasterTables) × (find_function model t.functions ≡ Some f) × (k ≡ given_kind (Gate f))
gate_entry t model k e g =
    let m = row_at (kind_in t.functions) (find_master model t.library) k e in
    let found = found_passes (λ (m : Master). bytes_eq m.name model) t.library m.0 m.1 in
    let same : m.0.name ≡ model = (bytes_eq-Decides m.0.name model).0 found.1 in
    by m.0 (find_function model t.functions) refl (ap (λ n. kind_by (find_function n t.functions) m.0) (sym same) ∙ m.2)
  where
    by : (m : Master) (o : Option MasterTables) → find_function model t.functions ≡ o → kind_by o m ≡ k → (f : MasterTables) × (find_function model t.functions ≡ Some f) × (k ≡ given_kind (Gate f))
    by m None f h = absurd (true≢false (sym g ∙ ap is_gate (sym h)))
    by m (Some x) f h = (x, f, sym h)

-- ---- the entry of a component

module _ (t : TextParts) (apart : AreDistinctNames (comp_names t)) where
  abbrev stated : List NamedComp
  stated = named_comps t.text t.design.comps

  -- a component stands at the place of its name
  pub stated_at : (i : ℕ) (n : Name) (y : NamedComp) → slice_get (comp_names t) i ≡ Some n → Has (design_names t).comps y → y.name ≡ n → slice_get stated i ≡ Some y
  stated_at i n y e h s =
      let there = at_has stated y (subst (λ cs. Has cs y) (map_twice named_of (comp_in t.text) t.design.comps) h) in
      let named : slice_get (comp_names t) there.0 ≡ Some n = slice_get-map (λ (c : NamedComp). c.name) stated there.0 ∙ ap (option_map (λ (c : NamedComp). c.name)) there.1 ∙ ap Some s in
      subst (λ j. slice_get stated j ≡ Some y) (apart there.0 i n named e) there.1

  pub entry_of_gate : (i : ℕ) (n : Name) (x : Component) → slice_get (comp_names t) i ≡ Some n → get (listed_netlist t).comps n ≡ Some x → is_gate x.kind ≡ true → (f : MasterTables) × (entry_at t i ≡ Some f) × (x.kind ≡ given_kind (Gate f))
  entry_of_gate i n x e found gate =
      let y = comp_said (kinds t) [] (design_names t) n x found in
      let kind : y.0.1 ≡ x.kind = ap (λ (z : Component). z.kind) y.4 in
      let f = gate_entry t y.0.0.model y.0.1 y.3 (ap is_gate kind ∙ gate) in
      (f.0, ap (option_and_then (λ (c : NamedComp). find_function c.model t.functions)) (stated_at i n y.0.0 e y.1 y.2) ∙ f.1, sym kind ∙ f.2)
