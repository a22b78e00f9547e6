-- Two netlists that are alike but for gates which others serve in their place
use Rattle.std.proofs.Common.{◌≡◌, ◌≢◌, ℕ, zero, suc, Bool, true, false, cond, List, [], ◌∷◌, map, Option, Some, None, refl, sym, ap, ap₂, ◌∙◌, subst, inl, inr, ⊎_elim, ◌⊎◌, ◌↔◌, true≢false}
use Rattle.std.specs.FinMap.{get, contains_key}
use Rattle.eco_common.specs.declared.geometry.Dir.{Dir}
use Rattle.eco_common.specs.declared.geometry.Dir.TheVariants.{Input, Output, Inout}
use Rattle.eco_net.specs.Netlist.{Name, Netlist, Component, Role, GateInput, GateOutput, BoxedPin, role_of, input_nets, Pin, TopPin, CompPin}
use Rattle.eco_net.specs.Drivers.{is_driving, driven, driven_at, driven_top, IsDriver, Computed, IsComputed, IsFree}
use Rattle.eco_net.specs.CutKeys.{KeyOf, CutKey, CutBits, PinKey, NetKey, IsCutKey, is_source_pin, is_source_at, is_source_top, is_source}
use Rattle.eco_net.specs.Observables.{ObservedRole, ObservedAt, ObservedTop, IsObservable, observed, pin_value, value_top}
use Rattle.eco_net.specs.Valuation.{table_value, read, Valuation, IsValuation}
use Rattle.eco_net.specs.Walks.{ReadsNet, NetWalk, IsLoopFree}
use Rattle.eco_net.proofs.Basics.{Has, same_Some, not_None, contains_from_has, has_from_contains}
use Rattle.eco_net.proofs.Decide.{same_comp, same_table}
use Rattle.eco_net.proofs.Solved.{one_table}
use Rattle.eco_net.proofs.One.{one_valuation}
use Rattle.eco_net.specs.Bases.{IsConstant}
use Rattle.eco_patch_laws.specs.Meaning.{SameMeaning}
use Rattle.eco_patch_laws.proofs.Gates.{Drives}

-- a gate, and what serves it
pub record Use : Type 0 where
  pub patch : Name
  pub patch_pin : Name
  pub spare : Name
  pub spare_pin : Name
  pub out : Name

-- the second table at its inputs gives what the first gives at its own, where the tie nets have their values
pub record Serves (low high : Name) (t : List Bool) (ins : List (Option Name)) (u : List Bool) (more : List (Option Name)) : Type 0 where
  pub looks : (v : Valuation) → get v low ≡ Some false → get v high ≡ Some true → table_value u (map (read v) more) ≡ table_value t (map (read v) ins)
  pub reads : (a : Name) → Has more (Some a) → Has ins (Some a) ⊎ ((a ≡ low) ⊎ (a ≡ high))

pub record InPlace (low high : Name) (N M : Netlist) (u : Use) : Type 0 where
  pub gate : Component
  pub table : List Bool
  pub gate_is : get N.comps u.patch ≡ Some gate
  pub gate_drives : Drives gate u.patch_pin u.out table
  pub spare : Component
  pub spare_table : List Bool
  pub spare_is : get M.comps u.spare ≡ Some spare
  pub spare_drives : Drives spare u.spare_pin u.out spare_table
  pub no_gate : get M.comps u.patch ≡ None
  pub no_spare : get N.comps u.spare ≡ None
  pub serves : Serves low high table (input_nets gate) spare_table (input_nets spare)
  pub alone : IsDriver N u.out (CompPin u.patch u.patch_pin)
  pub unsupplied : get N.nets u.out ≡ Some None
  pub off_low : u.out ≢ low
  pub off_high : u.out ≢ high

-- a component that drives nothing and is no box
pub record Idle (x : Component) : Type 0 where
  pub no_outside : (p : Name) (d : Dir) → role_of x p ≡ Some (BoxedPin d) → ⊥
  pub drives_none : (p n : Name) → driven_at (Some x) p ≡ Some n → ⊥

pub record Sim (low high : Name) (N M : Netlist) (uses : List Use) : Type 0 where
  pub nets : N.nets ≡ M.nets
  pub tops : N.tops ≡ M.tops
  pub forth : (c : Name) (x : Component) → get N.comps c ≡ Some x → (get M.comps c ≡ Some x) ⊎ ((u : Use) × Has uses u × (c ≡ u.patch))
  pub back : (c : Name) (x : Component) → get M.comps c ≡ Some x → (get N.comps c ≡ Some x) ⊎ (((u : Use) × Has uses u × (c ≡ u.spare)) ⊎ Idle x)
  pub in_place : (u : Use) → Has uses u → InPlace low high N M u
  pub one_gate : (u w : Use) → Has uses u → Has uses w → u.patch ≡ w.patch → u ≡ w
  pub low_is : IsConstant N low false
  pub high_is : IsConstant N high true

pub found_driver : (N : Netlist) (c p n : Name) → driven N (CompPin c p) ≡ Some n → (x : Component) × (get N.comps c ≡ Some x) × (driven_at (Some x) p ≡ Some n)
found_driver N c p n d = go (get N.comps c) refl d
  where
    go : (o : Option Component) → get N.comps c ≡ o → driven_at o p ≡ Some n → (x : Component) × (get N.comps c ≡ Some x) × (driven_at (Some x) p ≡ Some n)
    go None e d = absurd (not_None (sym d))
    go (Some x) e d = (x, e, d)

module _ (low high : Name) (N M : Netlist) (uses : List Use) (sim : Sim low high N M uses) where
  same_nets : (n : Name) → get N.nets n ≡ get M.nets n
  same_nets n = ap (λ m. get m n) sim.nets

  -- ---- drivers

  pub to_M : (p : Pin) (n : Name) → driven N p ≡ Some n → (driven M p ≡ Some n) ⊎ ((u : Use) × Has uses u × (p ≡ CompPin u.patch u.patch_pin) × (n ≡ u.out))
  to_M (TopPin t) n d = inl (ap (λ m. driven_top (get m t)) (sym sim.tops) ∙ d)
  to_M (CompPin c k) n d =
      let f = found_driver N c k n d in
      ⊎_elim
      (λ e. inl (ap (λ o. driven_at o k) e ∙ f.2))
      (λ w.
      let p = sim.in_place w.0 w.1 in
      let g : p.gate ≡ f.0 = same_Some (sym p.gate_is ∙ ap (get N.comps) (sym w.2) ∙ f.1) in
      let o = p.gate_drives.only k n (ap (λ x. driven_at (Some x) k) g ∙ f.2) in
      inr (w.0, w.1, ap₂ CompPin w.2 o.0, o.1))
      (sim.forth c f.0 f.1)

  pub to_N : (p : Pin) (n : Name) → driven M p ≡ Some n → (driven N p ≡ Some n) ⊎ ((u : Use) × Has uses u × (p ≡ CompPin u.spare u.spare_pin) × (n ≡ u.out))
  to_N (TopPin t) n d = inl (ap (λ m. driven_top (get m t)) sim.tops ∙ d)
  to_N (CompPin c k) n d =
      let f = found_driver M c k n d in
      ⊎_elim
      (λ e. inl (ap (λ o. driven_at o k) e ∙ f.2))
      (λ h. ⊎_elim
      (λ w.
      let p = sim.in_place w.0 w.1 in
      let g : p.spare ≡ f.0 = same_Some (sym p.spare_is ∙ ap (get M.comps) (sym w.2) ∙ f.1) in
      let o = p.spare_drives.only k n (ap (λ x. driven_at (Some x) k) g ∙ f.2) in
      inr (w.0, w.1, ap₂ CompPin w.2 o.0, o.1))
      (λ i. absurd (i.drives_none k n f.2))
      h)
      (sim.back c f.0 f.1)

  pub gate_not_in_M : (u : Use) → Has uses u → (k n : Name) → driven M (CompPin u.patch k) ≡ Some n → ⊥
  gate_not_in_M u h k n d = not_None (sym (ap (λ o. driven_at o k) (sym (sim.in_place u h).no_gate) ∙ d))

  spare_not_in_N : (u : Use) → Has uses u → (k n : Name) → driven N (CompPin u.spare k) ≡ Some n → ⊥
  spare_not_in_N u h k n d = not_None (sym (ap (λ o. driven_at o k) (sym (sim.in_place u h).no_spare) ∙ d))

  pub gate_in_N : (u : Use) → Has uses u → driven N (CompPin u.patch u.patch_pin) ≡ Some u.out
  gate_in_N u h = (sim.in_place u h).alone.drives

  spare_in_M : (u : Use) → Has uses u → driven M (CompPin u.spare u.spare_pin) ≡ Some u.out
  spare_in_M u h = let p = sim.in_place u h in ap (λ o. driven_at o u.spare_pin) p.spare_is ∙ p.spare_drives.drives

  pub driver_to_M : (n : Name) (p : Pin) → IsDriver N n p → driven M p ≡ Some n → IsDriver M n p
  driver_to_M n p d e = record {
    drives = e;
    only = λ q f. ⊎_elim (λ g. d.only q g) (λ w.
        let g : CompPin w.0.patch w.0.patch_pin ≡ p = d.only _ (gate_in_N w.0 w.1 ∙ ap Some (sym w.3)) in
        absurd (gate_not_in_M w.0 w.1 w.0.patch_pin n (ap (driven M) g ∙ e))) (to_N q n f);
  }

  driver_to_N : (n : Name) (p : Pin) → IsDriver M n p → driven N p ≡ Some n → IsDriver N n p
  driver_to_N n p d e = record {
    drives = e;
    only = λ q f. ⊎_elim (λ g. d.only q g) (λ w.
        let g : CompPin w.0.spare w.0.spare_pin ≡ p = d.only _ (spare_in_M w.0 w.1 ∙ ap Some (sym w.3)) in
        absurd (spare_not_in_N w.0 w.1 w.0.spare_pin n (ap (driven N) g ∙ e))) (to_M q n f);
  }

  pub spare_driver : (u : Use) → Has uses u → IsDriver M u.out (CompPin u.spare u.spare_pin)
  spare_driver u h = record {
    drives = spare_in_M u h;
    only = λ q f. ⊎_elim
        (λ g.
        let s : q ≡ CompPin u.patch u.patch_pin = (sim.in_place u h).alone.only q g in
        absurd (gate_not_in_M u h u.patch_pin u.out (ap (driven M) (sym s) ∙ f)))
        (λ w.
        let s : CompPin w.0.patch w.0.patch_pin ≡ CompPin u.patch u.patch_pin = (sim.in_place u h).alone.only _ (gate_in_N w.0 w.1 ∙ ap Some (sym w.3)) in
        let t : w.0 ≡ u = sim.one_gate w.0 u w.1 h (same_comp s) in
        w.2 ∙ ap (λ x. CompPin x.spare x.spare_pin) t)
        (to_N q u.out f);
  }

  -- ---- computed nets

  itself : (t : List Bool) (ins : List (Option Name)) → Serves low high t ins t ins
  itself t ins = record { looks = λ v l h. refl; reads = λ a h. inl h }

  served : (n : Name) (t : List Bool) (ins : List (Option Name)) → Computed N n t ins → (u : List Bool) × (more : List (Option Name)) × Computed M n u more × Serves low high t ins u more
  served n t ins c = ⊎_elim
      (λ e. (
        t,
        ins,
        record {
          unsupplied = sym (same_nets n) ∙ c.unsupplied;
          comp = c.comp;
          pin = c.pin;
          gate = c.gate;
          is = e;
          driver = driver_to_M n _ c.driver (ap (λ o. driven_at o c.pin) (e ∙ sym c.is) ∙ c.driver.drives);
          at = c.at;
          reads = c.reads;
        },
        itself t ins,
      ))
      (λ w.
      let p = sim.in_place w.0 w.1 in
      let g : p.gate ≡ c.gate = same_Some (sym p.gate_is ∙ ap (get N.comps) (sym w.2) ∙ c.is) in
      let o = p.gate_drives.only c.pin n (ap (λ x. driven_at (Some x) c.pin) g ∙ ap (λ o. driven_at o c.pin) (sym c.is) ∙ c.driver.drives) in
      let s : p.table ≡ t = same_table p.gate_drives.at (ap₂ role_of g (sym o.0) ∙ c.at) in
      let i : input_nets p.gate ≡ ins = ap input_nets g ∙ c.reads in (
        p.spare_table,
        input_nets p.spare,
        record {
          unsupplied = sym (same_nets n) ∙ c.unsupplied;
          comp = w.0.spare;
          pin = w.0.spare_pin;
          gate = p.spare;
          is = p.spare_is;
          driver = subst (λ m. IsDriver M m (CompPin w.0.spare w.0.spare_pin)) (sym o.1) (spare_driver w.0 w.1);
          at = p.spare_drives.at;
          reads = refl;
        },
        subst (λ is. Serves low high t is p.spare_table (input_nets p.spare)) i (subst (λ x. Serves low high x (input_nets p.gate) p.spare_table (input_nets p.spare)) s p.serves),
      ))
      (sim.forth c.comp c.gate c.is)

  stood_for : (n : Name) (u : List Bool) (more : List (Option Name)) → Computed M n u more → (t : List Bool) × (ins : List (Option Name)) × Computed N n t ins × Serves low high t ins u more
  stood_for n u more c =
      let d : driven_at (Some c.gate) c.pin ≡ Some n = ap (λ o. driven_at o c.pin) (sym c.is) ∙ c.driver.drives in
      ⊎_elim
      (λ e. (
        u,
        more,
        record {
          unsupplied = same_nets n ∙ c.unsupplied;
          comp = c.comp;
          pin = c.pin;
          gate = c.gate;
          is = e;
          driver = driver_to_N n _ c.driver (ap (λ o. driven_at o c.pin) e ∙ d);
          at = c.at;
          reads = c.reads;
        },
        itself u more,
      ))
      (λ h. ⊎_elim
      (λ w.
      let p = sim.in_place w.0 w.1 in
      let g : p.spare ≡ c.gate = same_Some (sym p.spare_is ∙ ap (get M.comps) (sym w.2) ∙ c.is) in
      let o = p.spare_drives.only c.pin n (ap (λ x. driven_at (Some x) c.pin) g ∙ d) in
      let s : p.spare_table ≡ u = same_table p.spare_drives.at (ap₂ role_of g (sym o.0) ∙ c.at) in
      let i : input_nets p.spare ≡ more = ap input_nets g ∙ c.reads in (
        p.table,
        input_nets p.gate,
        record {
          unsupplied = same_nets n ∙ c.unsupplied;
          comp = w.0.patch;
          pin = w.0.patch_pin;
          gate = p.gate;
          is = p.gate_is;
          driver = subst (λ m. IsDriver N m (CompPin w.0.patch w.0.patch_pin)) (sym o.1) p.alone;
          at = p.gate_drives.at;
          reads = refl;
        },
        subst (λ is. Serves low high p.table (input_nets p.gate) u is) i (subst (λ x. Serves low high p.table (input_nets p.gate) x (input_nets p.spare)) s p.serves),
      ))
      (λ i. absurd (i.drives_none c.pin n d))
      h)
      (sim.back c.comp c.gate c.is)

  computed_to_M : (n : Name) → IsComputed N n → IsComputed M n
  computed_to_M n c = let s = served n c.0 c.1 c.2 in (s.0, s.1, s.2)

  computed_to_N : (n : Name) → IsComputed M n → IsComputed N n
  computed_to_N n c = let s = stood_for n c.0 c.1 c.2 in (s.0, s.1, s.2)

  free_to_M : (n : Name) → IsFree N n → IsFree M n
  free_to_M n f = (sym (same_nets n) ∙ f.0, λ c. f.1 (computed_to_N n c))

  free_to_N : (n : Name) → IsFree M n → IsFree N n
  free_to_N n f = (same_nets n ∙ f.0, λ c. f.1 (computed_to_M n c))

  -- ---- tie nets

  constant_in_M : (n : Name) (b : Bool) → ((u : Use) → Has uses u → u.out ≢ n) → IsConstant N n b → IsConstant M n b
  constant_in_M n b off (inl e) = inl (sym (same_nets n) ∙ e)
  constant_in_M n b off (inr c) =
      ⊎_elim
      (λ f. inr (record {
        unsupplied = sym (same_nets n) ∙ c.unsupplied;
        comp = c.comp;
        pin = c.pin;
        gate = c.gate;
        is = f;
        driver = driver_to_M n _ c.driver (ap (λ o. driven_at o c.pin) (f ∙ sym c.is) ∙ c.driver.drives);
        at = c.at;
        reads = c.reads;
      }))
      (λ w.
      let p = sim.in_place w.0 w.1 in
      let g : p.gate ≡ c.gate = same_Some (sym p.gate_is ∙ ap (get N.comps) (sym w.2) ∙ c.is) in
      let o = p.gate_drives.only c.pin n (ap (λ y. driven_at (Some y) c.pin) g ∙ ap (λ o. driven_at o c.pin) (sym c.is) ∙ c.driver.drives) in
      absurd (off w.0 w.1 (sym o.1)))
      (sim.forth c.comp c.gate c.is)

  low_in_M : IsConstant M low false
  low_in_M = constant_in_M low false (λ u h. (sim.in_place u h).off_low) sim.low_is

  high_in_M : IsConstant M high true
  high_in_M = constant_in_M high true (λ u h. (sim.in_place u h).off_high) sim.high_is

constant_computed : (N : Netlist) (n : Name) (b : Bool) (t : List Bool) (ins : List (Option Name)) → IsConstant N n b → Computed N n t ins → ins ≡ []
constant_computed N n b t ins (inl e) c = absurd (not_None (sym (same_Some (sym c.unsupplied ∙ e))))
constant_computed N n b t ins (inr m) c = (one_table N n t (b ∷ []) ins [] c m).1

constant_value : (N : Netlist) (n : Name) (b : Bool) (cut : CutBits) (v : Valuation) → IsConstant N n b → IsValuation N cut v → get v n ≡ Some b
constant_value N n b cut v (inl e) a = a.supplied n b e
constant_value N n b cut v (inr m) a = a.computed n (b ∷ []) [] m

-- ---- a component that is a gate has no source pin and no observable but its outputs

source_outside : (o : Option Role) → is_source o ≡ true → (d : Dir) × (o ≡ Some (BoxedPin d))
source_outside None e = absurd (true≢false (sym e))
source_outside (Some GateInput) e = absurd (true≢false (sym e))
source_outside (Some (GateOutput t)) e = absurd (true≢false (sym e))
source_outside (Some (BoxedPin d)) e = (d, refl)

found_source : (N : Netlist) (c p : Name) → is_source_pin N (CompPin c p) ≡ true → (x : Component) × (get N.comps c ≡ Some x) × (is_source (role_of x p) ≡ true)
found_source N c p d = go (get N.comps c) refl d
  where
    go : (o : Option Component) → get N.comps c ≡ o → is_source_at o p ≡ true → (x : Component) × (get N.comps c ≡ Some x) × (is_source (role_of x p) ≡ true)
    go None e d = absurd (true≢false (sym d))
    go (Some x) e d = (x, e, d)

module _ (low high : Name) (N M : Netlist) (uses : List Use) (sim : Sim low high N M uses) where
  -- ---- keys

  source_to_M : (p : Pin) → is_source_pin N p ≡ true → (is_source_pin M p ≡ true) × (driven M p ≡ driven N p)
  source_to_M (TopPin t) e = (ap (λ m. is_source_top (get m t)) (sym sim.tops) ∙ e, ap (λ m. driven_top (get m t)) (sym sim.tops))
  source_to_M (CompPin c k) e =
      let f = found_source N c k e in
      ⊎_elim
      (λ g. (ap (λ o. is_source_at o k) (g ∙ sym f.1) ∙ e, ap (λ o. driven_at o k) (g ∙ sym f.1)))
      (λ w.
      let p = sim.in_place w.0 w.1 in
      let g : p.gate ≡ f.0 = same_Some (sym p.gate_is ∙ ap (get N.comps) (sym w.2) ∙ f.1) in
      let o = source_outside (role_of f.0 k) f.2 in
      absurd (p.gate_drives.no_outside k o.0 (ap (λ x. role_of x k) g ∙ o.1)))
      (sim.forth c f.0 f.1)

  source_to_N : (p : Pin) → is_source_pin M p ≡ true → (is_source_pin N p ≡ true) × (driven N p ≡ driven M p)
  source_to_N (TopPin t) e = (ap (λ m. is_source_top (get m t)) sim.tops ∙ e, ap (λ m. driven_top (get m t)) sim.tops)
  source_to_N (CompPin c k) e =
      let f = found_source M c k e in
      let o = source_outside (role_of f.0 k) f.2 in
      ⊎_elim
      (λ g. (ap (λ o. is_source_at o k) (g ∙ sym f.1) ∙ e, ap (λ o. driven_at o k) (g ∙ sym f.1)))
      (λ h. ⊎_elim
      (λ w.
      let p = sim.in_place w.0 w.1 in
      let g : p.spare ≡ f.0 = same_Some (sym p.spare_is ∙ ap (get M.comps) (sym w.2) ∙ f.1) in
      absurd (p.spare_drives.no_outside k o.0 (ap (λ x. role_of x k) g ∙ o.1)))
      (λ i. absurd (i.no_outside k o.0 o.1))
      h)
      (sim.back c f.0 f.1)

  key_of_to_M : (n : Name) (key : CutKey) → KeyOf N n key → KeyOf M n key
  key_of_to_M n (PinKey p) k = let f = source_to_M p k.1 in (driver_to_M low high N M uses sim n p k.0 (f.1 ∙ k.0.drives), f.0)
  key_of_to_M n (NetKey m) k = (k.0, λ p d e. let f = source_to_N p e in k.1 p (driver_to_N low high N M uses sim n p d (f.1 ∙ d.drives)) f.0)

  key_of_to_N : (n : Name) (key : CutKey) → KeyOf M n key → KeyOf N n key
  key_of_to_N n (PinKey p) k = let f = source_to_N p k.1 in (driver_to_N low high N M uses sim n p k.0 (f.1 ∙ k.0.drives), f.0)
  key_of_to_N n (NetKey m) k = (k.0, λ p d e. let f = source_to_M p e in k.1 p (driver_to_M low high N M uses sim n p d (f.1 ∙ d.drives)) f.0)

  pub same_keys : (key : CutKey) → IsCutKey N key ↔ IsCutKey M key
  same_keys key = (
    λ k. (k.0, free_to_M low high N M uses sim k.0 k.1, key_of_to_M k.0 key k.2),
    λ k. (k.0, free_to_N low high N M uses sim k.0 k.1, key_of_to_N k.0 key k.2),
  )

  -- ---- valuations

  module _ (cut : CutBits) (v : Valuation) where
    pub valuation_to_M : IsValuation N cut v → IsValuation M cut v
    valuation_to_M a = record {
      keys = λ n. a.keys n ∙ ap (λ m. contains_key m n) sim.nets;
      supplied = λ n b e. a.supplied n b (same_nets low high N M uses sim n ∙ e);
      free = λ n key f k. a.free n key (free_to_N low high N M uses sim n f) (key_of_to_N n key k);
      computed = λ n u more c.
          let s = stood_for low high N M uses sim n u more c in
          a.computed n s.0 s.1 s.2 ∙ ap Some (sym (s.3.looks v (constant_value N low false cut v sim.low_is a) (constant_value N high true cut v sim.high_is a)));
    }

    pub valuation_to_N : IsValuation M cut v → IsValuation N cut v
    valuation_to_N a = record {
      keys = λ n. a.keys n ∙ ap (λ m. contains_key m n) (sym sim.nets);
      supplied = λ n b e. a.supplied n b (sym (same_nets low high N M uses sim n) ∙ e);
      free = λ n key f k. a.free n key (free_to_M low high N M uses sim n f) (key_of_to_M n key k);
      computed = λ n t ins c.
          let s = served low high N M uses sim n t ins c in
          a.computed n s.0 s.1 s.2 ∙ ap Some (s.3.looks v (constant_value M low false cut v (low_in_M low high N M uses sim) a) (constant_value M high true cut v (high_in_M low high N M uses sim) a));
    }

    pub same_valuations : IsValuation N cut v ↔ IsValuation M cut v
    same_valuations = (valuation_to_M, valuation_to_N)

  -- ---- closed walks

  abbrev IsReader : Name → Type 0
  IsReader a = (d : Name) × ReadsNet M d a

  reader_no_tie : (n : Name) (b : Bool) → IsConstant M n b → IsReader n → ⊥
  reader_no_tie n b k r = subst (λ is. Has is (Some r.0)) (constant_computed M n b r.1.table r.1.inputs k r.1.to) (has_from_contains r.1.inputs (Some r.0) r.1.reads)

  step_to_N : (c b : Name) → IsReader c → ReadsNet M c b → ReadsNet N c b
  step_to_N c b i r =
      let s = stood_for low high N M uses sim b r.table r.inputs r.to in
      record {
        from = computed_to_N low high N M uses sim c r.from;
        table = s.0;
        inputs = s.1;
        to = s.2;
        reads = contains_from_has s.1 (Some c) (⊎_elim (λ h. h) (λ h. ⊎_elim
            (λ e. absurd (reader_no_tie low false (low_in_M low high N M uses sim) (subst IsReader e i)))
            (λ e. absurd (reader_no_tie high true (high_in_M low high N M uses sim) (subst IsReader e i))) h) (s.3.reads c (has_from_contains r.inputs (Some c) r.reads)));
      }

  -- a closed walk passes no tie net, since what drives one reads nothing
  walk_to_N : (a b : Name) (k : ℕ) → IsReader a → NetWalk M a b k → NetWalk N a b k × IsReader b
  walk_to_N a b zero i w = (w, subst IsReader w i)
  walk_to_N a b (suc k) i w =
      let s = walk_to_N a w.0 k i w.1 in
      ((w.0, s.0, step_to_N w.0 b s.1 w.2), (w.0, w.2))

  pub loop_free_in_M : IsLoopFree N → IsLoopFree M
  loop_free_in_M free a k w = free a k (walk_to_N a a (suc k) (w.0, w.2) w).0

  -- ---- observables

  role_to_M : (o : Option Role) (j : Option Name) → ObservedRole N o j → ObservedRole M o j
  role_to_M None j h = h
  role_to_M (Some GateInput) j h = h
  role_to_M (Some (GateOutput t)) None h = h
  role_to_M (Some (GateOutput t)) (Some n) h = free_to_M low high N M uses sim n h
  role_to_M (Some (BoxedPin Input)) j h = h
  role_to_M (Some (BoxedPin Output)) j h = h
  role_to_M (Some (BoxedPin Inout)) j h = h

  role_to_N : (o : Option Role) (j : Option Name) → ObservedRole M o j → ObservedRole N o j
  role_to_N None j h = h
  role_to_N (Some GateInput) j h = h
  role_to_N (Some (GateOutput t)) None h = h
  role_to_N (Some (GateOutput t)) (Some n) h = free_to_N low high N M uses sim n h
  role_to_N (Some (BoxedPin Input)) j h = h
  role_to_N (Some (BoxedPin Output)) j h = h
  role_to_N (Some (BoxedPin Inout)) j h = h

-- an observable pin of a gate is an output that drives a free net
observed_gate : (N : Netlist) (x : Component) (p : Name) → ((d : Dir) → role_of x p ≡ Some (BoxedPin d) → ⊥) → ObservedAt N (Some x) p → (n : Name) × (driven_at (Some x) p ≡ Some n) × IsFree N n
observed_gate N x p none h = go (role_of x p) (get x.joined p) none h
  where
    go : (o : Option Role) (j : Option Name) → ((d : Dir) → o ≡ Some (BoxedPin d) → ⊥) → ObservedRole N o j → (n : Name) × (cond (is_driving o) j None ≡ Some n) × IsFree N n
    go None j none h = absurd h
    go (Some GateInput) j none h = absurd h
    go (Some (GateOutput t)) None none h = absurd h
    go (Some (GateOutput t)) (Some n) none h = (n, refl, h)
    go (Some (BoxedPin d)) j none h = absurd (none d refl)

found_observed : (N : Netlist) (c p : Name) → IsObservable N (CompPin c p) → (x : Component) × (get N.comps c ≡ Some x) × ObservedAt N (Some x) p
found_observed N c p d = go (get N.comps c) refl d
  where
    go : (o : Option Component) → get N.comps c ≡ o → ObservedAt N o p → (x : Component) × (get N.comps c ≡ Some x) × ObservedAt N (Some x) p
    go None e d = absurd d
    go (Some x) e d = (x, e, d)

module _ (low high : Name) (N M : Netlist) (uses : List Use) (sim : Sim low high N M uses) where
  -- an observable stands on a component of both
  seen_in_N : (c p : Name) → IsObservable N (CompPin c p) → (x : Component) × (get N.comps c ≡ Some x) × (get M.comps c ≡ Some x) × ObservedAt N (Some x) p
  seen_in_N c k h =
      let f = found_observed N c k h in
      ⊎_elim
      (λ g. (f.0, f.1, g, f.2))
      (λ w.
      let p = sim.in_place w.0 w.1 in
      let g : p.gate ≡ f.0 = same_Some (sym p.gate_is ∙ ap (get N.comps) (sym w.2) ∙ f.1) in
      let o = observed_gate N p.gate k (p.gate_drives.no_outside k) (subst (λ x. ObservedAt N (Some x) k) (sym g) f.2) in
      let s = p.gate_drives.only k o.0 o.1 in
      absurd (o.2.1 (subst (IsComputed N) (sym s.1) (
        p.table,
        input_nets p.gate,
        record {
          unsupplied = p.unsupplied;
          comp = w.0.patch;
          pin = w.0.patch_pin;
          gate = p.gate;
          is = p.gate_is;
          driver = p.alone;
          at = p.gate_drives.at;
          reads = refl;
        },
      ))))
      (sim.forth c f.0 f.1)

  seen_in_M : (c p : Name) → IsObservable M (CompPin c p) → (x : Component) × (get N.comps c ≡ Some x) × (get M.comps c ≡ Some x) × ObservedAt M (Some x) p
  seen_in_M c k h =
      let f = found_observed M c k h in
      ⊎_elim
      (λ g. (f.0, g, f.1, f.2))
      (λ i. ⊎_elim
      (λ w.
      let p = sim.in_place w.0 w.1 in
      let g : p.spare ≡ f.0 = same_Some (sym p.spare_is ∙ ap (get M.comps) (sym w.2) ∙ f.1) in
      let o = observed_gate M p.spare k (p.spare_drives.no_outside k) (subst (λ x. ObservedAt M (Some x) k) (sym g) f.2) in
      let s = p.spare_drives.only k o.0 o.1 in
      absurd (o.2.1 (subst (IsComputed M) (sym s.1) (
        p.spare_table,
        input_nets p.spare,
        record {
          unsupplied = subst (λ m. get m w.0.out ≡ Some None) sim.nets p.unsupplied;
          comp = w.0.spare;
          pin = w.0.spare_pin;
          gate = p.spare;
          is = p.spare_is;
          driver = spare_driver low high N M uses sim w.0 w.1;
          at = p.spare_drives.at;
          reads = refl;
        },
      ))))
      (λ idle.
      let o = observed_gate M f.0 k (idle.no_outside k) f.2 in
      absurd (idle.drives_none k o.0 o.1))
      i)
      (sim.back c f.0 f.1)

  pub same_observables : (p : Pin) → IsObservable N p ↔ IsObservable M p
  same_observables (TopPin t) = (λ h. subst (λ m. ObservedTop (get m t)) sim.tops h, λ h. subst (λ m. ObservedTop (get m t)) (sym sim.tops) h)
  same_observables (CompPin c k) = (
    λ h. let s = seen_in_N c k h in subst (λ o. ObservedAt M o k) (sym s.2) (role_to_M low high N M uses sim (role_of s.0 k) (get s.0.joined k) s.3),
    λ h. let s = seen_in_M c k h in subst (λ o. ObservedAt N o k) (sym s.1) (role_to_N low high N M uses sim (role_of s.0 k) (get s.0.joined k) s.3),
  )

  pub same_observed : (v : Valuation) (p : Pin) → IsObservable N p → observed N v p ≡ observed M v p
  same_observed v (TopPin t) h = ap (λ m. value_top v (get m t)) sim.tops
  same_observed v (CompPin c k) h = let s = seen_in_N c k h in ap (λ o. pin_value v o k) (s.1 ∙ sym s.2)

  pub same_meaning : IsLoopFree N → SameMeaning N M
  same_meaning free =
      let free_M : IsLoopFree M = loop_free_in_M low high N M uses sim free in
      record {
        loop_free = (free, free_M);
        nets = sim.nets;
        keys = same_keys low high N M uses sim;
        observables = same_observables;
        one = (one_valuation N free, one_valuation M free_M);
        agree = λ cut v w choice a b.
            let one = one_valuation N free cut choice in
            let e : v ≡ w = one.2 v a ∙ sym (one.2 w (valuation_to_N low high N M uses sim cut w b)) in
            (e, λ p h. same_observed v p h ∙ ap (λ x. observed M x p) e);
      }
