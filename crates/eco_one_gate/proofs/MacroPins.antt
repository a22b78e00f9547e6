-- A component's pins have names that a DEF text can have, since the names in a LEF are words.
use Rattle.std.proofs.Common.{◌≡◌, ℕ, Bool, true, not, List, [], ◌∷◌, ◌++◌, map, Option, Some, None, refl, sym, ap, ◌∙◌, subst, inr, ⊎_elim, true≢false}
use Rattle.std.specs.List.{list_all}
use Rattle.std.specs.Option.{option_map}
use Rattle.std.specs.Str.{bytes_eq}
use Rattle.std.proofs.lemmas.Bool.{cases_Bool, and_parts}
use Rattle.std.proofs.lemmas.Slice.Eq.{bytes_eq-Decides}
use Rattle.eco_common.specs.declared.geometry.Dir.{Dir}
use Rattle.eco_common.specs.declared.geometry.Dir.TheVariants.{Input, Output}
use Rattle.eco_def.specs.Named.{NamedComp, comp_names}
use Rattle.eco_def.specs.View.{comp_in}
use Rattle.eco_func.specs.Masters.{MasterTables}
use Rattle.eco_func.specs.FunctionsFile.{find_master as find_function}
use Rattle.eco_func.specs.declared.output.OutputFn.{OutputFn}
use Rattle.eco_lef.specs.declared.master.Master.{Master}
use Rattle.eco_lef.specs.declared.master.MasterPin.{MasterPin}
use Rattle.eco_lef.specs.Collected.{find_master}
use Rattle.eco_lef.specs.Names.{are_words}
use Rattle.eco_text.specs.Tokens.{can_name}
use Rattle.eco_net.specs.Netlist.{Name, Kind, Gate, Boxed, Role, GateInput, GateOutput, BoxedPin}
use Rattle.eco_net.specs.Listing.{bits_of}
use Rattle.eco_net.proofs.Basics.{Has, has_append_left, has_append_right, has_of_map, has_map, same_Some, not_None}
use Rattle.eco_elaborate.specs.Netlists.{kind_pins}
use Rattle.eco_elaborate.specs.Stated.{named_comp, named_comps}
use Rattle.eco_elaborate.proofs.Members.{all_has, found_passes, has_any, has_of_append, of_filter}
use Rattle.eco_master_faults.specs.Tables.{library_pins, signal_pins, kind_by, kind_in}
use Rattle.eco_master_faults.specs.Differing.{function_pins, uses}
use Rattle.eco_master_faults.specs.Odd.{has_pin}
use Rattle.eco_master_faults.proofs.OddPins.{pin_has, has_a_pin}
use Rattle.eco_base.specs.Texts.{TextParts}
use Rattle.eco_base.specs.Joined.{kinds, design_names, MastersFit}

-- ---- names

pin_words : (masters : List Master) (m : Master) (p : MasterPin) (n : Name) → list_all are_words masters ≡ true → Has masters m → Has m.pins p → p.name ≡ n → can_name n ≡ true
pin_words masters m p n all h g same =
    let words = all_has are_words masters m all h in
    ap can_name (sym same) ∙ all_has (λ (p : MasterPin). can_name p.name) m.pins p (and_parts (can_name m.name) (list_all (λ (p : MasterPin). can_name p.name) m.pins) words).1 g

-- ---- pins

mapped_some : {A B : Type 0} (f : A → B) (o : Option A) (y : B) → option_map f o ≡ Some y → (x : A) × (o ≡ Some x) × (f x ≡ y)
mapped_some f None y e = absurd (not_None (sym e))
mapped_some f (Some x) y e = (x, refl, same_Some e)

-- a pin of the library that is in a netlist is one of the macro
library_pin : (m : Master) (n : Name) (d : Dir) → Has (library_pins m) (n, d) → (p : MasterPin) × Has m.pins p × (p.name ≡ n)
library_pin m n d h =
    let r = has_of_map {B = Name × Dir} (λ (q : MasterPin). (q.name, q.dir)) (signal_pins m) (n, d) h in
    (r.0, (of_filter (λ (q : MasterPin). not q.supply) m.pins r.0 r.1).0, ap (λ (x : Name × Dir). x.0) r.2)

-- a gate's outputs with their tables
abbrev tabled : MasterTables → List (Name × List Bool)
tabled s = map (λ o. (o.pin, bits_of o.table)) s.outputs

-- a gate's pin is one that its functions list
gate_pin : (s : MasterTables) (n : Name) → Has (kind_pins (Gate s.inputs (tabled s))) n → (d : Dir) × Has (function_pins s) (n, d)
gate_pin s n h =
    let e = has_of_map {A = Name × Role} (λ e. e.0) (map {B = Name × Role} (λ p. (p, GateInput)) s.inputs ++ map {B = Name × Role} (λ o. (o.0, GateOutput o.1)) (tabled s)) n h in
    ⊎_elim (input e.0 e.2) (output e.0 e.2) (has_of_append (map {B = Name × Role} (λ p. (p, GateInput)) s.inputs) (map {B = Name × Role} (λ o. (o.0, GateOutput o.1)) (tabled s)) e.0 e.1)
  where
    input : (e : Name × Role) → e.0 ≡ n → Has (map {B = Name × Role} (λ p. (p, GateInput)) s.inputs) e → (d : Dir) × Has (function_pins s) (n, d)
    input e same a =
        let r = has_of_map {B = Name × Role} (λ p. (p, GateInput)) s.inputs e a in
        let h : Has (function_pins s) (r.0, Input) = has_append_left _ _ (r.0, Input) (has_map {B = Name × Dir} (λ k. (k, Input)) s.inputs r.0 r.1) in
        (Input, subst (λ (k : Name). Has (function_pins s) (k, Input)) (ap (λ (x : Name × Role). x.0) r.2 ∙ same) h)

    output : (e : Name × Role) → e.0 ≡ n → Has (map {B = Name × Role} (λ o. (o.0, GateOutput o.1)) (tabled s)) e → (d : Dir) × Has (function_pins s) (n, d)
    output e same a =
        let r = has_of_map {A = Name × List Bool} {B = Name × Role} (λ o. (o.0, GateOutput o.1)) (tabled s) e a in
        let q = has_of_map {B = Name × List Bool} (λ (o : OutputFn). (o.pin, bits_of o.table)) s.outputs r.0 r.1 in
        let h : Has (function_pins s) (q.0.pin, Output) = has_append_right _ _ (q.0.pin, Output) (has_map {B = Name × Dir} (λ (o : OutputFn). (o.pin, Output)) s.outputs q.0 q.1) in
        (Output, subst (λ (k : Name). Has (function_pins s) (k, Output)) (ap (λ (x : Name × List Bool). x.0) q.2 ∙ ap (λ (x : Name × Role). x.0) r.2 ∙ same) h)

-- a box's pin is one that the library has in a netlist
box_pin : (m : Master) (n : Name) → Has (kind_pins (Boxed (library_pins m))) n → (d : Dir) × Has (library_pins m) (n, d)
box_pin m n h =
    let e = has_of_map {A = Name × Role} (λ e. e.0) (map {B = Name × Role} (λ p. (p.0, BoxedPin p.1)) (library_pins m)) n h in
    let r = has_of_map {A = Name × Dir} {B = Name × Role} (λ p. (p.0, BoxedPin p.1)) (library_pins m) e.0 e.1 in
    (r.0.1, subst (λ (k : Name). Has (library_pins m) (k, r.0.1)) (ap (λ (x : Name × Role). x.0) r.2 ∙ e.2) r.1)

-- ---- the pins of a design's components

module _ (t : TextParts) (fit : MastersFit t) where
  -- a component of the design by names is one of its statements
  comp_stated : (c : NamedComp) → Has (design_names t).comps c → Has (named_comps t.text t.design.comps) c
  comp_stated c h =
      let a = has_of_map comp_names (map (comp_in t.text) t.design.comps) c h in
      let b = has_of_map (comp_in t.text) t.design.comps a.0 a.1 in
      let same : named_comp t.text b.0 ≡ c = ap comp_names b.2 ∙ a.2 in
      subst (Has (named_comps t.text t.design.comps)) same (has_map (named_comp t.text) t.design.comps b.0 b.1)

  -- its pins are in the library, whether the functions name its macro or not
  macro_pin : (c : NamedComp) (m : Master) (n : Name) → Has (design_names t).comps c → Has t.library m → m.name ≡ c.model → Has (kind_pins (kind_in t.functions m)) n → (d : Dir) × Has (library_pins m) (n, d)
  macro_pin c m n h g same has = by (find_function m.name t.functions) refl has
    where
      used : uses (named_comps t.text t.design.comps) m.name ≡ true
      used = has_any (λ (c : NamedComp). bytes_eq c.model m.name) (named_comps t.text t.design.comps) c (comp_stated c h) ((bytes_eq-Decides c.model m.name).1 (sym same))

      by : (o : Option MasterTables) → find_function m.name t.functions ≡ o → Has (kind_pins (kind_by o m)) n → (d : Dir) × Has (library_pins m) (n, d)
      by None e k = box_pin m n k
      by (Some s) e k =
          let f = gate_pin s n k in
          ⊎_elim
          (λ so. (f.0, pin_has m n f.0 so))
          (λ not_so. absurd (fit.1 m n g (record {
            in_use = used;
            tables = s;
            named = e;
            differs = (f.0, inr (f.1, λ has. true≢false (sym (has_a_pin m n f.0 has) ∙ not_so)));
          })))
          (cases_Bool (has_pin m n f.0))

  -- so they can be printed
  pub pin_can_name : list_all are_words t.library ≡ true → (c : NamedComp) (k : Kind) (n : Name) → Has (design_names t).comps c → (kinds t).kind c.model ≡ Some k → Has (kind_pins k) n → can_name n ≡ true
  pin_can_name words c k n h e has =
      let m = mapped_some (kind_in t.functions) (find_master c.model t.library) k e in
      let found = found_passes (λ (m : Master). bytes_eq m.name c.model) t.library m.0 m.1 in
      let d = macro_pin c m.0 n h found.0 ((bytes_eq-Decides m.0.name c.model).0 found.1) (subst (λ k. Has (kind_pins k) n) (sym m.2) has) in
      let p = library_pin m.0 n d.0 d.1 in
      pin_words t.library m.0 p.0 n words found.0 p.1 p.2
