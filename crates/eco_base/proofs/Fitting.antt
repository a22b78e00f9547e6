-- What follows where masters fit, and when a fault of one kind is the first of all.
use Rattle.std.proofs.Common.{◌≡◌, ◌≢◌, ℕ, Bool, true, false, List, map, Option, Some, None, is_none, Result, Ok, Err, OnOk, IfErr, ⊎_elim, refl, sym, ap, ◌∙◌, subst, true≢false}
use Rattle.std.specs.List.{Contains, find, list_all}
use Rattle.std.specs.Option.{option_map}
use Rattle.std.proofs.lemmas.Bool.{cases_Bool}
use Rattle.eco_def.specs.declared.design.Design.{Design}
use Rattle.eco_def.specs.Named.{NamedComp, comp_names, names_of}
use Rattle.eco_def.specs.View.{comp_in, design_in}
use Rattle.eco_func.specs.Masters.{MasterTables}
use Rattle.eco_lef.specs.declared.master.Master.{Master}
use Rattle.eco_lef.specs.Collected.{find_master}
use Rattle.eco_net.proofs.Basics.{Has, has_from_contains, has_of_map, has_map, not_None}
use Rattle.eco_elaborate.proofs.Members.{passes_found}
use Rattle.eco_elaborate.specs.Stated.{named_comp, named_comps}
use Rattle.eco_master_faults.specs.Tables.{Masters, kinds_of, kind_in, powers_of}
use Rattle.eco_master_faults.specs.Checks.{Checks, is_unknown}
use Rattle.eco_net.specs.Listing.{Listing, netlist, comp_names as listed_names}
use Rattle.eco_elaborate.specs.declared.fault.DesignFault.{DesignFault}
use Rattle.eco_elaborate.specs.declared.fault.DesignFault.TheVariants.{Memory as NoRoom}
use Rattle.eco_elaborate.specs.Building.{IsFault, IsListed}
use Rattle.eco_pin_faults.specs.declared.faults.UnknownPin.{UnknownPin as NoPin}
use Rattle.eco_pin_faults.specs.declared.faults.TwoNets.{TwoNets}
use Rattle.eco_pin_faults.specs.declared.faults.Pattern.{Pattern}
use Rattle.eco_pin_faults.specs.Places.{joints, places}
use Rattle.eco_pin_faults.specs.Faults.{first_unknown as first_unknown_pin, first_net, first_differing, first_pattern, unknown_at, two_nets_at, pattern_at, named, is_right}
use Rattle.eco_base.specs.declared.fault.BaseFault.{BaseFault}
use Rattle.eco_base.specs.declared.fault.BaseFault.TheVariants.{UnknownMaster, FunctionPins, UnknownPin, PinNetDiffers, PatternOnSignal, SupplyDiffers, Memory}
use Rattle.eco_base.specs.Texts.{TextParts, AreRead}
use Rattle.eco_base.proofs.Clean.{clean_of, not_refused, tops_not_wrong}
use Rattle.eco_base.specs.Joined.{design_names, masters_of, kinds, powers, AreClean, ListsClean, MastersFit, unknown_pin, two_nets, pattern, BlamesMasters, BlamesPin, BlamesNets, BlamesPattern, BlamesSupply}
use Rattle.eco_base.specs.Opened.{IsFirstOf}

-- ---- options

pub none_mapped : {A B : Type 0} (f : A → B) (o : Option A) → option_map f o ≡ None → o ≡ None
none_mapped f None e = refl
none_mapped f (Some x) e = absurd (true≢false (sym (ap is_none e)))

pub mapped_none : {A B : Type 0} (f : A → B) (o : Option A) → o ≡ None → option_map f o ≡ None
mapped_none f o e = ap (option_map f) e

not_none : {A : Type 0} (o : Option A) → is_none o ≡ false → o ≡ None → ⊥
not_none o some e = true≢false (sym (ap is_none e) ∙ some)

passes_none : {A : Type 0} (test : A → Bool) (xs : List A) → find test xs ≡ None → (x : A) → Has xs x → test x ≡ false
passes_none test xs e x h = ⊎_elim (λ t. let f = passes_found test xs x h t in absurd (not_None (sym f.1 ∙ e))) (λ f. f) (cases_Bool (test x))

-- ---- masters that fit

module _ (t : TextParts) where
  -- each component's model is known
  pub models_known : MastersFit t → (c : NamedComp) → Contains (design_names t).comps c → (kinds t).kind c.model ≢ None
  models_known fit c has none =
      let a = has_of_map comp_names (map (comp_in t.text) t.design.comps) c (has_from_contains (design_names t).comps c has) in
      let b = has_of_map (comp_in t.text) t.design.comps a.0 a.1 in
      let same : named_comp t.text b.0 ≡ c = ap comp_names b.2 ∙ a.2 in
      let here : Has (named_comps t.text t.design.comps) c = subst (λ k. Has (named_comps t.text t.design.comps) k) same (has_map (named_comp t.text) t.design.comps b.0 b.1) in
      not_none (find_master c.model t.library) (passes_none (is_unknown t.library) (named_comps t.text t.design.comps) fit.0 c here) (none_mapped (kind_in t.functions) (find_master c.model t.library) none)

  -- ---- when a fault of one kind is the first

  pub masters_first : (e : BaseFault) → BlamesMasters t e → IsFirstOf t e
  masters_first (UnknownMaster comp) h = λ lef def functions desk read. (t, read, h)
  masters_first (FunctionPins master pin) h = λ lef def functions desk read. (t, read, h)
  masters_first Memory h = λ lef def functions desk read. tt
  masters_first other h = absurd h

  pub pins_first : MastersFit t → (e : BaseFault) → BlamesPin t e → IsFirstOf t e
  pins_first fit (UnknownPin net place) h = λ lef def functions desk read. (t, read, (fit, h))
  pins_first fit Memory h = λ lef def functions desk read. tt
  pins_first fit other h = absurd h

  pub nets_first : MastersFit t → unknown_pin t ≡ None → (e : BaseFault) → BlamesNets t e → IsFirstOf t e
  nets_first fit pins (PinNetDiffers pin first second) h = λ lef def functions desk read. (t, read, (fit, pins, h))
  nets_first fit pins Memory h = λ lef def functions desk read. tt
  nets_first fit pins other h = absurd h

  pub patterns_first : MastersFit t → unknown_pin t ≡ None → two_nets t ≡ None → (e : BaseFault) → BlamesPattern t e → IsFirstOf t e
  patterns_first fit pins nets (PatternOnSignal net pin) h = λ lef def functions desk read. (t, read, (fit, pins, nets, h))
  patterns_first fit pins nets Memory h = λ lef def functions desk read. tt
  patterns_first fit pins nets other h = absurd h

  pub supplies_first : MastersFit t → unknown_pin t ≡ None → two_nets t ≡ None → pattern t ≡ None → (e : BaseFault) → BlamesSupply t e → IsFirstOf t e
  supplies_first fit pins nets patterns (SupplyDiffers net) h = λ lef def functions desk read. (t, read, (fit, pins, nets, patterns, h))
  supplies_first fit pins nets patterns Memory h = λ lef def functions desk read. tt
  supplies_first fit pins nets patterns other h = absurd h

-- ---- what is found by a table of the texts' masters

module _ (t : TextParts) (m : Masters) (text : List ℕ) (design : Design) (e : m ≡ masters_of t) (f : text ≡ t.text) (g : design ≡ t.design) where
  pub pin_found : (o : Option NoPin) → o ≡ option_map unknown_at (first_unknown_pin (kinds_of m.library m.functions) (powers_of m.library) text design) → unknown_pin t ≡ o
  pin_found o h = sym (h ∙ (λ i. option_map unknown_at (first_unknown_pin (kinds_of (e i).library (e i).functions) (powers_of (e i).library) (f i) (g i))))

  pub nets_found : (o : Option TwoNets) → o ≡ option_map (λ p. two_nets_at (first_net (places text design) p.comp p.pin) p) (first_differing (kinds_of m.library m.functions) text design) → two_nets t ≡ o
  nets_found o h = sym (h ∙ (λ i. option_map (λ p. two_nets_at (first_net (places (f i) (g i)) p.comp p.pin) p) (first_differing (kinds_of (e i).library (e i).functions) (f i) (g i))))

  pub pattern_found : (o : Option Pattern) → o ≡ option_map pattern_at (first_pattern (kinds_of m.library m.functions) text design) → pattern t ≡ o
  pattern_found o h = sym (h ∙ (λ i. option_map pattern_at (first_pattern (kinds_of (e i).library (e i).functions) (f i) (g i))))

-- ---- what is known of the texts by what the code looks at

module _ (t : TextParts) where
  pub fit_known : (text : List ℕ) (design : Design) (library : List Master) (functions : List MasterTables) → text ≡ t.text → design ≡ t.design → library ≡ t.library → functions ≡ t.functions
      → Checks (named_comps text design.comps) library functions (Ok tt) → MastersFit t
  fit_known text design library functions e f g h checks =
      subst (λ z. Checks (named_comps t.text t.design.comps) t.library z (Ok tt)) h
      (subst (λ z. Checks (named_comps t.text t.design.comps) z functions (Ok tt)) g
      (subst (λ (z : Design). Checks (named_comps t.text z.comps) library functions (Ok tt)) f
      (subst (λ z. Checks (named_comps z design.comps) library functions (Ok tt)) e checks)))

  pub table_is : (library : List Master) (functions : List MasterTables) (m : Masters) → library ≡ t.library → functions ≡ t.functions → m ≡ record { library = library; functions = functions } → m ≡ masters_of t
  table_is library functions m e f g = g ∙ (λ i. record { library = e i; functions = f i })

  clean_pins : AreClean t → first_unknown_pin (kinds t) (powers t) t.text t.design ≡ None
  clean_pins clean = none_mapped unknown_at (first_unknown_pin (kinds t) (powers t) t.text t.design) clean.0

  clean_nets : AreClean t → first_differing (kinds t) t.text t.design ≡ None
  clean_nets clean = none_mapped (λ p. two_nets_at (first_net (places t.text t.design) p.comp p.pin) p) (first_differing (kinds t) t.text t.design) clean.1

  module _ (m : Masters) (text : List ℕ) (design : Design) (e : m ≡ masters_of t) (f : text ≡ t.text) (g : design ≡ t.design) (read : AreRead t) where
    pub refused_known : MastersFit t → (fault : DesignFault) → fault ≢ NoRoom → IsFault (kinds_of m.library m.functions) (powers_of m.library) (names_of (design_in text design)) fault → AreClean t → ⊥
    refused_known fit fault other is clean =
        let here : IsFault (kinds t) (powers t) (design_names t) fault =
        subst (λ (z : Masters). IsFault (kinds_of z.library z.functions) (powers_of z.library) (design_names t) fault) e
        (subst (λ z. IsFault (kinds_of m.library m.functions) (powers_of m.library) (names_of (design_in t.text z)) fault) g
        (subst (λ z. IsFault (kinds_of m.library m.functions) (powers_of m.library) (names_of (design_in z design)) fault) f is)) in
        not_refused (kinds t) (powers t) t.text t.design read.reading (clean_pins clean) (clean_nets clean) (models_known t fit) clean.2 fault other here

    pub clean_known : (L : Listing) → IsListed (kinds_of m.library m.functions) (powers_of m.library) (names_of (design_in text design)) (netlist L) → listed_names L ≡ map (λ c. c.name) (named_comps text design.comps)
        → list_all (is_right (named t.text t.design)) (joints t.text t.design) ≡ true → ListsClean t L
    clean_known L is numbers right =
        let here : IsListed (kinds t) (powers t) (design_names t) (netlist L) =
        subst (λ (z : Masters). IsListed (kinds_of z.library z.functions) (powers_of z.library) (design_names t) (netlist L)) e
        (subst (λ z. IsListed (kinds_of m.library m.functions) (powers_of m.library) (names_of (design_in t.text z)) (netlist L)) g
        (subst (λ z. IsListed (kinds_of m.library m.functions) (powers_of m.library) (names_of (design_in z design)) (netlist L)) f is)) in
        let clean = clean_of (kinds t) (powers t) t.text t.design read.reading (netlist L) here right in
        record {
          clean = (
            mapped_none unknown_at (first_unknown_pin (kinds t) (powers t) t.text t.design) clean.0,
            mapped_none (λ p. two_nets_at (first_net (places t.text t.design) p.comp p.pin) p) (first_differing (kinds t) t.text t.design) clean.1,
            clean.2,
          );
          numbers = numbers ∙ (λ i. map (λ (c : NamedComp). c.name) (named_comps (f i) (g i).comps));
          listed = here;
        }

  pub not_clean : AreRead t → list_all (is_right (named t.text t.design)) (joints t.text t.design) ≡ false → AreClean t → ⊥
  not_clean read wrong clean = tops_not_wrong (kinds t) (powers t) t.text t.design read.reading (clean_pins clean) (clean_nets clean) wrong

  pub memory_first : (e : BaseFault) → e ≡ Memory → IsFirstOf t e
  memory_first e is = subst (IsFirstOf t) (sym is) (λ lef def functions desk read. tt)

  -- whether top pins agree, by the text and the design that the code looks at
  pub right_known : (text : List ℕ) (design : Design) → text ≡ t.text → design ≡ t.design → (b answer : Bool) → b ≡ list_all (is_right (named text design)) (joints text design) → b ≡ answer
      → list_all (is_right (named t.text t.design)) (joints t.text t.design) ≡ answer
  right_known text design e f b answer is said = (λ i. list_all (is_right (named (sym e i) (sym f i))) (joints (sym e i) (sym f i))) ∙ sym is ∙ said

-- ---- what holds of an answer

pub on_ok_more : {A : Type 0} {P Q : Type 0} (r : Result A BaseFault) → (P → Q) → OnOk r P → OnOk r Q
on_ok_more (Ok x) f h = f h
on_ok_more (Err e) f h = tt

pub if_err_more : {A : Type 0} (P Q : BaseFault → Type 0) (r : Result A BaseFault) → ((e : BaseFault) → P e → Q e) → IfErr r P → IfErr r Q
if_err_more P Q (Ok x) f h = tt
if_err_more P Q (Err e) f h = f e h
