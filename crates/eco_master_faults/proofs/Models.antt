-- Where each model is in the library, each component's is.
use Rattle.std.proofs.Common.{◌≡◌, ℕ, Bool, true, false, not, cond, List, [], ◌∷◌, Some, None, is_some, refl, sym, ap, ◌∙◌, inl, inr}
use Rattle.std.specs.List.{find, list_all}
use Rattle.std.specs.Str.{bytes_eq}
use Rattle.std.specs.Borrow.{Bor}
use Rattle.std.specs.HashMap.{HashMap, keys}
use Rattle.std.specs.declared.hash.FoldHasher.{FoldHasher}
use Rattle.std.specs.declared.hash.BuildHasherDefault.{BuildHasherDefault}
use Rattle.std.proofs.lemmas.Map.Made.{is_some-lookup}
use Rattle.eco_def.specs.declared.design.Comp.{Comp}
use Rattle.eco_common.specs.KnownNames.{knows}
use Rattle.eco_def.specs.Named.{NamedComp}
use Rattle.eco_lef.specs.declared.master.Master.{Master}
use Rattle.eco_lef.specs.Collected.{find_master}
use Rattle.eco_net.specs.Netlist.{Name}
use Rattle.eco_net.proofs.Basics.{Has, has_map}
use Rattle.eco_elaborate.specs.Stated.{named_comp, named_comps}
use Rattle.eco_elaborate.proofs.Members.{any_has, has_any, all_has}
use Rattle.eco_elaborate.proofs.Names.{same_name, is_name}
use Rattle.eco_master_faults.specs.Differing.{uses}
use Rattle.eco_master_faults.specs.Checks.{is_unknown}

none_passes : {A : Type 0} (test : A → Bool) (xs : List A) → ((x : A) → Has xs x → test x ≡ false) → None ≡ find test xs
none_passes test [] fails = refl
none_passes test (x ∷ xs) fails = none_passes test xs (λ y h. fails y (inr h)) ∙ ap (λ b. cond b (Some x) (find test xs)) (sym (fails x (inl refl)))

module _ (used : HashMap (Bor (List ℕ)) (Unit {0}) (BuildHasherDefault FoldHasher)) (text : List ℕ) (comps : List Comp) (library : List Master) (same : (q : Name) → knows used q ≡ uses (named_comps text comps) q) (all : list_all (λ (m : Bor (List ℕ)). is_some (find_master m.now library)) (keys used) ≡ true) where
  known : (q : Name) → knows used q ≡ true → is_some (find_master q library) ≡ true
  known q e =
      let k = any_has (λ (m : Bor (List ℕ)). bytes_eq q m.now) (keys used) (sym (is_some-lookup (λ (m : Bor (List ℕ)). bytes_eq q m.now) used.entries) ∙ e) in
      ap (λ n. is_some (find_master n library)) (same_name q k.0.now k.2)
      ∙ all_has (λ (m : Bor (List ℕ)). is_some (find_master m.now library)) (keys used) k.0 all k.1

  used_by : (c : Comp) → Has comps c → knows used (named_comp text c).model ≡ true
  used_by c h =
      let n = named_comp text c in
      same n.model ∙ has_any (λ (o : NamedComp). bytes_eq o.model n.model) (named_comps text comps) n (has_map (named_comp text) comps c h) (is_name n.model n.model refl)

  pub none_unknown : None ≡ find (λ c. is_unknown library (named_comp text c)) comps
  none_unknown = none_passes (λ c. is_unknown library (named_comp text c)) comps (λ c h. ap not (known (named_comp text c).model (used_by c h)))
