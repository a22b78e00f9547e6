-- The first component of an unknown master, and the first master that differs, by names.
use Rattle.std.proofs.Common.{◌≡◌, ℕ, Bool, true, false, List, [], ◌∷◌, map, Option, Some, option_map, refl, sym, ap, subst, ◌∙◌, cond}
use Rattle.std.specs.List.{find}
use Rattle.eco_def.specs.declared.design.Comp.{Comp}
use Rattle.eco_func.specs.Masters.{MasterTables}
use Rattle.eco_lef.specs.declared.master.Master.{Master}
use Rattle.eco_net.specs.Netlist.{Name}
use Rattle.eco_elaborate.specs.Stated.{named_comp, named_comps}
use Rattle.eco_master_faults.specs.Differing.{FirstDiffering}
use Rattle.eco_master_faults.specs.Checks.{is_unknown, first_unknown}

found_map : {A B : Type 0} (f : A → B) (p : B → Bool) (xs : List A) → find p (map f xs) ≡ option_map f (find (λ x. p (f x)) xs)
found_map f p [] = refl
found_map f p (x ∷ xs) = go (p (f x)) (found_map f p xs)
  where
    go : (b : Bool) → find p (map f xs) ≡ option_map f (find (λ x. p (f x)) xs) → cond b (Some (f x)) (find p (map f xs)) ≡ option_map f (cond b (Some x) (find (λ x. p (f x)) xs))
    go true e = refl
    go false e = e

-- by names, what was found in the design
pub first_by_names : (text : List ℕ) (comps : List Comp) (ms : List Master) (o : Option Comp) → o ≡ find (λ c. is_unknown ms (named_comp text c)) comps →
    first_unknown ms (named_comps text comps) ≡ option_map (named_comp text) o
first_by_names text comps ms o e = found_map (named_comp text) (is_unknown ms) comps ∙ ap (option_map (named_comp text)) (sym e)

-- the models that are used, by another form of them
pub first_by_uses : (used uses : Name → Bool) (fs : List MasterTables) (ms : List Master) (o : Option (Master × Name)) → ((q : Name) → used q ≡ uses q) → FirstDiffering used fs ms o → FirstDiffering uses fs ms o
first_by_uses used uses fs ms o same = subst (λ u. FirstDiffering u fs ms o) (λ i q. same q i)
