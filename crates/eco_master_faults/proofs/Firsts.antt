-- The first master that differs, one master after another.
use Rattle.std.proofs.Common.{◌≡◌, ℕ, suc, ◌+◌, ◌<◌, Bool, true, false, List, [], ◌∷◌, ◌++◌, length, take, drop, get_or, Option, Some, None, sym, ap, subst, ◌∙◌, ⊎_elim, inl, inr, true≢false}
use Rattle.std.proofs.lemmas.List.{take_more, take-append-drop}
use Rattle.std.proofs.Math.Seq.{drop-cons}
use Rattle.eco_func.specs.Masters.{MasterTables}
use Rattle.eco_func.specs.FunctionsFile.{find_master as find_function}
use Rattle.eco_lef.specs.declared.master.Master.{Master}
use Rattle.eco_net.specs.Among.{Has}
use Rattle.eco_net.specs.Netlist.{Name}
use Rattle.eco_net.proofs.Basics.{same_Some, not_None}
use Rattle.eco_net.proofs.AllPins.{split_has}
use Rattle.eco_master_faults.specs.Differing.{PinDiffers, Differs, NoneDiffers, IsLeast, IsFirstDiffering}
use Rattle.eco_master_faults.proofs.Leasts.{least_agree}

-- ---- one master

-- it isn't used
pub unused : (used : Name → Bool) (fs : List MasterTables) (m : Master) → used m.name ≡ false → IsLeast (Differs used fs m) None
unused used fs m e = λ n d. true≢false (sym d.in_use ∙ e)

-- the functions file doesn't name it
pub unnamed : (used : Name → Bool) (fs : List MasterTables) (m : Master) → find_function m.name fs ≡ None → IsLeast (Differs used fs m) None
unnamed used fs m e = λ n d. not_None (sym d.named ∙ e)

-- it is used, and named there
pub used_gate : (used : Name → Bool) (fs : List MasterTables) (m : Master) (t : MasterTables) (o : Option Name) → used m.name ≡ true → find_function m.name fs ≡ Some t → IsLeast (PinDiffers m t) o → IsLeast (Differs used fs m) o
used_gate used fs m t o u f =
    least_agree (PinDiffers m t) (Differs used fs m)
    (λ n d. record { in_use = u; tables = t; named = f; differs = d })
    (λ n d. subst (λ s. PinDiffers m s n) (same_Some (sym d.named ∙ f)) d.differs) o

-- ---- a list of masters

pub none_first : (used : Name → Bool) (fs : List MasterTables) → NoneDiffers used fs []
none_first used fs m pin h d = h

pub none_more : (used : Name → Bool) (fs : List MasterTables) (ms : List Master) (i : ℕ) (m : Master) → i < length ms → m ≡ get_or ms i m →
    NoneDiffers used fs (take i ms) → IsLeast (Differs used fs m) None → NoneDiffers used fs (take (i + 1) ms)
none_more used fs ms i m l e before none k pin h d =
    ⊎_elim
    (λ a. before k pin a d)
    (λ a. at k a d)
    (split_has (take i ms) (m ∷ []) k (subst (λ (xs : List Master). Has xs k) (take_more ms i m l ∙ ap (λ x. take i ms ++ x ∷ []) (sym e)) h))
  where
    at : (k : Master) → Has (m ∷ []) k → Differs used fs k pin → ⊥
    at k (inl s) d = none pin (subst (λ (x : Master). Differs used fs x pin) (sym s) d)
    at k (inr h) d = absurd h

pub first_is : (used : Name → Bool) (fs : List MasterTables) (ms : List Master) (i : ℕ) (m : Master) (pin : Name) → i < length ms → m ≡ get_or ms i m →
    NoneDiffers used fs (take i ms) → IsLeast (Differs used fs m) (Some pin) → IsFirstDiffering used fs ms m pin
first_is used fs ms i m pin l e before least =
    record {
      front = take i ms;
      back = drop (suc i) ms;
      stands = sym (take-append-drop i ms) ∙ ap (λ xs. take i ms ++ xs) (drop-cons ms i m l ∙ ap (λ x. x ∷ drop (suc i) ms) (sym e));
      before = before;
      least = least;
    }
