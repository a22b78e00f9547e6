-- What is found in a list, and where it is the first.
use Rattle.std.proofs.Common.{◌≡◌, Bool, true, false, cond, List, [], ◌∷◌, Some, None, refl, sym, ap, ◌∙◌, inl, inr, ⊎_elim}
use Rattle.std.specs.List.{find}
use Rattle.std.specs.Option.{option_or}
use Rattle.std.proofs.lemmas.Bool.{cases_Bool}
use Rattle.std.proofs.lemmas.List.Folds.{find-append}
use Rattle.eco_net.proofs.Basics.{Has, contains_from_has, not_None}
use Rattle.eco_elaborate.proofs.Members.{passes_found}
use Rattle.eco_pin_faults.specs.Places.{PinPlace}
use Rattle.eco_pin_faults.specs.Laws.{IsFirst}

-- nothing is found where nothing passes
pub none_found : {A : Type 0} (test : A → Bool) (xs : List A) → ((x : A) → Has xs x → test x ≡ false) → find test xs ≡ None
none_found test [] each = refl
none_found test (x ∷ xs) each = ap (λ b. cond b (Some x) (find test xs)) (each x (inl refl)) ∙ none_found test xs (λ y h. each y (inr h))

-- where nothing is found, nothing passes
pub none_passes : {A : Type 0} (test : A → Bool) (xs : List A) → find test xs ≡ None → (x : A) → Has xs x → test x ≡ false
none_passes test xs e x h = ⊎_elim (λ t. let f = passes_found test xs x h t in absurd (not_None (sym f.1 ∙ e))) (λ f. f) (cases_Bool (test x))

-- the first place at which a fact holds is found
pub first_found : (P : PinPlace → Type 0) (test : PinPlace → Bool) (ps : List PinPlace) (p : PinPlace) → ((q : PinPlace) → test q ≡ true → P q) → ((q : PinPlace) → P q → test q ≡ true) → IsFirst P ps p → find test ps ≡ Some p
first_found P test ps p to from f =
    ap (find test) f.stands
    ∙ find-append test f.before (p ∷ f.behind)
    ∙ ap (λ o. option_or o (find test (p ∷ f.behind))) (none_found test f.before (λ q h. fails q h))
    ∙ ap (λ b. cond b (Some p) (find test f.behind)) (from p f.holds)
  where
    fails : (q : PinPlace) → Has f.before q → test q ≡ false
    fails q h = ⊎_elim (λ t. absurd (f.none q (contains_from_has f.before q h) (to q t))) (λ e. e) (cases_Bool (test q))
