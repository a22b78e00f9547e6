-- The first statement that gives its net another value as a supply than an earlier one.
use Rattle.std.proofs.Common.{◌≡◌, ℕ, Bool, true, false, cond, not, ◌&&◌, List, [], ◌∷◌, Option, Some, None, refl, sym, subst, true≢false}
use Rattle.std.specs.List.{list_all, find}
use Rattle.std.specs.Option.{option_map}
use Rattle.eco_def.specs.declared.design.Design.{Design}
use Rattle.eco_def.specs.Named.{NamedNet, NamedDesign, names_of}
use Rattle.eco_def.specs.View.{design_in}
use Rattle.eco_net.specs.Netlist.{Name}
use Rattle.eco_net.proofs.Basics.{same_Some, not_None}
use Rattle.eco_elaborate.specs.Netlists.{Kinds}
use Rattle.eco_elaborate.specs.Described.{IsSupply}
use Rattle.eco_elaborate.specs.Stated.{named_nets, supply_among}
use Rattle.eco_elaborate.specs.Stages.{keeps_value}
use Rattle.eco_elaborate.specs.Building.{HasTwoValues, first_two_valued}
use Rattle.eco_elaborate.specs.Laws.{TwoValuedIs}
use Rattle.eco_elaborate.proofs.Members.{found_passes}
use Rattle.eco_elaborate.proofs.Stating.{to_text, from_text}
use Rattle.eco_elaborate.proofs.Assembling.{one_value, both_values}

none_differs : {A : Type 0} (test : A → Bool) (xs : List A) → find (λ x. not (test x)) xs ≡ None → list_all test xs ≡ true
none_differs test [] e = refl
none_differs test (x ∷ xs) e = go (test x) (λ f. none_differs test xs f) e
  where
    go : (b : Bool) → (find (λ x. not (test x)) xs ≡ None → list_all test xs ≡ true) → cond (not b) (Some x) (find (λ x. not (test x)) xs) ≡ None → (b && list_all test xs) ≡ true
    go true rest f = rest f
    go false rest f = absurd (not_None f)

flip : (b : Bool) → not b ≡ true → b ≡ false
flip true e = sym e
flip false e = refl

module _ (text : List ℕ) (d : Design) where
  abbrev D : NamedDesign
  D = names_of (design_in text d)

  abbrev ss : List NamedNet
  ss = named_nets text d.nets

  -- no macro
  abbrev no_kinds : Kinds
  no_kinds = record { kind = λ n. None; size = λ n. record { width = 0; height = 0 } }

  abbrev keeps : NamedNet → Bool
  keeps = keeps_value (supply_among ss)

  both : (s : NamedNet) → find (λ s. not (keeps s)) ss ≡ Some s → IsSupply D s.name true × IsSupply D s.name false
  both s e =
      let r = found_passes (λ s. not (keeps s)) ss s e in
      both_values no_kinds (λ n p. false) D ss (to_text text d) (from_text text d) s r.0 (flip (keeps s) r.1)

  one_each : first_two_valued ss ≡ None → HasTwoValues D → ⊥
  one_each e h = true≢false (one_value no_kinds (λ n p. false) D ss (to_text text d) (from_text text d) (none_differs keeps ss (go (find (λ s. not (keeps s)) ss) e)) h.0 true false h.1 h.2)
    where
      go : (o : Option NamedNet) → option_map (λ s. s.name) o ≡ None → o ≡ None
      go None f = refl
      go (Some s) f = absurd (not_None f)

  none_of_two : (HasTwoValues D → ⊥) → first_two_valued ss ≡ None
  none_of_two none = go (find (λ s. not (keeps s)) ss) refl
    where
      go : (o : Option NamedNet) → find (λ s. not (keeps s)) ss ≡ o → option_map (λ s. s.name) o ≡ None
      go None e = refl
      go (Some s) e = let b = both s e in absurd (none (s.name, b.0, b.1))

  named : (n : Name) → first_two_valued ss ≡ Some n → IsSupply D n true × IsSupply D n false
  named n e = go (find (λ s. not (keeps s)) ss) refl e
    where
      go : (o : Option NamedNet) → find (λ s. not (keeps s)) ss ≡ o → option_map (λ s. s.name) o ≡ Some n → IsSupply D n true × IsSupply D n false
      go None f g = absurd (not_None (sym g))
      go (Some s) f g = subst (λ m. IsSupply D m true × IsSupply D m false) (same_Some g) (both s f)

pub two_valued_is : TwoValuedIs
two_valued_is text d = ((one_each text d, none_of_two text d), named text d)
