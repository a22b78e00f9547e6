-- The statements of a design by their sections.
use Rattle.std.specs.List.{filter}
use Rattle.std.proofs.Common.{◌≡◌, Bool, true, false, not, List, [], ◌∷◌, ◌++◌, refl, ap, ◌∙◌, append-nil, if◌then◌else◌}
use Rattle.std.proofs.lemmas.List.Elements.{filter-append}
use Rattle.eco_def.specs.declared.design.NetStatement.{NetStatement}
use Rattle.eco_def.specs.Sections.{AreSpecial, AreOrdinary, both}

pub all_special : (ss : List NetStatement) → AreSpecial ss → filter (λ s. s.special) ss ≡ ss
all_special [] o = refl
all_special (s ∷ ss) o = ap (λ b. if b then s ∷ filter (λ t. t.special) ss else filter (λ t. t.special) ss) o.0 ∙ ap (λ k. s ∷ k) (all_special ss o.1)

pub ordinary_all : (ss : List NetStatement) → AreOrdinary ss → filter (λ s. not s.special) ss ≡ ss
ordinary_all [] o = refl
ordinary_all (s ∷ ss) o = ap (λ b. if not b then s ∷ filter (λ t. not t.special) ss else filter (λ t. not t.special) ss) o.0 ∙ ap (λ k. s ∷ k) (ordinary_all ss o.1)

pub special_none : (ss : List NetStatement) → AreOrdinary ss → filter (λ s. s.special) ss ≡ []
special_none [] o = refl
special_none (s ∷ ss) o = ap (λ b. if b then s ∷ filter (λ t. t.special) ss else filter (λ t. t.special) ss) o.0 ∙ special_none ss o.1

pub ordinary_none : (ss : List NetStatement) → AreSpecial ss → filter (λ s. not s.special) ss ≡ []
ordinary_none [] o = refl
ordinary_none (s ∷ ss) o = ap (λ b. if not b then s ∷ filter (λ t. not t.special) ss else filter (λ t. not t.special) ss) o.0 ∙ ordinary_none ss o.1

pub special_of_both : (first : Bool) (special nets : List NetStatement) → AreSpecial special → AreOrdinary nets → filter (λ s. s.special) (both first special nets) ≡ special
special_of_both true special nets a b = filter-append (λ s. s.special) special nets ∙ ap (λ k. k ++ filter (λ s. s.special) nets) (all_special special a) ∙ ap (λ k. special ++ k) (special_none nets b) ∙ append-nil special
special_of_both false special nets a b = filter-append (λ s. s.special) nets special ∙ ap (λ k. k ++ filter (λ s. s.special) special) (special_none nets b) ∙ all_special special a

pub ordinary_of_both : (first : Bool) (special nets : List NetStatement) → AreSpecial special → AreOrdinary nets → filter (λ s. not s.special) (both first special nets) ≡ nets
ordinary_of_both true special nets a b = filter-append (λ s. not s.special) special nets ∙ ap (λ k. k ++ filter (λ s. not s.special) nets) (ordinary_none special a) ∙ ordinary_all nets b
ordinary_of_both false special nets a b = filter-append (λ s. not s.special) nets special ∙ ap (λ k. k ++ filter (λ s. not s.special) special) (ordinary_all nets b) ∙ ap (λ k. nets ++ k) (ordinary_none special a) ∙ append-nil nets
