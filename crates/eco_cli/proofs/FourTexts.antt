-- The four texts of a base, taken out of a list one by one.
use Rattle.std.proofs.Common.{◌≡◌, ℕ, Vec, Global, List, [], ◌∷◌, ◌++◌, map, length, take, drop, slice_index_or, refl}
use Rattle.eco_cli.specs.ApplyCommand.{apply_options}
use Rattle.eco_cli.specs.BaseTexts.{AreBaseTexts}
use Rattle.eco_cli.specs.CheckCommand.{check_options}
use Rattle.eco_cli.specs.CommandLine.{inputs_in}
use Rattle.eco_cli.specs.Steps.{AreWithin}

-- the inputs of check, and those of apply, are such texts
pub checked_texts : (ws texts : List (List ℕ)) → AreWithin (inputs_in check_options ws) texts → AreBaseTexts texts
checked_texts ws [] within = within
checked_texts ws (a ∷ []) within = within.1
checked_texts ws (a ∷ b ∷ []) within = within.1.1
checked_texts ws (a ∷ b ∷ c ∷ []) within = within.1.1.1
checked_texts ws (a ∷ b ∷ c ∷ d ∷ []) within = (within.0, within.1.0)
checked_texts ws (a ∷ b ∷ c ∷ d ∷ x ∷ xs) within = within.1.1.1.1

pub applied_texts : (ws texts : List (List ℕ)) → AreWithin (inputs_in apply_options ws) texts → AreBaseTexts texts
applied_texts ws [] within = within
applied_texts ws (a ∷ []) within = within.1
applied_texts ws (a ∷ b ∷ []) within = within.1.1
applied_texts ws (a ∷ b ∷ c ∷ []) within = within.1.1.1
applied_texts ws (a ∷ b ∷ c ∷ d ∷ []) within = (within.0, within.1.0)
applied_texts ws (a ∷ b ∷ c ∷ d ∷ x ∷ xs) within = within.1.1.1.1

pub are_four : (ts : List (Vec ℕ Global)) → AreBaseTexts (map (λ v. v.items) ts) → length ts ≡ 4
are_four [] are = absurd are
are_four (a ∷ []) are = absurd are
are_four (a ∷ b ∷ []) are = absurd are
are_four (a ∷ b ∷ c ∷ []) are = absurd are
are_four (a ∷ b ∷ c ∷ d ∷ []) are = refl
are_four (a ∷ b ∷ c ∷ d ∷ x ∷ xs) are = absurd are

-- the first of a list is taken out three times
pub taken_out : (ts r s t : List (Vec ℕ Global)) (a b c d : Vec ℕ Global) → AreBaseTexts (map (λ v. v.items) ts) →
    a ≡ slice_index_or ts 0 a → r ≡ take 0 ts ++ drop 1 ts → b ≡ slice_index_or r 0 b → s ≡ take 0 r ++ drop 1 r → c ≡ slice_index_or s 0 c → t ≡ take 0 s ++ drop 1 s → d ≡ slice_index_or t 0 d →
    a.items ∷ b.items ∷ c.items ∷ d.items ∷ [] ≡ map (λ v. v.items) ts
taken_out [] r s t a b c d are first rest second more third last fourth = absurd are
taken_out (w ∷ []) r s t a b c d are first rest second more third last fourth = absurd are
taken_out (w ∷ x ∷ []) r s t a b c d are first rest second more third last fourth = absurd are
taken_out (w ∷ x ∷ y ∷ []) r s t a b c d are first rest second more third last fourth = absurd are
taken_out (w ∷ x ∷ y ∷ z ∷ []) r s t a b c d are first rest second more third last fourth =
    let b_is : b ≡ x = rw rest at second in
    let s_is : s ≡ y ∷ z ∷ [] = rw rest at more in
    let c_is : c ≡ y = rw s_is at third in
    let t_is : t ≡ z ∷ [] = rw s_is at last in
    let d_is : d ≡ z = rw t_is at fourth in
    rw (first, b_is, c_is, d_is) refl
taken_out (w ∷ x ∷ y ∷ z ∷ v ∷ vs) r s t a b c d are first rest second more third last fourth = absurd are
