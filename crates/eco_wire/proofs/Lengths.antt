-- The Content-Length lines, one after another.
use Rattle.std.proofs.Common.{◌≡◌, ℕ, List, [], ◌∷◌, Option, refl}
use Rattle.std.specs.Prelude.{Some, None}
use Rattle.eco_wire.specs.Lines.{stated_by, content_length_of}
use Rattle.eco_wire.specs.Numbers.{number_of_digits}
use Rattle.eco_wire.specs.declared.fields.ContentLength.{ContentLength}
use Rattle.eco_wire.specs.declared.fields.ContentLength.TheVariants.{Missing, Bytes, Unreadable}

-- what the values say after others that said this much
abbrev pub stated_with : ContentLength → List (List ℕ) → ContentLength
stated_with Missing values = content_length_of values
stated_with (Bytes n) [] = Bytes n
stated_with (Bytes n) (_ ∷ _) = Unreadable
stated_with Unreadable values = Unreadable

pub stated_first : (text : List ℕ) (values : List (List ℕ))
    → content_length_of (text ∷ values) ≡ stated_with (stated_by (number_of_digits text)) values
stated_first text values = by_number (number_of_digits text) values
  where
    first : Option ℕ → List (List ℕ) → ContentLength
    first number [] = stated_by number
    first number (_ ∷ _) = Unreadable

    by_number : (number : Option ℕ) (values : List (List ℕ)) → first number values ≡ stated_with (stated_by number) values
    by_number (Some n) [] = refl
    by_number (Some n) (v ∷ vs) = refl
    by_number None [] = refl
    by_number None (v ∷ vs) = refl
