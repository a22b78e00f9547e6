-- What statements say together, with one more.
use Rattle.std.specs.Option.{option_or}
use Rattle.eco_common.specs.declared.geometry.Dir.{Dir}
use Rattle.std.proofs.Common.{◌≡◌, Bool, List, [], ◌∷◌, ◌++◌, map, Option, Some, None, refl, ap, ◌∙◌}
use Rattle.eco_common.specs.declared.geometry.Size.{Size}
use Rattle.eco_lef.specs.declared.master.MasterPin.{MasterPin}
use Rattle.eco_lef.specs.declared.pin_statements.PinBody.{PinBody}
use Rattle.eco_lef.specs.declared.macro_statements.MacroBody.{MacroBody}
use Rattle.eco_lef.specs.declared.statement.PinStatement.{PinStatement}
use Rattle.eco_lef.specs.declared.statement.PinStatement.TheVariants.{Directed, Used, Other as OtherInPin}
use Rattle.eco_lef.specs.declared.statement.MacroStatement.{MacroStatement}
use Rattle.eco_lef.specs.declared.statement.MacroStatement.TheVariants.{Sized, Pinned, Other as OtherInMacro}
use Rattle.eco_lef.specs.declared.statement.LibraryStatement.{LibraryStatement}
use Rattle.eco_lef.specs.declared.statement.LibraryStatement.TheVariants.{Defined, Other as OtherInLibrary}
use Rattle.eco_common.specs.Options.{first_some}
use Rattle.eco_lef.specs.Grammar.{dir_said, supply_said, pin_said, size_said, pins_of, macro_said, masters_of}
use Rattle.eco_lef.specs.Collected.{also_in_pin, also_in_macro}
use Rattle.eco_lef.proofs.Naming.{map_push, or_none}

first_some-push : {A : Type 0} (xs : List (Option A)) (o : Option A) → first_some (xs ++ o ∷ []) ≡ option_or (first_some xs) o
first_some-push [] None = refl
first_some-push [] (Some x) = refl
first_some-push (None ∷ xs) o = first_some-push xs o
first_some-push (Some x ∷ xs) o = refl

first_more : {A B : Type 0} (f : A → Option B) (ss : List A) (s : A) → first_some (map f (ss ++ s ∷ [])) ≡ option_or (first_some (map f ss)) (f s)
first_more f ss s = ap first_some (map_push f ss s) ∙ first_some-push (map f ss) (f s)

abbrev pin_record : Option Dir → Option Bool → PinBody
pin_record dir supply = record { dir = dir; supply = supply }

in_pin : (ss : List PinStatement) (s : PinStatement) → pin_record (option_or (pin_said ss).dir (dir_said s)) (option_or (pin_said ss).supply (supply_said s)) ≡ also_in_pin (pin_said ss) s
in_pin ss (Directed d) = ap (pin_record (option_or (pin_said ss).dir (Some d))) (or_none (pin_said ss).supply)
in_pin ss (Used u) = ap (λ o. pin_record o (option_or (pin_said ss).supply (Some u))) (or_none (pin_said ss).dir)
in_pin ss OtherInPin = ap (λ o. pin_record o (option_or (pin_said ss).supply None)) (or_none (pin_said ss).dir) ∙ ap (pin_record (pin_said ss).dir) (or_none (pin_said ss).supply)

pub pin_more : (ss : List PinStatement) (s : PinStatement) → pin_said (ss ++ s ∷ []) ≡ also_in_pin (pin_said ss) s
pin_more ss s =
    ap (λ o. pin_record o (first_some (map supply_said (ss ++ s ∷ [])))) (first_more dir_said ss s)
    ∙ ap (pin_record (option_or (pin_said ss).dir (dir_said s))) (first_more supply_said ss s) ∙ in_pin ss s

pub pins_more : (ss : List MacroStatement) (s : MacroStatement) → pins_of (ss ++ s ∷ []) ≡ pins_of ss ++ pins_of (s ∷ [])
pins_more [] s = refl
pins_more (Sized z ∷ ss) s = pins_more ss s
pins_more (Pinned p ∷ ss) s = ap (λ k. p ∷ k) (pins_more ss s)
pins_more (OtherInMacro ∷ ss) s = pins_more ss s

none_more : {A : Type 0} (xs : List A) → xs ++ [] ≡ xs
none_more [] = refl
none_more (x ∷ xs) = ap (λ k. x ∷ k) (none_more xs)

abbrev macro_record : Option Size → List MasterPin → MacroBody
macro_record size pins = record { size = size; pins = pins }

in_macro : (ss : List MacroStatement) (s : MacroStatement) → macro_record (option_or (macro_said ss).size (size_said s)) (pins_of ss ++ pins_of (s ∷ [])) ≡ also_in_macro (macro_said ss) s
in_macro ss (Sized z) = ap (macro_record (option_or (macro_said ss).size (Some z))) (none_more (pins_of ss))
in_macro ss (Pinned p) = ap (λ o. macro_record o (pins_of ss ++ p ∷ [])) (or_none (macro_said ss).size)
in_macro ss OtherInMacro = ap (λ o. macro_record o (pins_of ss ++ [])) (or_none (macro_said ss).size) ∙ ap (macro_record (macro_said ss).size) (none_more (pins_of ss))

pub macro_more : (ss : List MacroStatement) (s : MacroStatement) → macro_said (ss ++ s ∷ []) ≡ also_in_macro (macro_said ss) s
macro_more ss s =
    ap (λ o. macro_record o (pins_of (ss ++ s ∷ []))) (first_more size_said ss s)
    ∙ ap (macro_record (option_or (macro_said ss).size (size_said s))) (pins_more ss s) ∙ in_macro ss s

pub masters_more : (ss : List LibraryStatement) (s : LibraryStatement) → masters_of (ss ++ s ∷ []) ≡ masters_of ss ++ masters_of (s ∷ [])
masters_more [] s = refl
masters_more (Defined m ∷ ss) s = ap (λ k. m ∷ k) (masters_more ss s)
masters_more (OtherInLibrary ∷ ss) s = masters_more ss s

pub same_masters : (ss : List LibraryStatement) → masters_of (ss ++ OtherInLibrary ∷ []) ≡ masters_of ss
same_masters ss = masters_more ss OtherInLibrary ∙ none_more (masters_of ss)
