-- What the statements of a block have said so far, and one more.
use Rattle.std.specs.Prelude.{ℕ, List, [], ◌∷◌, ◌++◌, Option, Some}
use Rattle.std.specs.Option.{option_or}
use Rattle.std.specs.List.{find}
use Rattle.std.specs.Str.{bytes_eq}
use Rattle.eco_lef.specs.declared.master.Master.{Master}
use Rattle.eco_lef.specs.declared.pin_statements.PinBody.{PinBody}
use Rattle.eco_lef.specs.declared.macro_statements.MacroBody.{MacroBody}
use Rattle.eco_lef.specs.declared.statement.PinStatement.{PinStatement}
use Rattle.eco_lef.specs.declared.statement.PinStatement.TheVariants.{Directed, Used, Other as OtherInPin}
use Rattle.eco_lef.specs.declared.statement.MacroStatement.{MacroStatement}
use Rattle.eco_lef.specs.declared.statement.MacroStatement.TheVariants.{Sized, Pinned, Other as OtherInMacro}

abbrev pub also_in_pin : PinBody → PinStatement → PinBody
also_in_pin body (Directed d) = record { dir = option_or body.dir (Some d); supply = body.supply }
also_in_pin body (Used b) = record { dir = body.dir; supply = option_or body.supply (Some b) }
also_in_pin body OtherInPin = body

abbrev pub also_in_macro : MacroBody → MacroStatement → MacroBody
also_in_macro body (Sized s) = record { size = option_or body.size (Some s); pins = body.pins }
also_in_macro body (Pinned p) = record { size = body.size; pins = body.pins ++ p ∷ [] }
also_in_macro body OtherInMacro = body

-- the master of a name
abbrev pub find_master : List ℕ → List Master → Option Master
find_master name masters = find (λ m. bytes_eq m.name name) masters
