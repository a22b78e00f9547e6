-- Moving one pin to another net.
use Rattle.std.specs.Prelude.{◌≡◌, ℕ, Bool, not, ◌&&◌, ◌||◌, List, [], ◌∷◌, ◌++◌, Option, Some, None, Result, Ok, Err, if◌then◌else◌}
use Rattle.std.specs.List.{list_any}
use Rattle.std.specs.Str.{bytes_eq}
use Rattle.eco_def.specs.Design.{Design}
use Rattle.eco_def.specs.Named.{NamedDesign, names_of}
use Rattle.eco_issued_laws.specs.Changes.{is_no_component, statements, stands, has_net}
use Rattle.eco_issued_laws.specs.Issued.{Edit, IsOverlayOf}
use Rattle.eco_overlay.specs.declared.fault.MoveFault.{MoveFault}
use Rattle.eco_overlay.specs.declared.fault.MoveFault.TheVariants.{Memory, UnknownComponent, NotOnNet, UnknownNet}

-- A component has the name. PIN and * name none.
abbrev pub has_comp : NamedDesign → List ℕ → Bool
has_comp d name = not (is_no_component name) && list_any (λ c. bytes_eq c.name name) d.comps

-- why a pin can't be moved: the first reason there is
abbrev pub move_fault : NamedDesign → List ℕ → List ℕ → List ℕ → List ℕ → Option MoveFault
move_fault d comp pin from to =
    if not (has_comp d comp) then Some UnknownComponent
    else if not (stands (statements d) (record { comp = comp; pin = pin; net = from })) then Some NotOnNet
    else if not (has_net d to) then Some UnknownNet
    else None

-- What a move answered: the overlay of the one pin on its net, or the first reason against it, unless memory ran out.
abbrev pub Moves : List ℕ → Design → List ℕ → List ℕ → List ℕ → List ℕ → Result (List Edit) MoveFault → Type 0
Moves text d comp pin from to (Ok overlay) = (move_fault (names_of d) comp pin from to ≡ None) × IsOverlayOf text d (record { comp = comp; pin = pin; net = to } ∷ []) [] overlay
Moves text d comp pin from to (Err Memory) = Unit {0}
Moves text d comp pin from to (Err UnknownComponent) = move_fault (names_of d) comp pin from to ≡ Some UnknownComponent
Moves text d comp pin from to (Err NotOnNet) = move_fault (names_of d) comp pin from to ≡ Some NotOnNet
Moves text d comp pin from to (Err UnknownNet) = move_fault (names_of d) comp pin from to ≡ Some UnknownNet
