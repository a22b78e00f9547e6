use Rattle.std.proofs.Common.{◌≡◌, ℕ, List, take}
use Rattle.eco_text.specs.Cursor.{word_bytes}
use Rattle.eco_pin_faults.specs.Held.{model_by}
use Rattle.eco_pin_faults.specs.Pins.{of_named}
use Rattle.eco_pin_faults.proofs.design_pins.models_of.Given as goal

-- the components so far
abbrev pub invariant-loop-comp : goal.invariant-loop-comp
invariant-loop-comp l = (n : List ℕ) → model_by l.models n ≡ of_named (λ c. word_bytes l.text c.name) (λ c. word_bytes l.text c.model) (take l.comp-index l.comps) n
