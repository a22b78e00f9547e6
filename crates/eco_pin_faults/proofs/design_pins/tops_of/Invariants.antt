use Rattle.std.proofs.Common.{◌≡◌, ℕ, List, take}
use Rattle.std.specs.List.{find}
use Rattle.std.specs.Str.{bytes_eq}
use Rattle.eco_text.specs.Cursor.{word_bytes}
use Rattle.eco_pin_faults.specs.Held.{at_name}
use Rattle.eco_pin_faults.proofs.design_pins.tops_of.Given as goal

-- the top pins so far
abbrev pub invariant-loop-pin : goal.invariant-loop-pin
invariant-loop-pin l = (n : List ℕ) → at_name l.tops n ≡ find (λ p. bytes_eq (word_bytes l.text p.name) n) (take l.pin-index l.pins)
