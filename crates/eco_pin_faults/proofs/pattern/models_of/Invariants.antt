use Rattle.std.proofs.Common.{◌≡◌, Bool, map, take}
use Rattle.std.specs.List.{list_any}
use Rattle.eco_net.specs.Netlist.{Name}
use Rattle.eco_text.specs.Cursor.{word_bytes}
use Rattle.eco_pin_faults.specs.Patterns.{AreSeen}
use Rattle.eco_pin_faults.proofs.pattern.models_of.Given as goal

-- the models of the components so far
abbrev pub invariant-loop-comp : goal.invariant-loop-comp
invariant-loop-comp l = record {
  seen : AreSeen l.seen (map (λ m. m.now) l.models.items);
  models : (test : Name → Bool) → list_any (λ m. test m.now) l.models.items ≡ list_any (λ c. test (word_bytes l.text c.model)) (take l.comp-index l.comps);
}
