use Rattle.std.proofs.Common.{◌≡◌, map, take}
use Rattle.eco_text.specs.Cursor.{word_bytes}
use Rattle.eco_elaborate.proofs.found_pins.comp_names_of.Given as goal

abbrev pub invariant-loop-joint : goal.invariant-loop-joint
invariant-loop-joint l = map (λ n. n.now) l.names.items ≡ map (λ s. word_bytes l.text s.comp) (take l.joint-index l.joints)
