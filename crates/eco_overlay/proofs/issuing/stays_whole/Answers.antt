use Rattle.std.proofs.Common.{◌≡◌, true, map, sym, ◌∙◌}
use Rattle.std.specs.List.{list_all}
use Rattle.std.proofs.lemmas.List.Folds.{list_all-map}
use Rattle.eco_def.specs.View.{joint_in}
use Rattle.eco_def.specs.Named.{joint_names}
use Rattle.eco_issued_laws.specs.Changes.{is_nil, stays_on}
use Rattle.eco_text.specs.Cursor.{word_bytes}
use Rattle.eco_overlay.specs.PinMoves.{new_joint, moved_pin}
use Rattle.eco_overlay.specs.NetChanges.{pins_for}
use Rattle.eco_overlay.proofs.Lean.{nil_map, nothing_comes, and_on}
use Rattle.eco_overlay.proofs.issuing.stays_whole.Goals as goal

pub returns-then-not-statement_gets_pins : goal.returns-then-not-statement_gets_pins
returns-then-not-statement_gets_pins c =
    let text = c.args.text.now in
    let s = c.args.net.now in
    let name = word_bytes text s.name in
    let ns = map new_joint c.args.changes.now.moves.items in
    let pins = pins_for c.args.changes.now s.special name in
    let none : is_nil (map moved_pin pins) ≡ true = nil_map moved_pin pins ∙ nothing_comes (is_nil pins) c.statement_gets_pins.result (rw c.bytes_at-name.ensures at c.statement_gets_pins.ensures) c.if-not-statement_gets_pins.true in
    and_on c.all_stay.result (list_all (λ j. stays_on ns name (joint_names j)) (map (joint_in text) s.joints)) (is_nil (map moved_pin pins))
    ((rw (c.bytes_at-name.ensures, c.deref.ensures.value) at c.all_stay.ensures) ∙ sym (list_all-map (λ j. stays_on ns name (joint_names j)) (joint_in text) s.joints)) none
