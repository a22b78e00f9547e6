use Rattle.std.proofs.Common.{◌++◌, [], ◌∷◌, map, ap, sym, ◌∙◌, append_assoc, codes}
use Rattle.std.specs.List.{flat_map}
use Rattle.std.proofs.lemmas.List.Folds.{flat_map-map}
use Rattle.eco_def.specs.View.{joint_in, net_in}
use Rattle.eco_issued_laws.specs.Printing.{spaced}
use Rattle.eco_issued_laws.specs.Changes.{stays_on}
use Rattle.eco_issued_laws.specs.Issued.{kept_text, joint_words, tail_text}
use Rattle.eco_text.specs.Cursor.{word_bytes}
use Rattle.eco_overlay.specs.PinMoves.{new_joint, moved_pin}
use Rattle.eco_overlay.specs.NetChanges.{pins_for}
use Rattle.eco_overlay.proofs.Writing.{on_ok, put_four, spaced_pins}
use Rattle.eco_overlay.proofs.statement.put_statement.Goals as goal

pub returns : goal.returns
returns c =
    let text = c.args.text.now in
    let s = c.args.net.now in
    let ns = map new_joint c.args.changes.now.moves.items in
    let old = c.args.bytes.now.items in
    let name = word_bytes text s.name in
    let head = codes "-" ++ spaced (name ∷ []) in
    let joints = flat_map (kept_text text (stays_on ns name)) (net_in text s).joints in
    let pins = pins_for c.args.changes.now s.special name in
    let added = spaced (flat_map joint_words (map moved_pin pins)) in
    let tail = tail_text text s.special (net_in text s) in
    on_ok c.put_tail.result
    (λ last. put_four (old ++ head) joints added tail c.put.new.bytes.items c.put_joints.new.bytes.items c.put_added.new.bytes.items c.put_tail.new.bytes.items
    (rw c.bytes_at-name.ensures at c.in_ok-put.ensures)
    ((rw (c.bytes_at-name.ensures, c.deref.ensures.value) at c.in_ok-put_joints.ensures) ∙ ap (λ k. c.put.new.bytes.items ++ k) (sym (flat_map-map (kept_text text (stays_on ns name)) (joint_in text) s.joints)))
    ((rw c.bytes_at-name.ensures at c.in_ok-put_added.ensures) ∙ ap (λ k. c.put_joints.new.bytes.items ++ k) (spaced_pins pins)) last
    ∙ append_assoc old head (joints ++ (added ++ tail)))
    c.put_tail.ensures
