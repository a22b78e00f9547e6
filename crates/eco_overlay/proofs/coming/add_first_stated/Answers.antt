use Rattle.std.proofs.Common.{◌≡◌, ◌++◌, [], ◌∷◌, ap, sym, ◌∙◌, map, false, get_or, Bor, ℕ, List, if◌then◌else◌, append-nil}
use Rattle.std.proofs.lemmas.List.{map-append}
use Rattle.eco_common.specs.declared.geometry.Dir.TheVariants as Dir
use Rattle.eco_text.specs.Cursor.{word_bytes}
use Rattle.eco_common.specs.KnownNames.{knows}
use Rattle.eco_text.specs.declared.word.Word.{Word}
use Rattle.eco_def.specs.declared.design.TopPin.{TopPin}
use Rattle.eco_overlay.proofs.NetPins.{top_more}
use Rattle.eco_overlay.proofs.coming.add_first_stated.Goals.{then-branch+in_ok-push, else-branch}
use Rattle.eco_overlay.proofs.coming.add_first_stated.Goals as goal

pub loop-pin-preserved : goal.loop-pin-preserved
loop-pin-preserved c =
    let w : Word = record { start = 0; end = 0; quoted = false } in
    let d : TopPin = record { name = w; net = w; dir = Dir.Input; supply = false } in
    let text = c.args.text.now in
    let m = word_bytes text (get_or c.args.pins.now c.loop-pin.pin-index d).net in
    let names = map (λ (n : Bor (List ℕ)). n.now) in
    let b = c.in_ok-is_first.field-0 in
    let i = c.loop-pin.invariant in
    let after : names c.if-branch.fresh.items ≡ names c.loop-pin.fresh.items ++ (if b then m ∷ [] else []) =
    elim c.if-branch.branch [
      | then-branch+in_ok-push w ↦ ap (λ v. names v.items) w.fresh-is ∙ ap names w.in_ok-push.ensures.items ∙ map-append (λ (n : Bor (List ℕ)). n.now) c.loop-pin.fresh.items (c.bytes_at-net.result ∷ []) ∙ ap (λ n. names c.loop-pin.fresh.items ++ n ∷ []) c.bytes_at-net.ensures ∙ ap (λ t. names c.loop-pin.fresh.items ++ (if t then m ∷ [] else [])) (sym w.if-branch.true)
      | else-branch w ↦ ap (λ v. names v.items) w.fresh-is ∙ sym (append-nil (names c.loop-pin.fresh.items)) ∙ ap (λ t. names c.loop-pin.fresh.items ++ (if t then m ∷ [] else [])) (sym w.if-branch.false)
    ] in
    top_more text c.args.added.now c.args.nets.now c.args.pins.now c.loop-pin.pin-index d (knows c.loop-pin.stated) (knows c.is_first.new.names) (names c.args.fresh.now.items) (names c.loop-pin.fresh.items) (names c.if-branch.fresh.items) b c.loop-pin-test.true
    i.0 i.1 (rw c.bytes_at-net.ensures at c.in_ok-is_first.ensures.first) (rw c.bytes_at-net.ensures at c.in_ok-is_first.ensures.names) after
