use Rattle.std.proofs.Common.{sym, ◌∙◌, false, []}
use Rattle.eco_overlay.specs.PinMoves.{names_in}
use Rattle.eco_overlay.specs.declared.pin_move.PinMove.{PinMove}
use Rattle.eco_overlay.proofs.Staying.{off_top, off_none, marks_off, marks_at, marks_elsewhere}
use Rattle.eco_overlay.proofs.standing.mark_joint.Goals as goal

pub returns-then-is_no_component : goal.returns-then-is_no_component
returns-then-is_no_component c =
    let j = names_in c.args.text.now c.args.joint in
    marks_off j c.args.net.now c.args.moves.now (off_top j c.args.moves.now (sym (rw c.bytes_at-comp.ensures at c.is_no_component.ensures) ∙ c.if-is_no_component.true))

pub returns-then-eq : goal.returns-then-eq
returns-then-eq c =
    let j = names_in c.args.text.now c.args.joint in
    let d : PinMove = record { comp = record { ref_ptr = (0, 0); now = [] }; pin = record { ref_ptr = (0, 0); now = [] }; net = record { ref_ptr = (0, 0); now = [] }; stands = false } in
    let at = rw (c.bytes_at-comp.ensures, c.bytes_at.ensures) at c.in-Some.ensures in
    marks_at j c.args.net.now c.args.moves.now c.requires (sym (rw c.bytes_at-comp.ensures at c.is_no_component.ensures) ∙ c.if-is_no_component.false) c.in-Some.place d at.0 (at.1 d) (sym c.eq.ensures ∙ c.if-eq.true)

pub returns-else-eq : goal.returns-else-eq
returns-else-eq c =
    let j = names_in c.args.text.now c.args.joint in
    let d : PinMove = record { comp = record { ref_ptr = (0, 0); now = [] }; pin = record { ref_ptr = (0, 0); now = [] }; net = record { ref_ptr = (0, 0); now = [] }; stands = false } in
    let at = rw (c.bytes_at-comp.ensures, c.bytes_at.ensures) at c.in-Some.ensures in
    marks_elsewhere j c.args.net.now c.args.moves.now c.requires c.in-Some.place d at.0 (at.1 d) (sym c.eq.ensures ∙ c.if-eq.false)

pub returns-in_default : goal.returns-in_default
returns-in_default c =
    let j = names_in c.args.text.now c.args.joint in
    marks_off j c.args.net.now c.args.moves.now (off_none j c.args.moves.now (rw (c.bytes_at-comp.ensures, c.bytes_at.ensures) at c.in_default.ensures))
