use Rattle.std.proofs.Common.{refl}
use Rattle.eco_cli.proofs.moving.plan_move.Goals as goal

pub move_joint-requires : goal.move_joint-requires
move_joint-requires c = rw (c.deref-2.ensures.value, ← c.deref.ensures.value) c.in-Ok.ensures

pub returns-in-Ok-move_joint : goal.returns-in-Ok-move_joint
returns-in-Ok-move_joint c =
    let read = rw c.deref.ensures.value at c.in-Ok.ensures in
    let moves = rw (c.deref-2.ensures.value, c.as_bytes-comp.ensures.value, c.as_bytes-pin.ensures.value, c.as_bytes-from.ensures.value, c.as_bytes-to.ensures.value) at c.in-Ok-move_joint.ensures.moves in
    let made = rw c.deref-2.ensures.value at c.in-Ok-move_joint.ensures.made in (
      (record { design = _; read = record { read = read.read; limits = read.limits }; may = moves.0; issued = moves.1.issued }, refl),
      (read, made),
    )
