use Rattle.std.proofs.Common.{rules}
use Rattle.std.proofs.lemmas.Fn.{always_returns_same}
use Rattle.eco_def.specs.Named.{NamedJoint}
use Rattle.eco_overlay.specs.PinMoves.{moved_pin, pin_cmp}
use Rattle.eco_overlay.proofs.Orders.{pin_exact}
use Rattle.eco_overlay.proofs.Places.{searchable, none_between}
use Rattle.eco_overlay.proofs.moves.place_of.Goals as goal

pub returns-in-Ok : goal.returns-in-Ok
returns-in-Ok c =
    let j : NamedJoint = record { comp = c.args.comp.now; pin = c.args.pin.now } in
    let same = c.in-Ok.ensures.position (λ m. pin_cmp (moved_pin m) j) (always_returns_same _ _ _ (λ a r q k. search rules)) in
    (c.in-Ok.ensures.bound, λ d. pin_exact _ j (same d))

pub returns-in-Err : goal.returns-in-Err
returns-in-Err c =
    let j : NamedJoint = record { comp = c.args.comp.now; pin = c.args.pin.now } in
    let split = c.in-Err.ensures.position (λ m. pin_cmp (moved_pin m) j) (always_returns_same _ _ _ (λ a r q k. search rules)) in
    none_between j c.args.moves.now c.in-Err.field-0 (split (searchable j c.args.moves.now c.requires))
