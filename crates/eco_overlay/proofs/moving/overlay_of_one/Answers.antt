use Rattle.std.proofs.Common.{ap, sym, ◌∙◌, subst, map, ◌++◌, ◌∷◌, []}
use Rattle.eco_overlay.specs.PinMoves.{new_joint, ArePinsApart}
use Rattle.eco_overlay.proofs.Changing.{one_apart}
use Rattle.eco_overlay.proofs.moving.overlay_of_one.Goals as goal

pub overlay_of-requires-clause-apart : goal.overlay_of-requires-clause-apart
overlay_of-requires-clause-apart c =
    subst (λ ms. ArePinsApart (map new_joint ms)) (sym (c.in_ok-push.ensures.items ∙ ap (λ ms. ms ++ c.args.pin ∷ []) c.new-moves.ensures.items)) (one_apart c.args.pin)
