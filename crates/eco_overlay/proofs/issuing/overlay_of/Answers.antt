use Rattle.std.proofs.Common.{map, Bor, ℕ, List}
use Rattle.eco_overlay.specs.PinMoves.{new_joint}
use Rattle.eco_overlay.specs.NetChanges.{changes_in}
use Rattle.eco_overlay.proofs.Writing.{if_ok}
use Rattle.eco_overlay.proofs.IssuedTexts.{overlay_is}
use Rattle.eco_overlay.proofs.issuing.overlay_of.Goals as goal

pub returns : goal.returns
returns c =
    if_ok c.overlay_of_changes.result
    (λ overlay is. overlay_is c.args.text.now c.args.design.now (map new_joint c.args.moves.items) (map (λ (n : Bor (List ℕ)). n.now) c.args.fresh.items) (changes_in c.in_ok-changes.changes) overlay
    c.requires.reading.lies c.in_ok-changes.ensures.changes is)
    c.overlay_of_changes.ensures
