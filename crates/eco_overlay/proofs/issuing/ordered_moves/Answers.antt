use Rattle.std.proofs.Common.{◌≡◌, ap, ◌∙◌, length, map}
use Rattle.std.proofs.lemmas.List.{length-map}
use Rattle.eco_overlay.specs.PinMoves.{marked_in}
use Rattle.eco_overlay.proofs.Changing.{all_new}
use Rattle.eco_overlay.proofs.issuing.ordered_moves.Goals as goal

pub returns : goal.returns
returns c =
    let sorted = c.put_in_order.new.moves in
    let marks : c.mark_standing.new.moves ≡ map (marked_in c.args.text.now c.args.nets.now) sorted.items = c.mark_standing.ensures ∙ ap (map (marked_in c.args.text.now c.args.nets.now)) c.deref_mut.ensures.value in
    let long : length c.mark_standing.new.moves ≡ length sorted.items = ap length marks ∙ length-map sorted.items (marked_in c.args.text.now c.args.nets.now) in
    record {
      sorted = sorted.items;
      moved = c.put_in_order.ensures.permutation;
      order = c.put_in_order.ensures.order;
      marks = all_new sorted.len sorted.items c.mark_standing.new.moves sorted.ok.0 long ∙ marks;
    }
