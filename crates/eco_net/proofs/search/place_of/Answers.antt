use Rattle.std.proofs.Common.{◌<◌, ◌∙◌, ap, Some, length}
use Rattle.std.proofs.lemmas.Option.{slice_get-get_or}
use Rattle.eco_net.proofs.SearchPaths.{dropped_within}
use Rattle.eco_net.proofs.search.place_of.Goals as goal

pub returns : goal.returns
returns c =
    let h : c.loop-place.place < length c.args.path.now = dropped_within c.args.path.now c.loop-place.place c.args.net c.loop-place.invariant in
    slice_get-get_or c.args.path.now c.loop-place.place 0 h ∙ ap Some c.loop-place-test.false
