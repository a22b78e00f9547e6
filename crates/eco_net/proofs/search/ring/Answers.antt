use Rattle.std.proofs.Common.{◌∙◌, ap, take, reverse}
use Rattle.std.proofs.lemmas.List.{take_rest}
use Rattle.eco_net.proofs.SearchPaths.{split_place}
use Rattle.eco_net.proofs.search.ring.Goals as goal

pub returns : goal.returns
returns c =
    let n = c.place_of-place.result in
    let w = split_place c.args.path.now n c.args.from c.place_of-place.ensures in
    (take n c.args.path.now, w.0, w.1, c.reverse.ensures.items ∙ ap reverse (c.in_ok-ring.ensures.items ∙ take_rest c.args.path.now n ∙ w.2))
