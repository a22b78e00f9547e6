use Rattle.std.proofs.Common.{◌∙◌, ap, arith}
use Rattle.std.specs.List.{sum_by}
use Rattle.std.proofs.lemmas.List.{take_all}
use Rattle.eco_net.proofs.JoinedNames.{joined_count, count_more, row_small, joined_rows}
use Rattle.eco_net.proofs.maker.NetlistMaker.joined_pins.Goals as goal

pub loop-comp-preserved : goal.loop-comp-preserved
loop-comp-preserved c =
    let row = c.comp.result.now in
    let more = count_more c.args.self.now.comps c.loop-comp.comp row c.comp.ensures.at in
    let small = row_small _ row c.comp.ensures.row in
    record {
      counted = omega (arith, more, c.loop-comp.invariant.counted, c.joined.ensures);
      fits = omega (arith, small, c.loop-comp.invariant.fits, c.joined.ensures);
    }

pub returns : goal.returns
returns c =
    c.loop-comp.invariant.counted
    ∙ ap (sum_by joined_count) (take_all c.loop-comp.comp c.args.self.now.comps (omega (arith, c.loop-comp-test.false, c.counts-comp-end.ensures.comps)))
    ∙ joined_rows c.args.self.now c.counts-comp-end.ensures.listing
