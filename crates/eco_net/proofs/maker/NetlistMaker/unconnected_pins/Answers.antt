use Rattle.std.proofs.Common.{◌∙◌, ap, arith, is_some}
use Rattle.std.specs.List.{sum_by}
use Rattle.std.proofs.lemmas.List.{take_all}
use Rattle.std.proofs.lemmas.List.Sums.{count_by-le-length}
use Rattle.eco_net.proofs.JoinedNames.{off_count, off_more, off_small, off_rows}
use Rattle.eco_net.proofs.maker.NetlistMaker.unconnected_pins.Goals as goal

pub overflow_sub-count : goal.overflow_sub-count
overflow_sub-count c = omega (arith, count_by-le-length is_some c.comp.result.now.joined, c.len.ensures, c.joined.ensures)

pub loop-comp-preserved : goal.loop-comp-preserved
loop-comp-preserved c =
    let row = c.comp.result.now in
    let more = off_more c.args.self.now.comps c.loop-comp.comp row c.comp.ensures.at in
    let small = off_small _ row c.comp.ensures.row in
    record {
      counted = omega (arith, more, c.loop-comp.invariant.counted, c.joined.ensures, c.len.ensures);
      fits = omega (arith, small, c.loop-comp.invariant.fits, c.joined.ensures, c.len.ensures);
    }

pub returns : goal.returns
returns c =
    c.loop-comp.invariant.counted
    ∙ ap (sum_by off_count) (take_all c.loop-comp.comp c.args.self.now.comps (omega (arith, c.loop-comp-test.false, c.counts-comp-end.ensures.comps)))
    ∙ off_rows c.args.self.now c.counts-comp-end.ensures.listing
