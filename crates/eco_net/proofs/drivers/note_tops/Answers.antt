use Rattle.std.proofs.Common.{◌∙◌, sym, ap, length, rules, arith}
use Rattle.eco_net.specs.declared.ids.PinRef.TheVariants.{Top}
use Rattle.eco_net.specs.ByNumber.{end_of, drives_end, tops_to}
use Rattle.eco_net.specs.Driving.{each_driving}
use Rattle.eco_net.proofs.Noted.{noted_length, noted, sink_passed}
use Rattle.eco_net.proofs.ByNets.{tops_more}
use Rattle.eco_net.proofs.drivers.note_tops.Goals as goal
use Rattle.eco_net.proofs.drivers.note_tops.Goals.{then-ne, else-ne}

pub bounds-driving-row : goal.bounds-driving-row
bounds-driving-row c = omega (arith, c.top-row.ensures.known, ap length c.loop-top.invariant, noted_length c.args.listed.now (tops_to c.loop-top.top))

pub loop-top-preserved : goal.loop-top-preserved
loop-top-preserved c =
    let L = c.args.listed.now in
    let p = Top (record { 0 = c.loop-top.top }) in
    let tops = tops_to c.loop-top.top in
    let more = ap (each_driving L) (sym (tops_more c.loop-top.top)) in
    elim c.if-ne.branch [
      | then-ne w ↦
          w.driving-is
          ∙ noted L tops p c.top-row.result.now.net (ap end_of c.top-row.ensures.at) (ap drives_end c.top-row.ensures.at ∙ search (rules, w.if-ne.true, c.ne.ensures)) c.loop-top.driving w.note.new.self _ c.loop-top.invariant c.top-row.ensures.known w.note.ensures
          ∙ more
      | else-ne w ↦ w.driving-is ∙ c.loop-top.invariant ∙ sink_passed L tops p (ap drives_end c.top-row.ensures.at ∙ search (rules, w.if-ne.false, c.ne.ensures)) ∙ more
    ]
