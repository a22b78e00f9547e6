use Rattle.eco_overlay.specs.NetChanges.{changes_in}
use Rattle.eco_overlay.proofs.Lean.{changed_more}
use Rattle.eco_overlay.proofs.issuing.add_statements.Goals as goal

pub loop-net-preserved : goal.loop-net-preserved
loop-net-preserved c =
    changed_more c.args.text.now (changes_in c.args.changes.now) c.args.special c.args.nets.now c.loop-net.net-index c.net-item.result c.args.overlay.now c.loop-net.overlay c.add_of_section.new.overlay
    c.loop-net-test.true c.net-item.is c.loop-net.invariant c.in_ok-add_of_section.ensures
