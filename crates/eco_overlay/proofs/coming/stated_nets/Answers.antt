use Rattle.eco_common.specs.KnownNames.{knows}
use Rattle.eco_overlay.proofs.NetPins.{stated_more}
use Rattle.eco_overlay.proofs.coming.stated_nets.Goals as goal

pub loop-net-preserved : goal.loop-net-preserved
loop-net-preserved c q gets =
    stated_more c.args.text.now c.args.either q c.args.nets.now c.loop-net.net-index c.net-item.result _ (knows c.loop-net.names q) c.loop-net-test.true c.net-item.is (c.loop-net.invariant q gets) (c.in_ok-add_stated.ensures q gets)
