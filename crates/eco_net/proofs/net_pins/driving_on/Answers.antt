use Rattle.std.proofs.Common.{sym, subst, ◌∙◌, ap}
use Rattle.std.specs.List.{filter}
use Rattle.std.proofs.lemmas.Result.{IfOk-weaker}
use Rattle.eco_net.specs.ByNumber.{drives}
use Rattle.eco_net.specs.Pins.{AreKnownPins}
use Rattle.eco_net.proofs.DriverCounts.{all_known}
use Rattle.eco_net.proofs.net_pins.driving_on.Goals as goal

pub driving_among-requires : goal.driving_among-requires
driving_among-requires c = subst (AreKnownPins c.args.listed.now) (sym (c.deref.ensures.value ∙ c.in_ok-pins.ensures)) (all_known c.args.listed.now c.args.net)

pub returns : goal.returns
returns c = IfOk-weaker c.driving_among.result _ _ (λ found e. e ∙ ap (filter (drives c.args.listed.now)) (c.deref.ensures.value ∙ c.in_ok-pins.ensures)) c.driving_among.ensures
