use Rattle.std.proofs.Common.{ap, sym, ◌∙◌, true, map}
use Rattle.std.proofs.lemmas.List.{take_all}
use Rattle.eco_def.specs.View.{net_in}
use Rattle.eco_overlay.specs.NetChanges.{of_kind, is_before_first}
use Rattle.eco_overlay.proofs.Lean.{first_special, none_special}
use Rattle.eco_overlay.proofs.issuing.is_before_special.Goals as goal

pub returns-then-net : goal.returns-then-net
returns-then-net c text = sym (ap (λ ss. is_before_first c.args.place (map (net_in text) ss)) (first_special c.args.nets.now c.loop-net.net-index c.net-item.result c.loop-net-test.true c.net-item.is c.if-net.true c.loop-net.invariant))

pub returns : goal.returns
returns c text = sym (ap (λ ss. is_before_first c.args.place (map (net_in text) ss)) (sym (ap (of_kind true) (take_all c.loop-net.net-index c.args.nets.now c.loop-net-test.false)) ∙ c.loop-net.invariant))

pub loop-net-preserved : goal.loop-net-preserved
loop-net-preserved c = none_special c.args.nets.now c.loop-net.net-index c.net-item.result c.loop-net-test.true c.net-item.is c.if-net.false c.loop-net.invariant
