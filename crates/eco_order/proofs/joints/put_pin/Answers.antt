use Rattle.std.proofs.Common.{Some, length, ap, ◌∙◌}
use Rattle.eco_net.proofs.Added.{joint_length}
use Rattle.eco_order.proofs.Putting.{on_ok}
use Rattle.eco_order.proofs.joints.put_pin.Goals as goal

pub returns-clause-comps : goal.returns-clause-comps
returns-clause-comps c =
    on_ok c.join.result (λ e. ap (λ m. length m.comps) e ∙ joint_length c.args.maker.now.comps c.in-Some-find_comp.comp.0 c.in-Some-find_pin.pin (Some c.in-Some.net.0)) c.join.ensures.ok
