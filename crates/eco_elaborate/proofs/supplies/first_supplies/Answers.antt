use Rattle.std.proofs.Common.{[], ◌∷◌, sym, ap, ◌∙◌}
use Rattle.std.specs.Option.{option_or}
use Rattle.eco_elaborate.specs.Stated.{named_net, supply_among}
use Rattle.eco_elaborate.proofs.Valued.{value_by_more}
use Rattle.eco_elaborate.proofs.supplies.first_supplies.Goals as goal

pub loop-net-preserved : goal.loop-net-preserved
loop-net-preserved c n =
    c.in_ok-add_stated.ensures n
    ∙ ap (λ o. option_or o (supply_among (named_net c.args.text.now c.net-item.result ∷ []) n)) (c.loop-net.invariant n)
    ∙ sym (value_by_more c.args.text.now c.args.nets.now c.loop-net.net-index c.net-item.result n c.loop-net-test.true c.net-item.is)
