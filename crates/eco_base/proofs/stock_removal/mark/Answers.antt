use Rattle.std.proofs.Common.{refl, sym, subst}
use Rattle.eco_base.specs.Order.{HasSameOrder}
use Rattle.eco_base.proofs.Ordered.{tied_names}
use Rattle.eco_base.proofs.stock_removal.mark.Goals as goal

pub returns-in-Some-clause-order : goal.returns-in-Some-clause-order
returns-in-Some-clause-order c =
    subst (HasSameOrder c.args.maker.now) (sym c.mark_tie.ensures.rows) (record { comps = refl; nets = tied_names c.args.maker.now.nets c.in-Some.net.0; tops = refl })
