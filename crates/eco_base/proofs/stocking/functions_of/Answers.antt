use Rattle.std.specs.Prelude.{IsSome}
use Rattle.std.proofs.lemmas.List.Elements.{All-contains}
use Rattle.eco_net.proofs.Basics.{contains_from_has}
use Rattle.eco_elaborate.proofs.FindingPins.{has_at}
use Rattle.eco_base.specs.declared.stock.Spare.{Spare}
use Rattle.eco_base.specs.Stocks.{entry_at}
use Rattle.eco_base.proofs.stocking.functions_of.Goals as goal

pub function_of-requires : goal.function_of-requires
function_of-requires c =
    All-contains (λ (s : Spare). IsSome (entry_at c.args.texts.now s.comp)) c.args.spares.now c.spare-item.result c.requires
    (contains_from_has c.args.spares.now c.spare-item.result (has_at c.args.spares.now c.loop-spare.spare-index c.spare-item.result c.loop-spare-test.true c.spare-item.is))
