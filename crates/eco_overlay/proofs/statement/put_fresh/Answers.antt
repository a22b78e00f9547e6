use Rattle.eco_overlay.specs.NetChanges.{moves_on}
use Rattle.eco_overlay.proofs.Writing.{on_ok, put_fresh_is}
use Rattle.eco_overlay.proofs.statement.put_fresh.Goals as goal

pub returns : goal.returns
returns c =
    on_ok c.put-2.result
    (λ last. put_fresh_is c.args.bytes.now.items c.put.new.bytes.items c.put_coming.new.bytes.items c.put-2.new.bytes.items c.args.name.now (moves_on c.args.added.now c.args.name.now) c.in_ok-put.ensures c.in_ok-put_coming.ensures last)
    c.put-2.ensures
