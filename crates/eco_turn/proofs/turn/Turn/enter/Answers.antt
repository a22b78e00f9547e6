use Rattle.std.proofs.Common.{rules, Some}
use Rattle.eco_turn.proofs.Steps.{draws_ok}
use Rattle.eco_turn.proofs.Passes.{ready, carries}
use Rattle.eco_turn.proofs.turn.Turn.enter.Goals as goal

pub fetch_add-ticket-requires : goal.fetch_add-ticket-requires
fetch_add-ticket-requires g c =
    let s = c.into_seat-seat.ensures in let q = ready _ _ _ c.args.pass.now c.replace-badge.result c.into_seat-seat.result.me.0 c.requires.pass.0 c.requires.pass.1 (search rules) s.2 in
    (search rules, search rules, draws_ok g.T.Kept.entries g.T.Kept.fixed _ _ _ _ _ q.outside.out q.some_number)

pub exchange-slot-requires : goal.exchange-slot-requires
exchange-slot-requires g c = let t = c.await_turn.ensures.took in (search rules, (Some t.0, carries g.T.Kept.entries g.T.Kept.fixed _ _ t.0 t.1))
