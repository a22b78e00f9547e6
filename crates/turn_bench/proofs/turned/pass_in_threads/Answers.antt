use denote.Param.Send.{sendable}
use Rattle.eco_turn.proofs.Sent.{pass_send}
use Rattle.turn_bench.proofs.turned.pass_in_threads.Goals as goal

pub for_each_mut-requires-send-T : goal.for_each_mut-requires-send-T
for_each_mut-requires-send-T g c κs within = search (sendable, pass_send) depth 12
