use Rattle.std.proofs.Common.{◌≤◌, length, subst}
use Rattle.eco_disk.specs.declared.call.Call.TheVariants.{Write}
use Rattle.eco_disk.specs.Disk.{Torn}
use Rattle.eco_disk.specs.Contents.{first_of}
use Rattle.eco_disk.proofs.Moments.{torn_refl}
use Rattle.eco_disk.proofs.Replays.{plays_replayed, plays_pass, write_steps}
use Rattle.eco_disk.proofs.tape.Tape.write.Goals as goal

pub invariant_of-self : goal.invariant_of-self
invariant_of-self c =
    let t = c.args.self.now in
    record { replayed = plays_replayed c.args.injected (Write c.args.at c.args.piece.now) t.contents c.play_write.new.contents t.calls.items c.play_write.new.calls.items c.play_write.result c.play_write.ensures t.replayed }

pub returns-clause-crash : goal.returns-clause-crash
returns-clause-crash c =
    let t = c.args.self.now in
    plays_pass c.args.injected (Write c.args.at c.args.piece.now) t.contents c.play_write.new.contents t.calls.items c.play_write.new.calls.items (Torn c.args.at (length c.args.piece.now)) (torn_refl c.args.at (length c.args.piece.now)) (write_steps t.calls.items (first_of t.contents) c.args.at c.args.piece.now (subst (λ b. c.args.at ≤ length b) t.replayed c.requires)) c.play_write.result c.play_write.ensures
