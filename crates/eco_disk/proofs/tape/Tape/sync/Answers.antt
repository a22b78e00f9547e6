use Rattle.std.proofs.Common.{refl}
use Rattle.eco_disk.specs.declared.call.Call.TheVariants.{Sync}
use Rattle.eco_disk.specs.Disk.{Same}
use Rattle.eco_disk.specs.Contents.{first_of}
use Rattle.eco_disk.proofs.Replays.{plays_replayed, plays_pass, plays_kept, sync_steps}
use Rattle.eco_disk.proofs.tape.Tape.sync.Goals as goal

pub invariant_of-self : goal.invariant_of-self
invariant_of-self c =
    let t = c.args.self.now in
    record { replayed = plays_replayed c.args.injected (Sync) t.contents c.play_sync.new.contents t.calls.items c.play_sync.new.calls.items c.play_sync.result c.play_sync.ensures t.replayed }

pub returns-clause-crash : goal.returns-clause-crash
returns-clause-crash c =
    let t = c.args.self.now in
    plays_pass c.args.injected (Sync) t.contents c.play_sync.new.contents t.calls.items c.play_sync.new.calls.items (Same) (λ x. refl) (sync_steps t.calls.items (first_of t.contents)) c.play_sync.result c.play_sync.ensures

pub returns-clause-kept : goal.returns-clause-kept
returns-clause-kept c =
    let t = c.args.self.now in
    plays_kept c.args.injected t.contents c.play_sync.new.contents t.calls.items c.play_sync.new.calls.items c.play_sync.result c.play_sync.ensures t.replayed
