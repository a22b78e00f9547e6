use Rattle.eco_disk.specs.declared.call.Call.TheVariants as call
use Rattle.eco_disk.specs.Disk.{Cut}
use Rattle.eco_disk.specs.Contents.{first_of}
use Rattle.eco_disk.proofs.Moments.{cut_refl}
use Rattle.eco_disk.proofs.Replays.{plays_replayed, plays_pass, cut_steps}
use Rattle.eco_disk.proofs.tape.Tape.cut.Goals as goal

pub invariant_of-self : goal.invariant_of-self
invariant_of-self c =
    let t = c.args.self.now in
    record { replayed = plays_replayed c.args.injected (call.Cut c.args.len) t.contents c.play_cut.new.contents t.calls.items c.play_cut.new.calls.items c.play_cut.result c.play_cut.ensures t.replayed }

pub returns-clause-crash : goal.returns-clause-crash
returns-clause-crash c =
    let t = c.args.self.now in
    plays_pass c.args.injected (call.Cut c.args.len) t.contents c.play_cut.new.contents t.calls.items c.play_cut.new.calls.items (Cut c.args.len) (cut_refl c.args.len) (cut_steps t.calls.items (first_of t.contents) c.args.len) c.play_cut.result c.play_cut.ensures
