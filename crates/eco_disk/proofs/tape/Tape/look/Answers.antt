use Rattle.std.proofs.Common.{refl}
use Rattle.eco_disk.specs.Disk.{Same}
use Rattle.eco_disk.specs.Contents.{first_of}
use Rattle.eco_disk.proofs.Replays.{plays_replayed, plays_pass, look_steps}
use Rattle.eco_disk.proofs.tape.Tape.look.Goals as goal

pub invariant_of-self : goal.invariant_of-self
invariant_of-self c =
    let t = c.args.self.now in
    record { replayed = plays_replayed c.args.injected (c.args.look) t.contents t.contents t.calls.items c.play_look.new.calls.items c.play_look.result c.play_look.ensures t.replayed }

pub returns-clause-crash : goal.returns-clause-crash
returns-clause-crash c =
    let t = c.args.self.now in
    plays_pass c.args.injected (c.args.look) t.contents t.contents t.calls.items c.play_look.new.calls.items (Same) (λ x. refl) (look_steps t.calls.items (first_of t.contents) c.args.look c.requires) c.play_look.result c.play_look.ensures
