use Rattle.std.proofs.Common.{Vec, Global, ℕ, [], ◌+◌, inr, Err, refl, rules}
use Rattle.eco_cli.specs.Job.{Input}
use Rattle.eco_cli.specs.Whole.{ReadsTo}
use Rattle.eco_cli.specs.declared.input.InputFault.TheVariants as fault
use Rattle.eco_cli.proofs.Returning.{whole_back, part_back}
use Rattle.eco_cli.proofs.texts.read_text.Goals as goal

pub returns-in-Ok-text-clause-returned : goal.returns-in-Ok-text-clause-returned
returns-in-Ok-text-clause-returned g c =
    let h = g.H.Host.told in
    let left = g.H.Input.Source.left in
    let i : Input = record { option = c.args.option.now; name = c.args.name.now; limit = c.args.limit } in
    whole_back h left c.args.host.now c.source.new.self c.done_source.new.self i c.in-Ok.source c.read_all-text.new.source c.in-Ok.ensures.given.0 c.in-Ok-text.ensures.returned c.in-Ok.ensures.sources_back c.done_source.ensures.back

pub returns-in-Err-TooLong-clause-returned : goal.returns-in-Err-TooLong-clause-returned
returns-in-Err-TooLong-clause-returned g c =
    let h = g.H.Host.told in
    let left = g.H.Input.Source.left in
    let i : Input = record { option = c.args.option.now; name = c.args.name.now; limit = c.args.limit } in
    let read : ReadsTo {V = Vec ℕ Global} c.args.limit (left c.in-Ok.source) (left c.read_all-text.new.source) (Err fault.TooLong) = search rules in
    ([], i, [], refl, refl, part_back h left c.args.host.now c.source.new.self c.done_source.new.self i (i.limit + 1) c.in-Ok.source c.read_all-text.new.source c.in-Ok.ensures.given.0 read c.in-Ok.ensures.sources_back c.done_source.ensures.back)

pub returns-in-Err-Read-clause-returned : goal.returns-in-Err-Read-clause-returned
returns-in-Err-Read-clause-returned g c =
    let h = g.H.Host.told in
    let left = g.H.Input.Source.left in
    let i : Input = record { option = c.args.option.now; name = c.args.name.now; limit = c.args.limit } in
    let read : ReadsTo {V = Vec ℕ Global} c.args.limit (left c.in-Ok.source) (left c.read_all-text.new.source) (Err fault.Read) = search rules in
    inr ([], i, [], read.0, refl, read.1, part_back h left c.args.host.now c.source.new.self c.done_source.new.self i read.0 c.in-Ok.source c.read_all-text.new.source c.in-Ok.ensures.given.0 read.2 c.in-Ok.ensures.sources_back c.done_source.ensures.back)

pub returns-in-Err-Memory-text-clause-returned : goal.returns-in-Err-Memory-text-clause-returned
returns-in-Err-Memory-text-clause-returned g c =
    let h = g.H.Host.told in
    let left = g.H.Input.Source.left in
    let i : Input = record { option = c.args.option.now; name = c.args.name.now; limit = c.args.limit } in
    let read : ReadsTo {V = Vec ℕ Global} c.args.limit (left c.in-Ok.source) (left c.read_all-text.new.source) (Err fault.Memory) = search rules in
    inr ([], i, [], read.0, refl, read.1, part_back h left c.args.host.now c.source.new.self c.done_source.new.self i read.0 c.in-Ok.source c.read_all-text.new.source c.in-Ok.ensures.given.0 read.2 c.in-Ok.ensures.sources_back c.done_source.ensures.back)
