use Rattle.std.proofs.Common.{◌≡◌, ◌∙◌, ap, subst, Vec, Global, ℕ, List, Ok, Err, map, string_bytes}
use Rattle.std.specs.Option.{option_map}
use Rattle.std.proofs.lemmas.Result.{err_from_is_err_and}
use Rattle.eco_cli.specs.CommandLine.{inputs_in, output_in}
use Rattle.eco_cli.specs.Commands.{job_of, options_of}
use Rattle.eco_cli.specs.Returns.{Returns, ReturnsAll}
use Rattle.eco_cli.specs.Steps.{ReadingAll, Plans, Writing, bytes_of}
use Rattle.eco_cli.specs.declared.done.Done.{Done}
use Rattle.eco_cli.proofs.Ending.{are_within, ends_reading, ends_planning, ends_done, ends_writing}
use Rattle.eco_cli.proofs.Returning.{returns_as, planning_back, writing_back, all_since}
use Rattle.eco_cli.proofs.running.carry_out.Goals as goal

pub make_plan-requires-clause-within : goal.make_plan-requires-clause-within
make_plan-requires-clause-within g c =
    let ws = map string_bytes c.args.asked.now.values.now in
    let reading = rw c.options-options.ensures at c.in_ok-texts.ensures.reading in
    are_within (g.H.Host.told.sources c.args.host.now) g.H.Input.Source.left (inputs_in (options_of c.args.asked.now.command) ws) (map (λ t. t.items) c.in_ok-texts.texts.items) reading.0

pub returns-in_err-texts-clause-ends : goal.returns-in_err-texts-clause-ends
returns-in_err-texts-clause-ends g c =
    let h = g.H.Host.told in
    let left = g.H.Input.Source.left in
    let j = job_of c.args.asked.now.command (map string_bytes c.args.asked.now.values.now) in
    let texts : Vec (Vec ℕ Global) Global → List (List ℕ) = λ v. map (λ t. t.items) v.items in
    let reading : ReadingAll h left c.args.host.now c.read_texts.new.host j.inputs texts (Err c.in_err-texts.field-0.0) =
    subst (λ table. ReadingAll h left c.args.host.now c.read_texts.new.host (inputs_in table (map string_bytes c.args.asked.now.values.now)) texts (Err c.in_err-texts.field-0.0)) c.options-options.ensures c.in_err-texts.ensures.reading in
    let p = err_from_is_err_and c.from_residual.result c.from_residual.ensures.1 in
    rw (p.1, p.2) (ends_reading h left g.H.Output.Sink.taken c.args.host.now c.read_texts.new.host j texts c.in_err-texts.field-0.0 reading c.in_err-texts.ensures.sinks)

pub returns-in_err-plan-clause-ends : goal.returns-in_err-plan-clause-ends
returns-in_err-plan-clause-ends g c =
    let h = g.H.Host.told in
    let left = g.H.Input.Source.left in
    let taken = g.H.Output.Sink.taken in
    let j = job_of c.args.asked.now.command (map string_bytes c.args.asked.now.values.now) in
    let texts : Vec (Vec ℕ Global) Global → List (List ℕ) = λ v. map (λ t. t.items) v.items in
    let reading : ReadingAll h left c.args.host.now c.read_texts.new.host j.inputs texts (Ok c.in_ok-texts.texts) = rw c.options-options.ensures at c.in_ok-texts.ensures.reading in
    let planned : Plans (j.Gives (texts c.in_ok-texts.texts)) (j.Refuses (texts c.in_ok-texts.texts)) (Err c.in_err-plan.field-0.0) = c.in_err-plan.ensures in
    let p = err_from_is_err_and c.from_residual-in_err-plan.result c.from_residual-in_err-plan.ensures.1 in
    rw (p.1, p.2) (ends_planning h left taken c.args.host.now c.read_texts.new.host j texts c.in_ok-texts.texts c.in_err-plan.field-0.0 reading c.in_ok-texts.ensures.sinks planned)

pub returns-in_err-write_output-clause-ends : goal.returns-in_err-write_output-clause-ends
returns-in_err-write_output-clause-ends g c =
    let h = g.H.Host.told in
    let left = g.H.Input.Source.left in
    let taken = g.H.Output.Sink.taken in
    let j = job_of c.args.asked.now.command (map string_bytes c.args.asked.now.values.now) in
    let texts : Vec (Vec ℕ Global) Global → List (List ℕ) = λ v. map (λ t. t.items) v.items in
    let reading : ReadingAll h left c.args.host.now c.read_texts.new.host j.inputs texts (Ok c.in_ok-texts.texts) = rw c.options-options.ensures at c.in_ok-texts.ensures.reading in
    let planned : Plans (j.Gives (texts c.in_ok-texts.texts)) (j.Refuses (texts c.in_ok-texts.texts)) (Ok c.in_ok-plan.plan) = c.in_ok-plan.ensures in
    let output : option_map (λ name. name.now) c.output.result ≡ j.output = c.output.ensures ∙ ap (λ table. output_in table (map string_bytes c.args.asked.now.values.now)) c.options-options.ensures in
    let writing : Writing h taken c.read_texts.new.host c.write_output.new.host j.output (bytes_of c.in_ok-plan.plan) (Err c.in_err-write_output.field-0.0) =
    subst (λ o. Writing h taken c.read_texts.new.host c.write_output.new.host o (bytes_of c.in_ok-plan.plan) (Err c.in_err-write_output.field-0.0)) output c.in_err-write_output.ensures.writing in
    let p = err_from_is_err_and c.from_residual-in_err-write_output.result c.from_residual-in_err-write_output.ensures.1 in
    rw (p.1, p.2)
    (ends_writing h left taken c.args.host.now c.read_texts.new.host c.write_output.new.host j texts c.in_ok-texts.texts c.in_ok-plan.plan c.in_err-write_output.field-0.0
    c.in_ok-texts.ensures.settled reading c.in_ok-texts.ensures.sinks planned writing)

pub returns-clause-ends : goal.returns-clause-ends
returns-clause-ends g c =
    let h = g.H.Host.told in
    let left = g.H.Input.Source.left in
    let taken = g.H.Output.Sink.taken in
    let j = job_of c.args.asked.now.command (map string_bytes c.args.asked.now.values.now) in
    let texts : Vec (Vec ℕ Global) Global → List (List ℕ) = λ v. map (λ t. t.items) v.items in
    let reading : ReadingAll h left c.args.host.now c.read_texts.new.host j.inputs texts (Ok c.in_ok-texts.texts) = rw c.options-options.ensures at c.in_ok-texts.ensures.reading in
    let planned : Plans (j.Gives (texts c.in_ok-texts.texts)) (j.Refuses (texts c.in_ok-texts.texts)) (Ok c.in_ok-plan.plan) = c.in_ok-plan.ensures in
    let output : option_map (λ name. name.now) c.output.result ≡ j.output = c.output.ensures ∙ ap (λ table. output_in table (map string_bytes c.args.asked.now.values.now)) c.options-options.ensures in
    let writing : Writing h taken c.read_texts.new.host c.write_output.new.host j.output (bytes_of c.in_ok-plan.plan) (Ok tt) =
    subst (λ o. Writing h taken c.read_texts.new.host c.write_output.new.host o (bytes_of c.in_ok-plan.plan) (Ok tt)) output c.in_ok-write_output.ensures.writing in
    rw c.told.ensures (ends_done h left taken c.args.host.now c.read_texts.new.host c.write_output.new.host j texts c.in_ok-texts.texts c.in_ok-plan.plan reading c.in_ok-texts.ensures.sinks planned writing)

pub returns-in_err-texts-clause-returned : goal.returns-in_err-texts-clause-returned
returns-in_err-texts-clause-returned g c =
    let h = g.H.Host.told in
    let left = g.H.Input.Source.left in
    let j = job_of c.args.asked.now.command (map string_bytes c.args.asked.now.values.now) in
    let back : Returns {V = Vec (Vec ℕ Global) Global} h left c.args.host.now c.read_texts.new.host j.inputs (Err c.in_err-texts.field-0.0) =
    subst (λ table. Returns {V = Vec (Vec ℕ Global) Global} h left c.args.host.now c.read_texts.new.host (inputs_in table (map string_bytes c.args.asked.now.values.now)) (Err c.in_err-texts.field-0.0)) c.options-options.ensures c.in_err-texts.ensures.returned in
    let p = err_from_is_err_and c.from_residual.result c.from_residual.ensures.1 in
    rw (p.1, p.2) (returns_as (Vec (Vec ℕ Global) Global) Done h left c.args.host.now c.read_texts.new.host j.inputs c.in_err-texts.field-0.0 back)

pub returns-in_err-plan-clause-returned : goal.returns-in_err-plan-clause-returned
returns-in_err-plan-clause-returned g c =
    let h = g.H.Host.told in
    let left = g.H.Input.Source.left in
    let j = job_of c.args.asked.now.command (map string_bytes c.args.asked.now.values.now) in
    let texts : Vec (Vec ℕ Global) Global → List (List ℕ) = λ v. map (λ t. t.items) v.items in
    let all : ReturnsAll h left c.args.host.now c.read_texts.new.host j.inputs = rw c.options-options.ensures at c.in_ok-texts.ensures.returned in
    let planned : Plans (j.Gives (texts c.in_ok-texts.texts)) (j.Refuses (texts c.in_ok-texts.texts)) (Err c.in_err-plan.field-0.0) = c.in_err-plan.ensures in
    let p = err_from_is_err_and c.from_residual-in_err-plan.result c.from_residual-in_err-plan.ensures.1 in
    rw (p.1, p.2) (planning_back Done h left c.args.host.now c.read_texts.new.host j.inputs (j.Gives (texts c.in_ok-texts.texts)) (j.Refuses (texts c.in_ok-texts.texts)) c.in_err-plan.field-0.0 all planned)

pub returns-in_err-write_output-clause-returned : goal.returns-in_err-write_output-clause-returned
returns-in_err-write_output-clause-returned g c =
    let h = g.H.Host.told in
    let left = g.H.Input.Source.left in
    let taken = g.H.Output.Sink.taken in
    let j = job_of c.args.asked.now.command (map string_bytes c.args.asked.now.values.now) in
    let all : ReturnsAll h left c.args.host.now c.read_texts.new.host j.inputs = rw c.options-options.ensures at c.in_ok-texts.ensures.returned in
    let p = err_from_is_err_and c.from_residual-in_err-write_output.result c.from_residual-in_err-write_output.ensures.1 in
    rw (p.1, p.2)
    (writing_back Done h left taken c.args.host.now c.read_texts.new.host c.write_output.new.host j.inputs (option_map (λ name. name.now) c.output.result) (bytes_of c.in_ok-plan.plan) c.in_err-write_output.field-0.0
    all c.in_err-write_output.ensures.sources c.in_err-write_output.ensures.writing)

pub returns-clause-returned : goal.returns-clause-returned
returns-clause-returned g c =
    let h = g.H.Host.told in
    let left = g.H.Input.Source.left in
    let j = job_of c.args.asked.now.command (map string_bytes c.args.asked.now.values.now) in
    let all : ReturnsAll h left c.args.host.now c.read_texts.new.host j.inputs = rw c.options-options.ensures at c.in_ok-texts.ensures.returned in
    all_since h left c.args.host.now c.read_texts.new.host c.write_output.new.host j.inputs all c.in_ok-write_output.ensures.sources
