use Rattle.std.proofs.Common.{map, string_bytes}
use Rattle.eco_cli.proofs.Answering.{done_answers, refused_answers, words_answers, returned_answers, read_answers, write_answers, bad_word_answers}
use Rattle.eco_cli.proofs.running.run.Goals as goal

pub returns-clause-done : goal.returns-clause-done
returns-clause-done g c is =
    let out = g.O.Sink.taken in
    done_answers g.H.Host.told g.H.Input.Source.left g.H.Output.Sink.taken c.args.host.now c.work-outcome.new.host (map string_bytes c.args.words.now) (out c.args.out.now) (out c.tell.new.out) (g.O.Sink.faults c.args.out.now) (g.O.Sink.faults c.tell.new.out)
    c.work-outcome.result c.tell.result c.work-outcome.ensures.comes c.tell.ensures.tells is

pub returns-clause-refused : goal.returns-clause-refused
returns-clause-refused g c is =
    let out = g.O.Sink.taken in
    refused_answers g.H.Host.told g.H.Input.Source.left g.H.Output.Sink.taken c.args.host.now c.work-outcome.new.host (map string_bytes c.args.words.now) (out c.args.out.now) (out c.tell.new.out) (g.O.Sink.faults c.args.out.now) (g.O.Sink.faults c.tell.new.out)
    c.work-outcome.result c.tell.result c.work-outcome.ensures.comes c.tell.ensures.tells is

pub returns-clause-bad_word : goal.returns-clause-bad_word
returns-clause-bad_word g c n bad =
    let out = g.O.Sink.taken in
    bad_word_answers g.H.Host.told g.H.Input.Source.left g.H.Output.Sink.taken c.args.host.now c.work-outcome.new.host (map string_bytes c.args.words.now) (out c.args.out.now) (out c.tell.new.out) (g.O.Sink.faults c.args.out.now) (g.O.Sink.faults c.tell.new.out)
    c.work-outcome.result c.tell.result n c.work-outcome.ensures.comes c.tell.ensures.tells bad

pub returns-clause-words : goal.returns-clause-words
returns-clause-words g c is =
    let out = g.O.Sink.taken in
    words_answers g.H.Host.told g.H.Input.Source.left g.H.Output.Sink.taken c.args.host.now c.work-outcome.new.host (map string_bytes c.args.words.now) (out c.args.out.now) (out c.tell.new.out) (g.O.Sink.faults c.args.out.now) (g.O.Sink.faults c.tell.new.out)
    c.work-outcome.result c.tell.result c.work-outcome.ensures.comes c.tell.ensures.tells is

pub returns-clause-read : goal.returns-clause-read
returns-clause-read g c is =
    let out = g.O.Sink.taken in
    read_answers g.H.Host.told g.H.Input.Source.left g.H.Output.Sink.taken c.args.host.now c.work-outcome.new.host (map string_bytes c.args.words.now) (out c.args.out.now) (out c.tell.new.out) (g.O.Sink.faults c.args.out.now) (g.O.Sink.faults c.tell.new.out)
    c.work-outcome.result c.tell.result c.work-outcome.ensures.comes c.tell.ensures.tells is

pub returns-clause-write : goal.returns-clause-write
returns-clause-write g c is =
    let out = g.O.Sink.taken in
    write_answers g.H.Host.told g.H.Input.Source.left g.H.Output.Sink.taken c.args.host.now c.work-outcome.new.host (map string_bytes c.args.words.now) (out c.args.out.now) (out c.tell.new.out) (g.O.Sink.faults c.args.out.now) (g.O.Sink.faults c.tell.new.out)
    c.work-outcome.result c.tell.result c.work-outcome.ensures.comes c.tell.ensures.tells is

pub returns-clause-returned : goal.returns-clause-returned
returns-clause-returned g c command after asks =
    returned_answers g.H.Host.told g.H.Input.Source.left g.H.Output.Sink.taken c.args.host.now c.work-outcome.new.host (map string_bytes c.args.words.now) c.work-outcome.result command after c.work-outcome.ensures.comes asks
