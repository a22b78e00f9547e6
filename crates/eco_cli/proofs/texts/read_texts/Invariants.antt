use Rattle.std.proofs.Common.{◌≡◌, map, take, string_bytes}
use Rattle.std.specs.List.{flat_map}
use Rattle.eco_cli.specs.CommandLine.{input_at}
use Rattle.eco_cli.specs.Opens.{Settled}
use Rattle.eco_cli.specs.Returns.{ReturnsAll}
use Rattle.eco_cli.specs.Steps.{HaveRead}
use Rattle.eco_cli.proofs.texts.read_texts.Given as goal

abbrev pub invariant-loop-option : goal.invariant-loop-option
invariant-loop-option g l =
    HaveRead g.H.Host.told g.H.Input.Source.left l.initial.host l.host (flat_map (λ o. input_at o.kind o.word.now (map string_bytes l.words)) (take l.option-index l.options)) (map (λ t. t.items) l.texts.items)
    × Settled g.H.Host.told l.initial.host l.host × (g.H.Host.told.sinks_back l.host ≡ g.H.Host.told.sinks_back l.initial.host)
    × ReturnsAll g.H.Host.told g.H.Input.Source.left l.initial.host l.host (flat_map (λ o. input_at o.kind o.word.now (map string_bytes l.words)) (take l.option-index l.options))
