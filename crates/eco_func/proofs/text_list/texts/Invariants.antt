use Rattle.std.proofs.Common.{◌≡◌, ◌++◌, drop, option_map}
use Rattle.toml.specs.View.{items_view}
use Rattle.eco_func.specs.FunctionsFile.{texts_of}
use Rattle.eco_func.proofs.text_list.texts.Given as goal

abbrev pub invariant-loop-value : goal.invariant-loop-value
invariant-loop-value l =
    texts_of (items_view l.value-items) ≡ option_map (λ more. l.names.items ++ more) (texts_of (items_view (drop l.value-index l.value-items)))
