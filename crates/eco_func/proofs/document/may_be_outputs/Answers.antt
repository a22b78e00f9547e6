use Rattle.std.proofs.Common.{◌&&◌, ap, ◌∙◌, sym}
use Rattle.toml.specs.View.{table_view}
use Rattle.eco_func.specs.FunctionsFile.{no_key_among}
use Rattle.eco_func.proofs.DocumentLemmas.{pinned_by}
use Rattle.eco_func.proofs.document.may_be_outputs.Goals as goal

pub returns-then-is_few-clause-value : goal.returns-then-is_few-clause-value
returns-then-is_few-clause-value c =
    let none = no_key_among c.args.inputs.now (table_view c.args.pins.now) in
    c.has_none.ensures ∙ ap (λ f. f && none) (sym c.if-is_few.true) ∙ pinned_by c.args.inputs.now c.args.pins.now.entries c.len.result c.len.ensures.len c.is_few.result c.is_few.ensures

pub returns-else-is_few-clause-value : goal.returns-else-is_few-clause-value
returns-else-is_few-clause-value c =
    let none = no_key_among c.args.inputs.now (table_view c.args.pins.now) in
    c.if-is_few.false ∙ ap (λ f. f && none) (sym c.if-is_few.false) ∙ pinned_by c.args.inputs.now c.args.pins.now.entries c.len.result c.len.ensures.len c.is_few.result c.is_few.ensures
