use Rattle.std.proofs.Common.{◌++◌, ◌∷◌, [], string_bytes, ap, ◌∙◌, sym}
use Rattle.toml.specs.View.{view, members_view}
use Rattle.eco_func.specs.FunctionsFile.{output_of, outputs_of}
use Rattle.eco_func.proofs.DocumentLemmas.{behind, step}
use Rattle.eco_func.proofs.document.outputs.Goals as goal

pub loop-pin-preserved : goal.loop-pin-preserved
loop-pin-preserved c =
    let master = c.args.master.now in
    let inputs = c.args.inputs.now in
    let done = c.loop-pin.found.items in
    let pin = string_bytes c.in-Some.pin.now in
    let value = view c.in-Some.value.now in
    let table = c.in_ok-table.table in
    let rest = outputs_of master inputs (members_view c.next.new.self) in
    c.loop-pin.invariant ∙ ap (λ es. behind done (outputs_of master inputs (members_view es))) c.in-Some.ensures.steps
    ∙ step done (output_of master pin inputs value) (λ t. record { pin = pin; table = t }) rest table (ap (λ p. output_of master p inputs value) (sym c.as_bytes.ensures.value) ∙ c.in_ok-table.ensures)
    ∙ ap (λ p. behind (done ++ record { pin = p; table = table } ∷ []) rest) (sym (c.in_ok-pin.ensures ∙ c.as_bytes-in-loop-pin.ensures.value))
    ∙ ap (λ all. behind all rest) (sym c.in_ok-push.ensures.items)
