use Rattle.std.proofs.Common.{ℕ, List, [], ◌∷◌, ◌++◌, map, ap, ap₂, ◌∙◌}
use Rattle.std.specs.List.{range_with_len}
use Rattle.eco_func.specs.Tables.{TruthTable}
use Rattle.eco_func.specs.declared.output.OutputFn.{OutputFn}
use Rattle.eco_patch_laws.specs.Insertion.{input_pin}
use Rattle.eco_order.proofs.Gating.{is_made, kind_made}
use Rattle.eco_order.proofs.gates.gate_kind.Goals as goal

abbrev one : List ℕ → TruthTable → List OutputFn
one pin table = record { pin = pin; table = table } ∷ []

pub unreachable-requires : goal.unreachable-requires
unreachable-requires c =
    is_made c.args.gate.now c.input_count.ensures.few c.table-table.ensures.whole.rows c.in_ok-inputs.inputs.items c.push.new.self.items
    (c.in_ok-inputs.ensures ∙ ap (λ n. map input_pin (range_with_len 0 n)) c.input_count.ensures.count)
    (c.in_ok-push.ensures.items ∙ ap (λ os. os ++ one c.in_ok-of.field-0 c.table-table.result) c.new-outputs.ensures.items ∙ ap₂ one c.in_ok-of.ensures c.table-table.ensures.value)
    c.in_ok-copy.field-0 c.in_ok-master.field-0 c.in_ok-master.ensures c.in-None.is

pub returns-clause-kind : goal.returns-clause-kind
returns-clause-kind c =
    kind_made c.args.gate.now c.input_count.ensures.few c.table-table.ensures.whole.rows c.in_ok-inputs.inputs.items c.push.new.self.items
    (c.in_ok-inputs.ensures ∙ ap (λ n. map input_pin (range_with_len 0 n)) c.input_count.ensures.count)
    (c.in_ok-push.ensures.items ∙ ap (λ os. os ++ one c.in_ok-of.field-0 c.table-table.result) c.new-outputs.ensures.items ∙ ap₂ one c.in_ok-of.ensures c.table-table.ensures.value)
    c.in_ok-copy.field-0 c.in-Some.master c.in_ok-master.field-0 c.in-Some.is c.in_ok-master.ensures
