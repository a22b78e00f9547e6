use Rattle.std.proofs.Common.{sym, ◌∙◌}
use Rattle.eco_one_gate.proofs.PatchPins.{always_master}
use Rattle.eco_one_gate.proofs.patch_master.patch_master.Goals as goal

pub unreachable-requires : goal.unreachable-requires
unreachable-requires c = always_master c.in_ok-name.name c.in_ok-inputs.inputs.items c.in_ok-outputs.outputs.items c.args.table c.inputs.result c.in_ok-inputs.ensures c.in_ok-outputs.ensures c.inputs.ensures.value c.inputs.ensures.few (sym c.in-None.is ∙ c.in_ok-made.ensures)
