use Rattle.std.proofs.Common.{◌∙◌, sym, ap, length, true≢false}
use Rattle.eco_net.specs.Listing.{netlist}
use Rattle.eco_one_gate.proofs.MovedPins.{names_known, of_moved}
use Rattle.eco_one_gate.proofs.good_order.known_order.Goals as goal

pub returns-then-not-knows_names : goal.returns-then-not-knows_names
returns-then-not-knows_names c k = true≢false (sym (names_known (netlist c.args.netlist.now) c.args.one.now k) ∙ sym c.if-not-knows_names.ensures)

pub returns : goal.returns
returns c = of_moved c.args.netlist.now c.args.one.now (sym c.if-not-knows_names.ensures) (sym (ap length c.as_slice.ensures.value) ∙ c.if-as_slice-inputs.false ∙ c.inputs.ensures.value) c.moved_pin.result c.moved_pin.ensures
