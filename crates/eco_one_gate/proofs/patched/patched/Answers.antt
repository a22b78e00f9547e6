use Rattle.std.proofs.Common.{◌∙◌, sym, ap, subst}
use Rattle.std.specs.FinMap.{get}
use Rattle.eco_net.specs.Netlist.{Netlist, IsNet}
use Rattle.eco_net.specs.Listing.{netlist}
use Rattle.eco_one_gate.proofs.PatchPins.{patch}
use Rattle.eco_one_gate.proofs.MovedNetlists.{output_net, old_net, still_new}
use Rattle.eco_one_gate.proofs.patched.patched.Goals as goal

pub insert_gate-requires-clause-new_name : goal.insert_gate-requires-clause-new_name
insert_gate-requires-clause-new_name c = ap (λ (N : Netlist). get N.comps patch) c.in_ok-maker.ensures.named ∙ still_new (netlist c.args.netlist.now) c.args.one.now c.requires.known.moves c.requires.new_name

pub insert_gate-requires-clause-inputs : goal.insert_gate-requires-clause-inputs
insert_gate-requires-clause-inputs c n i = subst (λ N. IsNet N n) (sym c.in_ok-maker.ensures.named) (old_net (netlist c.args.netlist.now) c.args.one.now n (c.requires.known.inputs_known n i))

pub insert_gate-requires-clause-output : goal.insert_gate-requires-clause-output
insert_gate-requires-clause-output c = subst (λ N. IsNet N c.args.one.now.output) (sym c.in_ok-maker.ensures.named) (output_net (netlist c.args.netlist.now) c.args.one.now)
