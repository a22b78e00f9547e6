use Rattle.std.proofs.Common.{take}
use Rattle.eco_net.specs.Listing.{netlist}
use Rattle.eco_patch_laws.specs.Insertion.{input_pins}
use Rattle.eco_one_gate.proofs.PatchPins.{IsPatching, patch_kind}
use Rattle.eco_one_gate.proofs.patched.insert_gate.Given as goal

-- the gate stands in the netlist, with its first pins on their nets
abbrev pub invariant-loop-place : goal.invariant-loop-place
invariant-loop-place l = IsPatching (netlist l.fn.maker) l.maker l.gate (patch_kind l.one.table) (take l.place (input_pins l.one.inputs.items))
