use Rattle.std.proofs.Common.{take}
use Rattle.eco_elaborate.specs.Stated.{named_comps}
use Rattle.eco_elaborate.specs.Stages.{AddsComps}
use Rattle.eco_elaborate.proofs.listed_comps.add_comps.Given as goal

-- the components so far are added
abbrev pub invariant-loop-comp : goal.invariant-loop-comp
invariant-loop-comp g l = AddsComps (g.M.Macros.kinds l.macros) l.units (named_comps l.text (take l.comp-index l.comps)) l.initial.maker l.maker
