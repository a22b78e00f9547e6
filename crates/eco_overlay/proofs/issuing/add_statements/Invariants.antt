use Rattle.std.proofs.Common.{◌≡◌, ◌++◌, map, take}
use Rattle.eco_def.specs.View.{net_in}
use Rattle.eco_overlay.specs.NetChanges.{changes_in, of_kind}
use Rattle.eco_overlay.specs.Overlays.{all_changed}
use Rattle.eco_overlay.proofs.issuing.add_statements.Given as goal

-- the edits of the statements so far
abbrev pub invariant-loop-net : goal.invariant-loop-net
invariant-loop-net l = l.overlay ≡ l.initial.overlay ++ all_changed l.text (changes_in l.changes) l.special (map (net_in l.text) (of_kind l.special (take l.net-index l.nets)))
