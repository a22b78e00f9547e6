use Rattle.std.proofs.Common.{◌≡◌, map, take, Bor, List, ℕ}
use Rattle.eco_overlay.proofs.of_joints.bytes_of.Given as goal

-- the names so far
abbrev pub invariant-loop-name : goal.invariant-loop-name
invariant-loop-name l = map (λ (n : Bor (List ℕ)). n.now) l.bytes.items ≡ take l.name-index l.names
