use Rattle.std.proofs.Common.{◌≡◌, take}
use Rattle.std.specs.List.{flat_map}
use Rattle.eco_issued_laws.specs.Issued.{fresh_text}
use Rattle.eco_overlay.specs.NetChanges.{fresh_of}
use Rattle.eco_overlay.proofs.fresh.fresh_statements.Given as goal

-- the statements so far
abbrev pub invariant-loop-name : goal.invariant-loop-name
invariant-loop-name l = l.bytes.items ≡ flat_map (λ n. fresh_text (fresh_of l.changes n)) (take l.name-index l.fresh)
