use Rattle.std.proofs.Common.{◌≡◌, take}
use Rattle.eco_def.specs.Sections.{room_less}
use Rattle.eco_def.proofs.room.Room.behind_all.Given as goal

-- the room after the statements so far
abbrev pub invariant-statements : goal.invariant-statements
invariant-statements l = l.room ≡ room_less l.fn.self (take l.net-index l.nets)
