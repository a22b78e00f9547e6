-- A value that is lent out of a `Held`.
use Rattle.std.specs.Prelude.{[]}
use Rattle.std.specs.Borrow.{Lends, MutBor, Fml, RattleType}
use mir.Syntax.{named}
use Rattle.eco_turn.specs.declared.kept.Kept.{Ghosts}
use Rattle.eco_turn.specs.declared.held.Held.{Held}
use Rattle.eco_turn.specs.contracts.held.Held as held

module _ (T E F : RattleType) (g : Ghosts T.Denot E.Denot F.Denot) where
  -- the same, with another value
  abbrev pub with_value : Held T.Denot E.Denot F.Denot → T.Denot → Held T.Denot E.Denot F.Denot
  with_value h v = record h { value = v }

  -- the last value written through the loan is the one held
  abbrev pub LendsValue : MutBor (Held T.Denot E.Denot F.Denot) → MutBor T.Denot → Fml
  LendsValue h r = Lends (held.the_row (record { mir = named 0; lft = [] }) T E F g) T h r (with_value h.now)
