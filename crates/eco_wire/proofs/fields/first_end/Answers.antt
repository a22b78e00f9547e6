use Rattle.std.proofs.Common.{sym, subst}
use Rattle.eco_wire.specs.Lines.{EndsAt}
use Rattle.eco_wire.proofs.Items.{ends_at_comma}
use Rattle.eco_wire.proofs.fields.first_end.Goals as goal

pub returns : goal.returns
returns c = subst (EndsAt c.args.list.now) (sym c.first_comma.ensures) (ends_at_comma c.args.list.now)
