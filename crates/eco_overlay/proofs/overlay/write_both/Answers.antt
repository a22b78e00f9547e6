use Rattle.std.proofs.Common.{append-nil}
use Rattle.eco_overlay.proofs.overlay.write_both.Goals as goal

pub returns : goal.returns
returns g c = rw append-nil at c.write_pieces.ensures
