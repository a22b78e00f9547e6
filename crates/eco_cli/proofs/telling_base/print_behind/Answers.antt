use Rattle.std.proofs.Common.{ℕ, List, ◌∷◌, append-nil}
use Rattle.std.proofs.lemmas.Result.{err_from_is_err_and}
use Rattle.eco_text.proofs.Sequence.{fails_at}
use Rattle.eco_cli.proofs.telling_base.print_behind.Goals as goal

pub returns-in_err-write_pieces : goal.returns-in_err-write_pieces
returns-in_err-write_pieces g c =
    let p = err_from_is_err_and c.from_residual.result c.from_residual.ensures.1 in
    rw (p.1, p.2)
    (fails_at (λ (n : List ℕ). 44 ∷ n) c.name-item.result c.args.names.now c.loop-name.name-index c.loop-name-test.true c.name-item.is
    c.loop-name.invariant (rw (append-nil c.bytes.result.now, c.bytes.ensures) at c.in_err-write_pieces.ensures))
