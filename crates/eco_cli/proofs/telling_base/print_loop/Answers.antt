use Rattle.std.proofs.lemmas.List.{append_assoc}
use Rattle.std.proofs.lemmas.Result.{err_from_is_err_and}
use Rattle.eco_text.proofs.Sequence.{then, longer}
use Rattle.eco_cli.proofs.telling_base.print_loop.Goals as goal

pub returns-in_err-write_piece : goal.returns-in_err-write_piece
returns-in_err-write_piece g c =
    let p = err_from_is_err_and c.from_residual.result c.from_residual.ensures.1 in
    rw (p.1, p.2, append_assoc) (longer _ c.in_err-write_piece.ensures)

pub returns-in_err-print_names : goal.returns-in_err-print_names
returns-in_err-print_names g c =
    let p = err_from_is_err_and c.from_residual-in_err-print_names.result c.from_residual-in_err-print_names.ensures.1 in
    rw (p.1, p.2, append_assoc) (then c.in_ok-write_piece.ensures (longer _ (rw c.as_slice.ensures at c.in_err-print_names.ensures)))

pub returns : goal.returns
returns g c =
    rw append_assoc (then c.in_ok-write_piece.ensures (then (rw c.as_slice.ensures at c.in_ok-print_names.ensures) c.write_piece-2.ensures))
