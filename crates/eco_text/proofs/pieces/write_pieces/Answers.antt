use Rattle.std.specs.Borrow.{Bor}
use Rattle.std.proofs.Common.{ℕ, List, []}
use Rattle.std.proofs.lemmas.Result.{err_from_is_err_and}
use Rattle.eco_text.proofs.Sequence.{fails_at_read}
use Rattle.eco_text.proofs.pieces.write_pieces.Goals as goal

pub returns-in_err-write_all : goal.returns-in_err-write_all
returns-in_err-write_all g c =
    let p = err_from_is_err_and c.from_residual.result c.from_residual.ensures.1 in
    let h = c.in_err-write_all.ensures in
    let none : Bor (List ℕ) = record { ref_ptr = (0, 0); now = [] } in
    rw (p.1, p.2)
    (fails_at_read (λ (piece : Bor (List ℕ)). piece.now) none c.args.pieces.now c.loop-piece.piece-index c.loop-piece-test.true
    c.loop-piece.invariant (record { bytes_taken = h.bytes; cause = h.cause }))
