use Rattle.eco_cli.proofs.telling.print_failure.Goals as goal

pub returns-in-TooLong : goal.returns-in-TooLong
returns-in-TooLong g c = rw (c.in-TooLong.is, ← c.as_bytes.ensures.value) c.write_pieces.ensures

pub returns-in-Read : goal.returns-in-Read
returns-in-Read g c = rw (c.in-Read.is) c.write_piece.ensures

pub returns-in-Memory : goal.returns-in-Memory
returns-in-Memory g c = rw (c.in-Memory.is) c.write_piece-in-Memory.ensures
