use Rattle.eco_cli.proofs.telling_base.print_base.Goals as goal

pub returns-in-FunctionPins : goal.returns-in-FunctionPins
returns-in-FunctionPins g c = rw (c.in-FunctionPins.is, ← c.bytes.ensures, ← c.bytes-in-FunctionPins.ensures) c.print_two.ensures

pub returns-in-PatternOnSignal : goal.returns-in-PatternOnSignal
returns-in-PatternOnSignal g c =
    rw (c.in-PatternOnSignal.is, ← c.bytes-in-PatternOnSignal.ensures, ← c.bytes-in-PatternOnSignal-2.ensures) c.print_two-in-PatternOnSignal.ensures

pub returns-in-SupplyDiffers : goal.returns-in-SupplyDiffers
returns-in-SupplyDiffers g c = rw (c.in-SupplyDiffers.is) c.print_name-in-SupplyDiffers.ensures

pub returns-in-TieNotConstant : goal.returns-in-TieNotConstant
returns-in-TieNotConstant g c = rw (c.in-TieNotConstant.is) c.print_name-in-TieNotConstant.ensures

pub returns-in-TooMuchStock : goal.returns-in-TooMuchStock
returns-in-TooMuchStock g c = rw (c.in-TooMuchStock.is) c.print_number.ensures

pub returns-in-Memory : goal.returns-in-Memory
returns-in-Memory g c = rw (c.in-Memory.is) c.write_piece.ensures
