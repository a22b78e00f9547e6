use Rattle.eco_cli.proofs.telling_base.print_func.Goals as goal

pub returns-in-BadToml : goal.returns-in-BadToml
returns-in-BadToml g c = rw (c.in-BadToml.is) c.print_parts.ensures

pub returns-in-BadField : goal.returns-in-BadField
returns-in-BadField g c = rw (c.in-BadField.is, ← c.bytes.ensures, ← c.bytes-in-BadField.ensures) c.print_two.ensures

pub returns-in-TooManyInputs : goal.returns-in-TooManyInputs
returns-in-TooManyInputs g c = rw (c.in-TooManyInputs.is, ← c.bytes-in-TooManyInputs.ensures) c.print_parts-in-TooManyInputs.ensures

pub returns-in-BadTable : goal.returns-in-BadTable
returns-in-BadTable g c = rw (c.in-BadTable.is, ← c.bytes-in-BadTable.ensures, ← c.bytes-in-BadTable-2.ensures) c.print_two-in-BadTable.ensures

pub returns-in-TooManyMasters : goal.returns-in-TooManyMasters
returns-in-TooManyMasters g c = rw (c.in-TooManyMasters.is) c.print_number.ensures

pub returns-in-Memory : goal.returns-in-Memory
returns-in-Memory g c = rw (c.in-Memory.is) c.print_parts-in-Memory.ensures
