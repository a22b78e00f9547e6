use Rattle.eco_cli.proofs.telling_base.print_lef.Goals as goal

pub returns-in-Text : goal.returns-in-Text
returns-in-Text g c = rw (c.in-Text.is, ← c.quote_place.ensures) c.print_place.ensures

pub returns-in-Unended : goal.returns-in-Unended
returns-in-Unended g c = rw (c.in-Unended.is, ← c.bytes.ensures) c.print_parts.ensures

pub returns-in-TwiceNamed : goal.returns-in-TwiceNamed
returns-in-TwiceNamed g c = rw (c.in-TwiceNamed.is) c.print_place-in-TwiceNamed.ensures

pub returns-in-TooManyMasters : goal.returns-in-TooManyMasters
returns-in-TooManyMasters g c = rw (c.in-TooManyMasters.is) c.print_place-in-TooManyMasters.ensures

pub returns-in-ArrayBlock : goal.returns-in-ArrayBlock
returns-in-ArrayBlock g c = rw (c.in-ArrayBlock.is) c.print_place-in-ArrayBlock.ensures

pub returns-in-BadStatement : goal.returns-in-BadStatement
returns-in-BadStatement g c = rw (c.in-BadStatement.is) c.print_place-in-BadStatement.ensures

pub returns-in-Memory : goal.returns-in-Memory
returns-in-Memory g c = rw (c.in-Memory.is) c.print_parts-in-Memory.ensures
