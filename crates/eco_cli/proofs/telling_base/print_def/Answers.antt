use Rattle.eco_cli.proofs.telling_base.print_def.Goals as goal

pub returns-in-Text : goal.returns-in-Text
returns-in-Text g c = rw (c.in-Text.is, ← c.quote_place.ensures) c.print_place.ensures

pub returns-in-UnknownHeading : goal.returns-in-UnknownHeading
returns-in-UnknownHeading g c = rw (c.in-UnknownHeading.is) c.print_place-in-UnknownHeading.ensures

pub returns-in-Unended : goal.returns-in-Unended
returns-in-Unended g c = rw (c.in-Unended.is) c.print_place-in-Unended.ensures

pub returns-in-BadStatement : goal.returns-in-BadStatement
returns-in-BadStatement g c = rw (c.in-BadStatement.is) c.print_place-in-BadStatement.ensures

pub returns-in-TwiceNamed : goal.returns-in-TwiceNamed
returns-in-TwiceNamed g c = rw (c.in-TwiceNamed.is) c.print_place-in-TwiceNamed.ensures

pub returns-in-MustJoin : goal.returns-in-MustJoin
returns-in-MustJoin g c = rw (c.in-MustJoin.is) c.print_place-in-MustJoin.ensures

pub returns-in-Limit : goal.returns-in-Limit
returns-in-Limit g c = rw (c.in-Limit.is) c.print_place-in-Limit.ensures
