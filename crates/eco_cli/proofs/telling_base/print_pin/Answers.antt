use Rattle.eco_cli.proofs.telling_base.print_pin.Goals as goal

pub returns : goal.returns
returns g c = rw (← c.bytes-pin.ensures, ← c.bytes-first.ensures, ← c.bytes-second.ensures) c.print_three.ensures
