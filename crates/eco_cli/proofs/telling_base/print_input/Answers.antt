use Rattle.eco_cli.proofs.telling_base.print_input.Goals as goal

pub returns : goal.returns
returns g c = rw (← c.bytes-master.ensures, ← c.bytes-output.ensures, ← c.bytes-input.ensures) c.print_three.ensures
