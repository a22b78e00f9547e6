use Rattle.eco_cli.proofs.telling_base.print_joint.Goals as goal

pub returns : goal.returns
returns g c = rw (← c.format-digits.ensures.text, ← c.as_bytes.ensures.value, ← c.bytes.ensures) c.print_two.ensures
