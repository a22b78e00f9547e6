use Rattle.eco_cli.proofs.telling_base.print_expression.Goals as goal

pub returns : goal.returns
returns g c =
    rw (← c.format-digits.ensures.text, ← c.as_bytes.ensures.value, ← c.bytes-master.ensures, ← c.bytes-output.ensures) c.print_three.ensures
