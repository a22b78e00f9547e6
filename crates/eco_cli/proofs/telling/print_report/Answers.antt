use Rattle.std.proofs.lemmas.Result.{err_from_is_err_and}
use Rattle.eco_text.proofs.Sequence.{then, longer}
use Rattle.eco_cli.proofs.telling.print_report.Goals as goal

pub returns-in_err-print_number : goal.returns-in_err-print_number
returns-in_err-print_number g c =
    let p = err_from_is_err_and c.from_residual.result c.from_residual.ensures.1 in
    rw (p.1, p.2)
    (longer _ c.in_err-print_number.ensures)

pub returns-in_err-print_number-2 : goal.returns-in_err-print_number-2
returns-in_err-print_number-2 g c =
    let p = err_from_is_err_and c.from_residual-in_err-print_number-2.result c.from_residual-in_err-print_number-2.ensures.1 in
    rw (p.1, p.2)
    (then c.in_ok-print_number.ensures (longer _ c.in_err-print_number-2.ensures))

pub returns-in_err-print_number-3 : goal.returns-in_err-print_number-3
returns-in_err-print_number-3 g c =
    let p = err_from_is_err_and c.from_residual-in_err-print_number-3.result c.from_residual-in_err-print_number-3.ensures.1 in
    rw (p.1, p.2)
    (then c.in_ok-print_number.ensures (then c.in_ok-print_number-2.ensures (longer _ c.in_err-print_number-3.ensures)))

pub returns-in_err-print_number-4 : goal.returns-in_err-print_number-4
returns-in_err-print_number-4 g c =
    let p = err_from_is_err_and c.from_residual-in_err-print_number-4.result c.from_residual-in_err-print_number-4.ensures.1 in
    rw (p.1, p.2)
    (then c.in_ok-print_number.ensures (then c.in_ok-print_number-2.ensures (then c.in_ok-print_number-3.ensures (longer _ c.in_err-print_number-4.ensures))))

pub returns-in_err-print_number-5 : goal.returns-in_err-print_number-5
returns-in_err-print_number-5 g c =
    let p = err_from_is_err_and c.from_residual-in_err-print_number-5.result c.from_residual-in_err-print_number-5.ensures.1 in
    rw (p.1, p.2)
    (then c.in_ok-print_number.ensures (then c.in_ok-print_number-2.ensures (then c.in_ok-print_number-3.ensures (then c.in_ok-print_number-4.ensures (longer _ c.in_err-print_number-5.ensures)))))

pub returns-in_err-print_number-6 : goal.returns-in_err-print_number-6
returns-in_err-print_number-6 g c =
    let p = err_from_is_err_and c.from_residual-in_err-print_number-6.result c.from_residual-in_err-print_number-6.ensures.1 in
    rw (p.1, p.2)
    (then c.in_ok-print_number.ensures (then c.in_ok-print_number-2.ensures (then c.in_ok-print_number-3.ensures (then c.in_ok-print_number-4.ensures (then c.in_ok-print_number-5.ensures (longer _ c.in_err-print_number-6.ensures))))))

pub returns-in_err-print_number-7 : goal.returns-in_err-print_number-7
returns-in_err-print_number-7 g c =
    let p = err_from_is_err_and c.from_residual-in_err-print_number-7.result c.from_residual-in_err-print_number-7.ensures.1 in
    rw (p.1, p.2)
    (then c.in_ok-print_number.ensures (then c.in_ok-print_number-2.ensures (then c.in_ok-print_number-3.ensures (then c.in_ok-print_number-4.ensures (then c.in_ok-print_number-5.ensures (then c.in_ok-print_number-6.ensures (longer _ (rw c.from.ensures at c.in_err-print_number-7.ensures))))))))

pub returns : goal.returns
returns g c =
    then c.in_ok-print_number.ensures (then c.in_ok-print_number-2.ensures (then c.in_ok-print_number-3.ensures (then c.in_ok-print_number-4.ensures (then c.in_ok-print_number-5.ensures (then c.in_ok-print_number-6.ensures (then (rw c.from.ensures at c.in_ok-print_number-7.ensures) c.print_number-8.ensures))))))
