use Rattle.std.proofs.Common.{◌<◌, ◌^◌, ◌≡◌, ◌∙◌, sym, arith}
use Rattle.eco_wire.proofs.Digits.{decimal_of_digits, digits_of_decimal}
use Rattle.eco_wire.proofs.numbers.read_number.Goals as goal

pub returns-then-leads_with_zero : goal.returns-then-leads_with_zero
returns-then-leads_with_zero c = λ n small same.
    let plain = (digits_of_decimal c.args.text.now n small same).0 in
    cc

pub returns-in-Some : goal.returns-in-Some
returns-in-Some c =
    let small : c.in-Some.number < 2 ^ 64 = omega arith in (
      small,
      decimal_of_digits c.args.text.now c.in-Some.number
          (sym c.leads_with_zero.ensures ∙ c.if-leads_with_zero.false) (sym c.read_digits.ensures ∙ c.in-Some.is) small,
    )

pub returns-in_default : goal.returns-in_default
returns-in_default c = λ n small same.
    let read = (digits_of_decimal c.args.text.now n small same).1 in
    let number : c.in-Some.number ≡ n = cc (sym c.read_digits.ensures ∙ c.in-Some.is) in
    absurd (omega arith)

pub returns-in_default-2 : goal.returns-in_default-2
returns-in_default-2 c = λ n small same.
    let read = (digits_of_decimal c.args.text.now n small same).1 in
    cc
