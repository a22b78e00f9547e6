-- Expressions as they are read.
use Rattle.std.proofs.Common.{◌≡◌, codes, Ok, Err, refl}
use Rattle.eco_func.specs.declared.operator.Operator.TheVariants.{And, Xor, Or}
use Rattle.eco_func.specs.Expressions.{Expression, Input, Not, Both, expression_in}

abbrev pin_a : Expression
pin_a = Input (codes "A")

abbrev pin_b : Expression
pin_b = Input (codes "B[0]")

abbrev pin_c : Expression
pin_c = Input (codes "_c")

abbrev pin_d : Expression
pin_d = Input (codes "D1")

strongest_first : expression_in (codes "A | B[0] ^ _c & D1") ≡ Ok (Both Or pin_a (Both Xor pin_b (Both And pin_c pin_d)))
strongest_first = refl

from_the_left : expression_in (codes "A&B[0]&_c") ≡ Ok (Both And (Both And pin_a pin_b) pin_c)
from_the_left = refl

in_parentheses : expression_in (codes "!( (A | B[0])&_c )") ≡ Ok (Not (Both And (Both Or pin_a pin_b) pin_c))
in_parentheses = refl

one_pin : expression_in (codes "!A & B[0]") ≡ Ok (Both And (Not pin_a) pin_b)
one_pin = refl

cut_short : expression_in (codes "A &") ≡ Err 3
cut_short = refl

two_names : expression_in (codes "A B") ≡ Err 2
two_names = refl

empty_parentheses : expression_in (codes "A|()") ≡ Err 3
empty_parentheses = refl
