use Rattle.std.proofs.Common.{◌∙◌, ap, sym, arith, false, ◌==◌}
use Rattle.std.specs.Option.{option_map_or}
use Rattle.std.specs.Str.{bytes_eq}
use Rattle.std.proofs.lemmas.Nat.Bits.{bit_at-zero}
use Rattle.eco_func.specs.Tables.{bit}
use Rattle.eco_func.proofs.Places.{place_is}
use Rattle.eco_func.proofs.expression.column_of.Goals as goal

pub input_column-requires : goal.input_column-requires
input_column-requires c =
    let p = place_is (λ input. bytes_eq input c.args.name.now) c.args.inputs.now c.in-Some.place (sym c.input_place.ensures ∙ c.in-Some.is) in
    omega (arith, p.1, c.requires)

pub returns-in-Some : goal.returns-in-Some
returns-in-Some c = λ r h. c.input_column.ensures r h ∙ ap (λ o. option_map_or (λ i. bit r i) o false) (sym c.in-Some.is ∙ c.input_place.ensures)

pub returns-in-None : goal.returns-in-None
returns-in-None c = λ r h. ap (λ x. x == 1) (bit_at-zero r) ∙ ap (λ o. option_map_or (λ i. bit r i) o false) (sym c.in-None.is ∙ c.input_place.ensures)
