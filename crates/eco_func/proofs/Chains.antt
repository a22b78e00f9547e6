-- Reading parts with an operator between them.
use Rattle.std.proofs.Common.{◌≡◌, ℕ, zero, suc, ◌<◌, ◌≤◌, ◌==◌, cond, List, [], ◌∷◌, length, Result, Ok, Err, refl, ap, ◌∙◌, sym, arith, Bor}
use Rattle.eco_func.specs.declared.operator.Operator.{Operator}
use Rattle.eco_func.specs.declared.operator.Operator.TheVariants.{And, Xor, Or}
use Rattle.eco_func.specs.declared.part.Part.{Part}
use Rattle.eco_func.specs.Expressions.{Expression, Not, Both, Reader, behind_blanks, then_read, mark, chain, chain_for, name, closed, sum, operand_with, operand}
use Rattle.eco_func.specs.Parts.{IsPart, IsPartRead, DoesntBegin, Parses}

-- a number that falls with each call of the reader
abbrev pub rank : Operator → ℕ
rank And = 0
rank Xor = 1
rank Or = 2

-- what was read of a chain, and what is left
pub record InChain (inputs : List (List ℕ)) (o : Operator) (reader : Reader Expression) (text : List ℕ) (left : Part) (rest : List ℕ) : Type 0 where
  pub expression : Expression
  pub fuel : ℕ
  pub room : length rest < fuel
  pub said : chain o reader text ≡ chain_for fuel o reader expression rest
  pub is : IsPart inputs expression left
  pub shorter : length rest < length text

module _ (inputs : List (List ℕ)) (o : Operator) (reader : Reader Expression) (text : List ℕ) where
  -- the first part
  pub begun : (left : Part) (rest behind : List ℕ) → IsPartRead inputs reader text left rest → behind ≡ behind_blanks rest → length behind ≤ length rest → InChain inputs o reader text left behind
  begun left rest behind is same less = record {
    expression = is.expression;
    fuel = suc (length rest);
    room = omega (arith, less);
    said = ap (λ r. then_read r (λ left rest. chain_for (suc (length rest)) o reader left (behind_blanks rest))) is.said ∙ ap (chain_for (suc (length rest)) o reader is.expression) (sym same);
    is = is.is;
    shorter = omega (arith, less, is.shorter);
  }

  matched : (fuel : ℕ) (e : Expression) (more : List ℕ) → chain_for (suc fuel) o reader e (mark o ∷ more) ≡ then_read (reader more) (λ right rest. chain_for fuel o reader (Both o e right) (behind_blanks rest))
  matched fuel e more = go o
    where
      go : (o : Operator) → chain_for (suc fuel) o reader e (mark o ∷ more) ≡ then_read (reader more) (λ right rest. chain_for fuel o reader (Both o e right) (behind_blanks rest))
      go And = refl
      go Xor = refl
      go Or = refl

  -- one more part
  pub further : (left right now : Part) (rest more rest' behind : List ℕ) → InChain inputs o reader text left rest → rest ≡ mark o ∷ more → IsPartRead inputs reader more right rest'
      → ((inputs : List (List ℕ)) (l r : Expression) → IsPart inputs l left → IsPart inputs r right → IsPart inputs (Both o l r) now)
      → behind ≡ behind_blanks rest' → length behind ≤ length rest' → InChain inputs o reader text now behind
  further left right now rest more rest' behind i front is joins same less = by_fuel i.fuel i.said i.room
    where
      by_fuel : (fuel : ℕ) → chain o reader text ≡ chain_for fuel o reader i.expression rest → length rest < fuel → InChain inputs o reader text now behind
      by_fuel zero said room = absurd (omega (arith, room))
      by_fuel (suc fuel) said room =
          let count : length rest ≡ suc (length more) = ap length front in
          record {
            expression = Both o i.expression is.expression;
            fuel = fuel;
            room = omega (arith, room, count, is.shorter, less);
            said =
                said ∙ ap (chain_for (suc fuel) o reader i.expression) front ∙ matched fuel i.expression more
                ∙ ap (λ r. then_read r (λ right rest. chain_for fuel o reader (Both o i.expression right) (behind_blanks rest))) is.said
                ∙ ap (chain_for fuel o reader (Both o i.expression is.expression)) (sym same);
            is = joins inputs i.expression is.expression i.is is.is;
            shorter = omega (arith, i.shorter, count, is.shorter, less);
          }

  -- a further part that can't be read
  pub refused : (left : Part) (rest more rest' : List ℕ) → InChain inputs o reader text left rest → rest ≡ mark o ∷ more → (reader more ≡ Err rest') × (length rest' ≤ length more) → (chain o reader text ≡ Err rest') × (length rest' ≤ length text)
  refused left rest more rest' i front is = (by_fuel i.fuel i.said i.room, let count : length rest ≡ suc (length more) = ap length front in omega (arith, i.shorter, count, is.1))
    where
      by_fuel : (fuel : ℕ) → chain o reader text ≡ chain_for fuel o reader i.expression rest → length rest < fuel → chain o reader text ≡ Err rest'
      by_fuel zero said room = absurd (omega (arith, room))
      by_fuel (suc fuel) said room =
          said ∙ ap (chain_for (suc fuel) o reader i.expression) front ∙ matched fuel i.expression more
          ∙ ap (λ r. then_read r (λ right rest. chain_for fuel o reader (Both o i.expression right) (behind_blanks rest))) is.0

  -- no further part
  pub ended : (left : Part) (rest : List ℕ) → InChain inputs o reader text left rest → DoesntBegin (mark o) rest → IsPartRead inputs (chain o reader) text left rest
  ended left rest i stops = record {
    expression = i.expression;
    said = i.said ∙ by_fuel i.fuel rest i.room stops;
    is = i.is;
    shorter = i.shorter;
  }
    where
      by_fuel : (fuel : ℕ) (rest : List ℕ) → length rest < fuel → DoesntBegin (mark o) rest → chain_for fuel o reader i.expression rest ≡ Ok (i.expression, rest)
      by_fuel zero rest room s = absurd (omega (arith, room))
      by_fuel (suc fuel) [] room s = refl
      by_fuel (suc fuel) (b ∷ bs) room s = ap (λ t. cond t (then_read (reader bs) (λ right rest. chain_for fuel o reader (Both o i.expression right) (behind_blanks rest))) (Ok (i.expression, b ∷ bs))) s

-- ---- operands

-- what a reader gives that goes on like another
pub moved : (inputs : List (List ℕ)) (reader other : Reader Expression) (text more : List ℕ) → reader text ≡ other more → length more ≤ length text
    → (r : Result (Part × Bor (List ℕ)) (Bor (List ℕ))) → Parses inputs other more r → Parses inputs reader text r
moved inputs reader other text more same less (Ok p) is = record { expression = is.expression; said = same ∙ is.said; is = is.is; shorter = omega (arith, less, is.shorter) }
moved inputs reader other text more same less (Err rest) is = (same ∙ is.0, omega (arith, less, is.1))

module _ (depth n : ℕ) (deep : depth ≡ suc n) (text behind : List ℕ) (same : behind ≡ behind_blanks text) where
  at_depth : operand depth text ≡ operand_with (operand n) behind
  at_depth = ap (λ d. operand d text) deep ∙ ap (operand_with (operand n)) (sym same)

  pub turned : (rest : List ℕ) → behind ≡ 33 ∷ rest → operand depth text ≡ then_read (operand n rest) (λ e rest. Ok (Not e, rest))
  turned rest front = at_depth ∙ ap (operand_with (operand n)) front

  pub nested : (rest : List ℕ) → behind ≡ 40 ∷ rest → operand depth text ≡ then_read (sum (operand n) rest) closed
  nested rest front = at_depth ∙ ap (operand_with (operand n)) front

  pub plain : DoesntBegin 33 behind → DoesntBegin 40 behind → operand depth text ≡ name behind
  plain s t = at_depth ∙ go behind s t
    where
      go : (b : List ℕ) → DoesntBegin 33 b → DoesntBegin 40 b → operand_with (operand n) b ≡ name b
      go [] s t = refl
      go (b ∷ bs) s t =
          ap (λ x. cond x (then_read (operand n bs) (λ e rest. Ok (Not e, rest))) (cond (b == 40) (then_read (sum (operand n) bs) closed) (name (b ∷ bs)))) s
          ∙ ap (λ x. cond x (then_read (sum (operand n) bs) closed) (name (b ∷ bs))) t
