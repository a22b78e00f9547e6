-- Expressions over a master's inputs: names, then ! & ^ | in falling strength, parentheses, and blanks anywhere between.
use Rattle.std.specs.Prelude.{ℕ, zero, suc, ◌-◌, ◌/◌, ◌%◌, ◌^◌, ◌<◌, ◌≡◌, nat_le, Bool, false, not, ◌&&◌, ◌||◌, ◌==◌, if◌then◌else◌, List, [], ◌∷◌, ◌++◌, length, map, take, drop, Option, Result, Ok, Err}
use Rattle.std.specs.Char.{is_ascii_alphabetic, is_ascii_digit}
use Rattle.std.specs.List.{list_any, position, position_or_len, find, range_with_len}
use Rattle.std.specs.Option.{option_map_or}
use Rattle.std.specs.Str.{byte, bytes_eq}
use Rattle.eco_common.specs.declared.limits.TheConstants.{MAX_EXPRESSION_BYTES, MAX_EXPRESSION_DEPTH}
use Rattle.eco_func.specs.declared.operator.Operator.{Operator}
use Rattle.eco_func.specs.declared.operator.Operator.TheVariants.{And, Xor, Or}
use Rattle.eco_func.specs.Tables.{TruthTable, row, at}

pub data Expression : Type 0 where
  Input : (name : List ℕ) → Expression
  Not : (inner : Expression) → Expression
  Both : (operator : Operator) → (left right : Expression) → Expression

-- ---- what an expression says

abbrev pub differ : Bool → Bool → Bool
differ a b = if a then not b else b

abbrev pub applied : Operator → Bool → Bool → Bool
applied And a b = a && b
applied Xor a b = differ a b
applied Or a b = a || b

-- its value, where each name has a value
abbrev pub value : (List ℕ → Bool) → Expression → Bool
value v (Input name) = v name
value v (Not e) = not (value v e)
value v (Both o l r) = applied o (value v l) (value v r)

-- its names, from the left
abbrev pub names : Expression → List (List ℕ)
names (Input name) = name ∷ []
names (Not e) = names e
names (Both o l r) = names l ++ names r

-- the value of the input of a name at a row, and false where there is none
abbrev pub input_value : List (List ℕ) → ℕ → List ℕ → Bool
input_value inputs r name = option_map_or (λ i. r / 2 ^ i % 2 == 1) (position (λ input. bytes_eq input name) inputs) false

abbrev pub value_at : List (List ℕ) → Expression → ℕ → Bool
value_at inputs e r = value (input_value inputs r) e

-- the table of an expression: its value at each row
abbrev pub table_by : List (List ℕ) → Expression → TruthTable
table_by inputs e = record { inputs = length inputs; bits = row (map (value_at inputs e) (range_with_len 0 (2 ^ length inputs))) }

-- The table of an expression has its value at each row.
abbrev pub TablesAreValues : Type 0
TablesAreValues = (inputs : List (List ℕ)) (e : Expression) (r : ℕ) → r < 2 ^ length inputs → at (table_by inputs e) r ≡ value_at inputs e r

-- the first name that is no input
abbrev pub first_unknown : List (List ℕ) → Expression → Option (List ℕ)
first_unknown inputs e = find (λ name. not (list_any (λ input. bytes_eq input name) inputs)) (names e)

-- ---- how an expression is written

-- What reads a part of a text: its value and the text after it, or the text from the first byte that can't go on.
abbrev pub Reader : Type 0 → Type 0
Reader A = List ℕ → Result (A × List ℕ) (List ℕ)

abbrev pub then_read : {A B : Type 0} → Result (A × List ℕ) (List ℕ) → (A → Reader B) → Result (B × List ℕ) (List ℕ)
then_read (Ok x) f = f x.0 x.1
then_read (Err text) f = Err text

-- the text from its first byte that is no blank
abbrev pub behind_blanks : List ℕ → List ℕ
behind_blanks [] = []
behind_blanks (b ∷ bs) = if b == 32 then behind_blanks bs else b ∷ bs

-- a name begins with a letter or _, and goes on with letters, digits, _, [ and ]
abbrev pub begins_name : ℕ → Bool
begins_name b = is_ascii_alphabetic b || b == byte "_"

abbrev pub goes_on : ℕ → Bool
goes_on b = begins_name b || is_ascii_digit b || b == byte "[" || b == byte "]"

abbrev pub name : Reader Expression
name [] = Err []
name (b ∷ bs) = let n = position_or_len (λ c. not (goes_on c)) bs in if begins_name b then Ok (Input (b ∷ take n bs), drop n bs) else Err (b ∷ bs)

-- a byte, after blanks
abbrev pub closed : Expression → Reader Expression
closed e [] = Err []
closed e (b ∷ bs) = if b == byte ")" then Ok (e, bs) else Err (b ∷ bs)

abbrev pub mark : Operator → ℕ
mark And = byte "&"
mark Xor = byte "^"
mark Or = byte "|"

-- one part, and then each further part after the operator, at most n of them
abbrev pub chain_for : ℕ → Operator → Reader Expression → Expression → List ℕ → Result (Expression × List ℕ) (List ℕ)
chain_for zero o part left text = Ok (left, text)
chain_for (suc n) o part left [] = Ok (left, [])
chain_for (suc n) o part left (b ∷ bs) = if b == mark o then then_read (part bs) (λ right rest. chain_for n o part (Both o left right) (behind_blanks rest)) else Ok (left, b ∷ bs)

-- Parts with an operator between them, taken together from the left. Each part has a byte at least, so there are no more than bytes.
abbrev pub chain : Operator → Reader Expression → Reader Expression
chain o part text = then_read (part text) (λ left rest. chain_for (suc (length rest)) o part left (behind_blanks rest))

-- what a chain of an operator has for parts: chains of the next stronger one, and of & single operands
abbrev pub part_of : Operator → Reader Expression → Reader Expression
part_of And operand = operand
part_of Xor operand = chain And operand
part_of Or operand = chain Xor (chain And operand)

abbrev pub sum : Reader Expression → Reader Expression
sum operand = chain Or (part_of Or operand)

-- ! and parentheses have operands of their own inside
abbrev pub operand_with : Reader Expression → Reader Expression
operand_with inner [] = Err []
operand_with inner (b ∷ bs) =
    if b == byte "!" then then_read (inner bs) (λ e rest. Ok (Not e, rest))
    else if b == byte "(" then then_read (sum inner bs) closed
    else name (b ∷ bs)

-- an operand in which ! and parentheses nest at most n deep
abbrev pub operand : ℕ → Reader Expression
operand zero text = name (behind_blanks text)
operand (suc n) text = operand_with (operand n) (behind_blanks text)

-- what is left over can't go on
abbrev pub ended : Expression → List ℕ → Result Expression (List ℕ)
ended e [] = Ok e
ended e (b ∷ bs) = Err (b ∷ bs)

abbrev pub whole : Result (Expression × List ℕ) (List ℕ) → Result Expression (List ℕ)
whole (Ok x) = ended x.0 x.1
whole (Err rest) = Err rest

-- the place in n bytes at which so many are left
abbrev pub placed : ℕ → Bool → Result Expression (List ℕ) → Result Expression ℕ
placed n short (Ok e) = if short then Ok e else Err n
placed n short (Err rest) = Err (n - length rest)

-- An expression within the limits, or the place of the first byte that can't go on. The byte after the last that it may have can't.
abbrev pub expression_in : List ℕ → Result Expression ℕ
expression_in text = placed (length (take MAX_EXPRESSION_BYTES text)) (nat_le (length text) MAX_EXPRESSION_BYTES) (whole (sum (operand MAX_EXPRESSION_DEPTH) (take MAX_EXPRESSION_BYTES text)))
