-- What the code reads of an expression.
use Rattle.std.specs.Prelude.{◌≡◌, ℕ, ◌<◌, ◌≤◌, ◌==◌, false, List, [], ◌∷◌, length, Result, Ok, Err}
use Rattle.std.specs.Borrow.{Bor}
use Rattle.std.specs.Option.{option_map}
use Rattle.eco_common.specs.declared.limits.TheConstants.{MAX_ROWS}
use Rattle.eco_func.specs.Tables.{bit}
use Rattle.eco_func.specs.Expressions.{Expression, Reader, expression_in, value_at, first_unknown}
use Rattle.eco_func.specs.declared.part.Part.{Part}

-- the part has the expression's values, and its first unknown name
pub record IsPart (inputs : List (List ℕ)) (e : Expression) (p : Part) : Type 0 where
  pub word : (r : ℕ) → r < MAX_ROWS → bit p.word r ≡ value_at inputs e r
  pub unknown : option_map (λ name. name.now) p.unknown ≡ first_unknown inputs e

-- the reader gives the part's expression, and leaves a shorter text
pub record IsPartRead (inputs : List (List ℕ)) (reader : Reader Expression) (text : List ℕ) (part : Part) (rest : List ℕ) : Type 0 where
  pub expression : Expression
  pub said : reader text ≡ Ok (expression, rest)
  pub is : IsPart inputs expression part
  pub shorter : length rest < length text

-- A part and the text after it, or the text from the first byte that can't go on.
abbrev pub Parses : List (List ℕ) → Reader Expression → List ℕ → Result (Part × Bor (List ℕ)) (Bor (List ℕ)) → Type 0
Parses inputs reader text (Ok p) = IsPartRead inputs reader text p.0 p.1.now
Parses inputs reader text (Err rest) = (reader text ≡ Err rest.now) × (length rest.now ≤ length text)

-- the text doesn't begin with the byte
abbrev pub DoesntBegin : ℕ → List ℕ → Type 0
DoesntBegin byte [] = Unit {0}
DoesntBegin byte (b ∷ bs) = (b == byte) ≡ false

-- The whole text is an expression, or has a first byte that can't go on.
abbrev pub IsParse : List (List ℕ) → List ℕ → Result Part ℕ → Type 0
IsParse inputs text (Ok p) = (e : Expression) × (expression_in text ≡ Ok e) × IsPart inputs e p
IsParse inputs text (Err place) = expression_in text ≡ Err place
