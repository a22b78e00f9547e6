-- What a reader of a library has left, and what its calls do.
use Rattle.std.specs.Prelude.{◌≡◌, ℕ, Bool, true, false, List, Result}
use Rattle.eco_text.specs.Words.{Walk}
use Rattle.eco_text.specs.Reading as words
use Rattle.eco_lef.specs.Parsing.{Parser}
use Rattle.eco_lef.specs.declared.fault.LefFault.{LefFault}
use Rattle.eco_lef.specs.declared.fault.LefFault.TheVariants.{Text, Unended, TwiceNamed, TooManyMasters, ArrayBlock, BadStatement, Memory}
pub use Rattle.eco_text.specs.Reading.{Reading, left, LiesIn, IsReading, as_is}

abbrev pub is_memory : LefFault → Bool
is_memory Memory = true
is_memory (Text t) = false
is_memory (Unended n) = false
is_memory (TwiceNamed p) = false
is_memory (TooManyMasters p) = false
is_memory (ArrayBlock p) = false
is_memory (BadStatement p) = false

-- The fault is this one, unless memory ran out.
abbrev pub Tells : LefFault → LefFault → Type 0
Tells fault e = words.Unless (is_memory e) (fault ≡ e)

-- What is read is this fault, unless memory ran out.
abbrev pub Refuses : {A : Type 0} → Result A LefFault → LefFault → Type 0
Refuses parsed e = words.Refuses is_memory parsed e

abbrev pub Gives : {A B : Type 0} → (B → A) → Result (A × Walk) LefFault → Result B LefFault → Walk → Type 0
Gives view parsed result rest = words.Gives is_memory view parsed result rest

abbrev pub Reads : {A B : Type 0} → ℕ → (List ℕ → B → A) → Parser A → Reading → Reading → Result B LefFault → Type 0
Reads n view parser old new result = words.Reads is_memory n view parser old new result
