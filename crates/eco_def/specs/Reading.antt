-- What a reader of a design has left, and what its calls do.
use Rattle.std.specs.Prelude.{ℕ, Bool, true, false, List, Result}
use Rattle.eco_text.specs.Words.{Walk}
use Rattle.eco_text.specs.Reading as words
use Rattle.eco_def.specs.Parsing.{Parser}
use Rattle.eco_def.specs.declared.fault.DefFault.{DefFault}
use Rattle.eco_def.specs.declared.fault.DefFault.TheVariants.{Text, UnknownHeading, Unended, BadStatement, TwiceNamed, MustJoin, Limit, Missing, Memory}
pub use Rattle.eco_text.specs.Reading.{Reading, left, LiesIn, IsReading, IsInOrder, IsAhead, as_is}

abbrev pub is_memory : DefFault → Bool
is_memory Memory = true
is_memory (Text t) = false
is_memory (UnknownHeading p) = false
is_memory (Unended p) = false
is_memory (BadStatement p) = false
is_memory (TwiceNamed p) = false
is_memory (MustJoin p) = false
is_memory (Limit p) = false
is_memory (Missing s) = false

-- There is this fault, unless memory ran out.
abbrev pub Refuses : {A : Type 0} → Result A DefFault → DefFault → Type 0
Refuses parsed e = words.Refuses is_memory parsed e

abbrev pub Gives : {A B : Type 0} → (B → A) → Result (A × Walk) DefFault → Result B DefFault → Walk → Type 0
Gives view parsed result rest = words.Gives is_memory view parsed result rest

abbrev pub Reads : {A B : Type 0} → ℕ → (List ℕ → B → A) → Parser A → Reading → Reading → Result B DefFault → Type 0
Reads n view parser old new result = words.Reads is_memory n view parser old new result
