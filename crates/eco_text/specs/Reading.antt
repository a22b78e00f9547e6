-- What a reader has left, and what its calls do.
use Rattle.std.specs.Prelude.{◌≡◌, ℕ, ◌+◌, ◌<◌, ◌≤◌, ◌⊎◌, Bool, true, false, List, length, Option, Result, Ok, Err, OnOk, IfOk, IfSome, IsOkAnd, IsSome}
use Rattle.eco_common.specs.declared.limits.TheConstants.{MAX_DEF_BYTES}
use Rattle.eco_text.specs.Words.{Walk, finished, open_quote, word_then}
use Rattle.eco_text.specs.Cursor.{Cursor, from, after}
use Rattle.eco_text.specs.declared.word.Word.{Word}
use Rattle.eco_text.specs.declared.word.TextFault.{TextFault}
use Rattle.eco_text.specs.Parsing.{Parser, word_count}

-- a text, the word ahead, and the place after it
pub record Reading : Type 0 where
  pub text : List ℕ
  pub ahead : Result (Option Word) TextFault
  pub at : ℕ

-- the words that are left
abbrev pub left : Reading → Walk
left r = after r.text r.ahead (from r.text r.at)

-- a word lies in a text
abbrev pub LiesIn : List ℕ → Word → Type 0
LiesIn text w = (w.start < w.end) × (w.end ≤ length text)

pub record IsReading (text : List ℕ) (ahead : Result (Option Word) TextFault) (cursor : Cursor) : Type 0 where
  pub same : cursor.text ≡ text
  pub short : length text ≤ MAX_DEF_BYTES
  pub within : IfOk ahead (λ o. IfSome o (LiesIn text))

-- the words stand one after another, from lo on and up to hi
abbrev pub IsInOrder : ℕ → ℕ → Walk → Type 0
IsInOrder lo hi (finished place) = (lo ≤ place) × (place ≤ hi)
IsInOrder lo hi (open_quote place) = (lo ≤ place) × (place ≤ hi)
IsInOrder lo hi (word_then w u) = (lo ≤ w.start) × (w.start < w.end) × IsInOrder w.end hi u

-- a word was taken, and lies before the words that are left
abbrev pub IsAhead : Reading → Reading → Word → Type 0
IsAhead old new w = (lo hi : ℕ) → IsInOrder lo hi (left old) → (lo ≤ w.start) × (w.start < w.end) × IsInOrder w.end hi (left new)

-- The next word was taken, and none at the end of the text or at a quoted word that doesn't end.
pub record TakesWord (old new : Reading) (result : Result (Option Word) TextFault) : Type 0 where
  pub text : new.text ≡ old.text
  pub ahead : result ≡ old.ahead
  pub lies : IfOk result (λ o. IfSome o (LiesIn old.text))
  pub words : left old ≡ after old.text result (left new)
  pub stays : IsOkAnd result (λ o. IsSome o) ⊎ (new ≡ old)

-- this holds, unless memory ran out
abbrev pub Unless : Bool → Type 0 → Type 0
Unless true P = Unit {0}
Unless false P = P

-- What is read is this fault, unless memory ran out. The test says which faults are out of memory.
abbrev pub Refuses : {F A : Type 0} → (F → Bool) → Result A F → F → Type 0
Refuses is_memory parsed e = Unless (is_memory e) (parsed ≡ Err e)

-- What a reader answered, seen as a value of the grammar, and the words that it then has left, are what the parser gives.
abbrev pub Gives : {F A B : Type 0} → (F → Bool) → (B → A) → Result (A × Walk) F → Result B F → Walk → Type 0
Gives is_memory view parsed (Ok x) rest = parsed ≡ Ok (view x, rest)
Gives is_memory view parsed (Err e) rest = Refuses is_memory parsed e

-- A reader's call: it keeps the text, takes at least n words where it succeeds, leaves words in order, and answers what the parser gives.
pub record Reads {F A B : Type 0} (is_memory : F → Bool) (n : ℕ) (view : List ℕ → B → A) (parser : Parser F A) (old new : Reading) (result : Result B F) : Type 0 where
  pub text : new.text ≡ old.text
  pub shorter : OnOk result (word_count (left new) + n ≤ word_count (left old))
  pub order : (lo hi : ℕ) → IsInOrder lo hi (left old) → OnOk result (IsInOrder lo hi (left new))
  pub value : Gives is_memory (view old.text) (parser (left old)) result (left new)

-- a value that is seen as it is
abbrev pub as_is : {A : Type 0} → List ℕ → A → A
as_is text x = x
