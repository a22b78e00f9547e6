-- A place in a text, and the words from there on.
use Rattle.std.specs.Prelude.{ℕ, ◌≡◌, ◌<◌, ◌≤◌, List, drop, length, slice_range, Option, Some, None, Result, Ok, Err}
use Rattle.eco_text.specs.Words.{Token, Walk, finished, open_quote, word_then, between, walk}
use Rattle.eco_text.specs.declared.word.Word.{Word}
use Rattle.eco_text.specs.declared.word.TextFault.{TextFault}
use Rattle.eco_text.specs.declared.word.TextFault.TheVariants.{OpenQuote}

pub record Cursor : Type 0 where
  pub text : List ℕ
  pub at : ℕ

-- the words from a place on, which stands between two words
abbrev pub from : List ℕ → ℕ → Walk
from text at = walk between at (drop at text)

-- the words that a walk over a text has left
abbrev pub rest : Cursor → Walk
rest c = from c.text c.at

-- a word of the text, with its bytes
abbrev pub token : List ℕ → Word → Token
token text w = record { bytes = slice_range text w.start w.end; quoted = w.quoted; start = w.start; end = w.end }

-- the bytes of a word in its text
abbrev pub word_bytes : List ℕ → Word → List ℕ
word_bytes text w = (token text w).bytes

-- what was left before an answer, by what is left after it
abbrev pub after : List ℕ → Result (Option Word) TextFault → Walk → Walk
after text (Ok (Some w)) left = word_then (token text w) left
after text (Ok None) left = finished (length text)
after text (Err (OpenQuote place)) left = open_quote place

-- the word begins at start and lies in a text of n bytes
abbrev pub IsWithin : Word → ℕ → ℕ → Type 0
IsWithin w start n = (w.start ≡ start) × (start < w.end) × (w.end ≤ n)
