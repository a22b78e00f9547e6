-- Reading words from left to right: a value and the words after it, or the first fault. Each format has faults of its own.
use Rattle.std.specs.Prelude.{ℕ, suc, ◌&&◌, Bool, false, List, [], Option, Some, None, Result, Ok, Err, if◌then◌else◌}
use Rattle.eco_text.specs.Tokens.{is_word, is_name}
use Rattle.eco_text.specs.Words.{Token, Walk, finished, open_quote, word_then}

-- what reads a value: the value and the words after it, or the first fault
abbrev pub Parser : Type 0 → Type 0 → Type 0
Parser F A = Walk → Result (A × Walk) F

abbrev pub then_read : {F A B : Type 0} → Result (A × Walk) F → (A → Parser F B) → Result (B × Walk) F
then_read (Ok x) f = f x.0 x.1
then_read (Err e) f = Err e

infixl 10 ◌>>=◌
abbrev pub ◌>>=◌ : {F A B : Type 0} → Parser F A → (A → Parser F B) → Parser F B
◌>>=◌ p f u = then_read (p u) f

-- a value, and no word
abbrev pub give : {F A : Type 0} → A → Parser F A
give x u = Ok (x, u)

-- The faults of a format that any reading may have, each by its place: the text ends too early, a quoted word doesn't end, a word can't stand there.
pub record Faults (F : Type 0) : Type 0 where
  pub unended : ℕ → F
  pub unclosed : ℕ → F
  pub bad_word : ℕ → F

-- The fault at the next word. A text that ends there is cut off, whatever the fault.
abbrev pub fault_at : {F : Type 0} → Faults F → (ℕ → F) → Walk → F
fault_at faults fault (finished place) = faults.unended place
fault_at faults fault (open_quote place) = faults.unclosed place
fault_at faults fault (word_then w u) = fault w.start

abbrev pub refuse : {F A : Type 0} → Faults F → (ℕ → F) → Parser F A
refuse faults fault u = Err (fault_at faults fault u)

-- the next word passes a test
abbrev pub begins : (Token → Bool) → Walk → Bool
begins p (finished place) = false
begins p (open_quote place) = false
begins p (word_then w u) = p w

-- the next word, whatever it is
abbrev pub any : {F : Type 0} → Faults F → Parser F Token
any faults (finished place) = Err (faults.unended place)
any faults (open_quote place) = Err (faults.unclosed place)
any faults (word_then w u) = Ok (w, u)

-- one of two readings, by the next word
abbrev pub choose : {F A : Type 0} → (Token → Bool) → Parser F A → Parser F A → Parser F A
choose p yes' no' u = if begins p u then yes' u else no' u

-- the next word, where it passes a test
abbrev pub next : {F : Type 0} → Faults F → (Token → Bool) → Parser F Token
next faults p = choose p (any faults) (refuse faults faults.bad_word)

abbrev pub word : {F : Type 0} → Faults F → List ℕ → Parser F Token
word faults keyword = next faults (is_word keyword)

abbrev pub name : {F : Type 0} → Faults F → Parser F Token
name faults = next faults is_name

-- the bytes of the next word, and none where there is none
abbrev pub bytes_ahead : Walk → List ℕ
bytes_ahead (finished place) = []
bytes_ahead (open_quote place) = []
bytes_ahead (word_then w u) = w.bytes

abbrev pub valued_as : {F A : Type 0} → Faults F → Option A → Parser F A
valued_as faults None = refuse faults faults.bad_word
valued_as faults (Some x) = any faults >>= λ w. give x

-- the next word, where its bytes have a value
abbrev pub valued : {F A : Type 0} → Faults F → (List ℕ → Option A) → Parser F A
valued faults f u = valued_as faults (f (bytes_ahead u)) u

-- the words up to one that passes a test, and that one
abbrev pub pass_to : {F : Type 0} → Faults F → (Token → Bool) → Parser F Token
pass_to faults p (finished place) = Err (faults.unended place)
pass_to faults p (open_quote place) = Err (faults.unclosed place)
pass_to faults p (word_then w u) = if p w then Ok (w, u) else pass_to faults p u

-- the words up to one that passes the first test and a next one that passes the second, and those two
abbrev pub pass_to_both : {F : Type 0} → Faults F → (Token → Bool) → (Token → Bool) → Parser F Token
pass_to_both faults p q (finished place) = Err (faults.unended place)
pass_to_both faults p q (open_quote place) = Err (faults.unclosed place)
pass_to_both faults p q (word_then w u) = if p w && begins q u then any faults u else pass_to_both faults p q u

abbrev pub word_count : Walk → ℕ
word_count (finished place) = 0
word_count (open_quote place) = 0
word_count (word_then w u) = suc (word_count u)
