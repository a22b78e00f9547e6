-- Reading words from left to right, with the faults of a design: a value and the words after it, or the first fault.
use Rattle.std.specs.Prelude.{ℕ, zero, suc, not, Bool, true, List, [], ◌∷◌, ◌++◌, Option, Result, Ok, if◌then◌else◌}
use Rattle.eco_text.specs.Tokens.{is_name}
use Rattle.eco_text.specs.Words.{Token, Walk}
use Rattle.eco_text.specs.Parsing as words
use Rattle.eco_text.specs.declared.word.TextFault.TheVariants.{OpenQuote}
use Rattle.eco_def.specs.declared.fault.DefFault.{DefFault}
use Rattle.eco_def.specs.declared.fault.DefFault.TheVariants.{Text, Unended, BadStatement, TwiceNamed, Limit}
pub use Rattle.eco_text.specs.Parsing.{begins, bytes_ahead, word_count as size}

-- the faults that any reading may have
abbrev pub faults : words.Faults DefFault
faults = record { unended = Unended; unclosed = λ place. Text (OpenQuote place); bad_word = BadStatement }

abbrev pub Parser : Type 0 → Type 0
Parser A = words.Parser DefFault A

abbrev pub then_read : {A B : Type 0} → Result (A × Walk) DefFault → (A → Parser B) → Result (B × Walk) DefFault
then_read r f = words.then_read r f

infixl 10 ◌>>=◌
abbrev pub ◌>>=◌ : {A B : Type 0} → Parser A → (A → Parser B) → Parser B
◌>>=◌ p f u = then_read (p u) f

abbrev pub give : {A : Type 0} → A → Parser A
give x u = words.give x u

abbrev pub refuse : {A : Type 0} → (ℕ → DefFault) → Parser A
refuse fault u = words.refuse faults fault u

abbrev pub any : Parser Token
any u = words.any faults u

abbrev pub choose : {A : Type 0} → (Token → Bool) → Parser A → Parser A → Parser A
choose p yes' no' u = words.choose p yes' no' u

abbrev pub next : (Token → Bool) → Parser Token
next p u = words.next faults p u

abbrev pub word : List ℕ → Parser Token
word keyword u = words.word faults keyword u

abbrev pub name : Parser Token
name u = words.name faults u

abbrev pub valued_as : {A : Type 0} → Option A → Parser A
valued_as o u = words.valued_as faults o u

abbrev pub valued : {A : Type 0} → (List ℕ → Option A) → Parser A
valued f u = words.valued faults f u

abbrev pub pass_to : (Token → Bool) → Parser Token
pass_to p u = words.pass_to faults p u

abbrev pub pass_to_both : (Token → Bool) → (Token → Bool) → Parser Token
pass_to_both p q u = words.pass_to_both faults p q u

-- a reading for which there is room; where there is none, the fault is Limit
abbrev pub where_room : {A : Type 0} → Bool → Parser A → Parser A
where_room room p u = if room then p u else refuse Limit u

-- a name that isn't known yet, and for which there is room
abbrev pub new_name_within : Bool → (List ℕ → Bool) → Parser Token
new_name_within room known = choose is_name (choose (λ w. known w.bytes) (refuse TwiceNamed) (where_room room any)) (refuse BadStatement)

abbrev pub new_name : (List ℕ → Bool) → Parser Token
new_name = new_name_within true

-- Values one after another while the next word passes a test, at most n of them. A value's reading knows those before it.
abbrev pub many_for : {A : Type 0} → ℕ → (Token → Bool) → (List A → Parser A) → List A → Parser (List A)
many_for zero goes item xs u = refuse BadStatement u
many_for (suc n) goes item xs u = if begins goes u then then_read (item xs u) (λ x. many_for n goes item (xs ++ x ∷ [])) else Ok (xs, u)

-- Values one after another while the next word passes a test. Each takes a word at least, so there are no more than words.
abbrev pub many : {A : Type 0} → (Token → Bool) → (List A → Parser A) → Parser (List A)
many goes item u = many_for (suc (size u)) goes item [] u

-- values one after another up to a word
abbrev pub many_until : {A : Type 0} → (Token → Bool) → (List A → Parser A) → Parser (List A)
many_until stops item = many (λ w. not (stops w)) item
