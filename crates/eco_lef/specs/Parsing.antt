-- Reading words from left to right, with the faults of a library: a value and the words after it, or the first fault.
-- Each reading knows the name of the block that it stands in: a text that is cut off there reports this name.
use Rattle.std.specs.Prelude.{ℕ, zero, suc, Bool, List, [], ◌∷◌, ◌++◌, Option, Some, None, Result, Ok, Err, if◌then◌else◌}
use Rattle.eco_text.specs.Tokens.{is_name}
use Rattle.eco_text.specs.Words.{Token, Walk, finished, open_quote, word_then}
use Rattle.eco_text.specs.Parsing as words
use Rattle.eco_text.specs.declared.word.TextFault.TheVariants.{OpenQuote}
use Rattle.eco_lef.specs.declared.fault.LefFault.{LefFault}
use Rattle.eco_lef.specs.declared.fault.LefFault.TheVariants.{Text, Unended, TwiceNamed, TooManyMasters, BadStatement}
pub use Rattle.eco_text.specs.Parsing.{begins, bytes_ahead, word_count}

-- the faults that any reading within a block may have
abbrev pub faults : List ℕ → words.Faults LefFault
faults inside = record { unended = λ place. Unended inside; unclosed = λ place. Text (OpenQuote place); bad_word = BadStatement }

abbrev pub Parser : Type 0 → Type 0
Parser A = words.Parser LefFault A

abbrev pub then_read : {A B : Type 0} → Result (A × Walk) LefFault → (A → Parser B) → Result (B × Walk) LefFault
then_read r f = words.then_read r f

infixl 10 ◌>>=◌
abbrev pub ◌>>=◌ : {A B : Type 0} → Parser A → (A → Parser B) → Parser B
◌>>=◌ p f u = then_read (p u) f

abbrev pub give : {A : Type 0} → A → Parser A
give x u = words.give x u

abbrev pub fault_at : List ℕ → (ℕ → LefFault) → Walk → LefFault
fault_at inside fault u = words.fault_at (faults inside) fault u

abbrev pub refuse : {A : Type 0} → List ℕ → (ℕ → LefFault) → Parser A
refuse inside fault u = words.refuse (faults inside) fault u

abbrev pub any : List ℕ → Parser Token
any inside u = words.any (faults inside) u

-- one word, if there is one
abbrev pub pass_one : Parser (Unit {0})
pass_one (finished place) = Ok (tt, finished place)
pass_one (open_quote place) = Err (Text (OpenQuote place))
pass_one (word_then w u) = Ok (tt, u)

abbrev pub choose : {A : Type 0} → (Token → Bool) → Parser A → Parser A → Parser A
choose p yes' no' u = words.choose p yes' no' u

abbrev pub next : List ℕ → (Token → Bool) → Parser Token
next inside p u = words.next (faults inside) p u

abbrev pub word : List ℕ → List ℕ → Parser Token
word inside keyword u = words.word (faults inside) keyword u

abbrev pub name : List ℕ → Parser Token
name inside u = words.name (faults inside) u

-- a name that isn't known yet, where there is room for it
abbrev pub unused_name : List ℕ → Bool → Bool → Parser Token
unused_name inside known full = choose is_name (if known then refuse inside TwiceNamed else if full then refuse inside TooManyMasters else any inside) (refuse inside BadStatement)

abbrev pub new_name : List ℕ → (List ℕ → Bool) → Bool → Parser Token
new_name inside known full u = unused_name inside (known (bytes_ahead u)) full u

abbrev pub valued_as : {A : Type 0} → List ℕ → Option A → Parser A
valued_as inside o u = words.valued_as (faults inside) o u

abbrev pub valued : {A : Type 0} → List ℕ → (List ℕ → Option A) → Parser A
valued inside f u = words.valued (faults inside) f u

abbrev pub pass_to : List ℕ → (Token → Bool) → Parser Token
pass_to inside p u = words.pass_to (faults inside) p u

abbrev pub pass_to_both : List ℕ → (Token → Bool) → (Token → Bool) → Parser Token
pass_to_both inside p q u = words.pass_to_both (faults inside) p q u

-- the statements so far, where there is none more, and else those that follow
abbrev pub then_more : {A : Type 0} → (List A → Parser (List A)) → List A → Option A → Parser (List A)
then_more more xs None = give xs
then_more more xs (Some x) = more (xs ++ x ∷ [])

-- Statements one after another, at most n of them, up to the end, which is none. A statement's reading knows those before it.
abbrev pub many_for : {A : Type 0} → ℕ → List ℕ → (List A → Parser (Option A)) → List A → Parser (List A)
many_for zero inside item xs u = refuse inside BadStatement u
many_for (suc n) inside item xs u = then_read (item xs u) (then_more (many_for n inside item) xs)

-- statements up to the end. Each takes a word at least, so there are no more than words.
abbrev pub many : {A : Type 0} → List ℕ → (List A → Parser (Option A)) → Parser (List A)
many inside item u = many_for (suc (word_count u)) inside item [] u
