-- Words that are passed over.
use Rattle.std.proofs.Common.{◌≡◌, ℕ, List, Bool, true, false, not, ◌&&◌, Result, Ok, Err, ap, if◌then◌else◌}
use Rattle.eco_text.specs.Words.{Token, Walk, finished, open_quote, word_then}
use Rattle.eco_text.specs.declared.word.TextFault.TheVariants.{OpenQuote}
use Rattle.eco_text.proofs.Calls as words
use Rattle.eco_def.specs.declared.fault.DefFault.{DefFault}
use Rattle.eco_def.specs.declared.fault.DefFault.TheVariants.{Text, Unended}
use Rattle.eco_def.specs.Parsing.{Parser, faults, begins, any, next, refuse, pass_to, pass_to_both}
use Rattle.eco_def.specs.Reading.{Reading, left, Reads, Refuses, is_memory}

-- one word more
pub pass_on : (p : Token → Bool) (u v : Walk) (w : Token) → true ≡ begins (λ w. not (p w)) u → any u ≡ Ok (w, v) → pass_to p u ≡ pass_to p v
pass_on p u v w on is = words.pass_on faults p u v w on is

-- the last word
pub pass_ends : (p : Token → Bool) (u : Walk) → false ≡ begins (λ w. not (p w)) u → pass_to p u ≡ next p u
pass_ends p u off = words.pass_ends faults p u off

-- a fault at the next word is the same, whatever was to be read there
pub refuse_as : {A B : Type 0} (fault : ℕ → DefFault) (u : Walk) (e : DefFault) → refuse {A = A} fault u ≡ Err e → refuse {A = B} fault u ≡ Err e
refuse_as fault (finished place) e is = ap Err (let d : Unended place ≡ e = cc in d)
refuse_as fault (open_quote place) e is = ap Err (let d : Text (OpenQuote place) ≡ e = cc in d)
refuse_as fault (word_then w u) e is = ap Err (let d : fault w.start ≡ e = cc in d)

-- a reading that fails as another does
pub refuses_as : {A B : Type 0} (parsed : Result A DefFault) (again : Result B DefFault) (e : DefFault) → ((k : DefFault) → parsed ≡ Err k → again ≡ Err k) → Refuses parsed e → Refuses again e
refuses_as parsed again e same is = words.refuses_as is_memory parsed again e same is

pub refused : {A : Type 0} (parsed : Result A DefFault) (e : DefFault) → parsed ≡ Err e → Refuses parsed e
refused parsed e is = words.refused is_memory parsed e is

-- a reading that is refused at once
pub stays_refused : {A B : Type 0} (n : ℕ) (view : List ℕ → B → A) (parser : Parser A) (old : Reading) (e : DefFault) → parser (left old) ≡ Err e → Reads n view parser old old (Err e)
stays_refused n view parser old e is = words.stays_refused is_memory n view parser old e is

-- a reading by one rule is one by another that gives the same here
pub reads_as : {A B : Type 0} (n : ℕ) (view : List ℕ → B → A) (p q : Parser A) (old new : Reading) (r : Result B DefFault) → p (left old) ≡ q (left old) → Reads n view p old new r → Reads n view q old new r
reads_as n view p q old new r same reads = words.reads_as is_memory n view p q old new r same reads

-- ---- up to two words

-- the reading, where the first of the two words may have gone by
abbrev pub pass_on_from : Bool → (Token → Bool) → (Token → Bool) → Parser Token
pass_on_from behind p q u = if behind && begins q u then any u else pass_to_both p q u

-- one word more
pub pass_both_on : (behind : Bool) (p q : Token → Bool) (u v : Walk) (w : Token) → (behind && begins q u) ≡ false → any u ≡ Ok (w, v) → pass_on_from behind p q u ≡ pass_on_from (begins p u) p q v
pass_both_on behind p q (finished place) v w off is = cc
pass_both_on behind p q (open_quote place) v w off is = cc
pass_both_on behind p q (word_then t u) v w off is =
    let same : u ≡ v = ap (λ r. words.behind r v) is in
    rw off (ap (λ k. if p t && begins q k then any k else pass_to_both p q k) same)
