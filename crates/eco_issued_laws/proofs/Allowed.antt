-- What is wanted of changes, with the words that they print.
use Rattle.std.specs.Prelude.{◌≡◌, ℕ, ◌==◌, Bool, true, false, List, [], ◌∷◌, ◌++◌, map, Option, codes}
use Rattle.std.specs.List.{AllByRecursion}
use Rattle.std.specs.Option.{option_map}
use Rattle.eco_text.specs.Words.{Token, is_blank, plain_word}
use Rattle.eco_text.specs.Tokens.{is_word, is_name}
use Rattle.eco_common.specs.NameBytes.{is_among}
use Rattle.eco_def.specs.Design.{Part, Nets}
use Rattle.eco_def.specs.Named.{NamedJoint}
use Rattle.eco_issued_laws.specs.Changes.{Changes, Fresh}

abbrev pub NoBlank : List ℕ → Type 0
NoBlank [] = Unit {0}
NoBlank (b ∷ bs) = (is_blank b ≡ false) × NoBlank bs

-- bytes that stand for a word which isn't quoted: no white space, and neither a comment nor a quoted word begins
abbrev pub IsWord : List ℕ → Type 0
IsWord [] = ⊥
IsWord (b ∷ bs) = (is_blank b ≡ false) × ((b == 35) ≡ false) × ((b == 34) ≡ false) × NoBlank bs

-- a word of these bytes
abbrev pub bare : List ℕ → Token
bare w = plain_word 0 w 0

-- bytes that stand for a name when they are printed
abbrev pub IsName : List ℕ → Type 0
IsName w = IsWord w × (is_name (bare w) ≡ true)

abbrev pub JointOk : NamedJoint → Type 0
JointOk j = IsName j.comp × IsName j.pin

abbrev pub AllJointsOk : List NamedJoint → Type 0
AllJointsOk = AllByRecursion JointOk

-- new nets have names that differ from each other and from those before them
abbrev pub FreshOk : List (List ℕ) → List Fresh → Type 0
FreshOk names [] = Unit {0}
FreshOk names (f ∷ fs) = IsName f.name × (is_word (codes "MUSTJOIN") (bare f.name) ≡ false) × (is_among names f.name ≡ false) × AllJointsOk f.joints × FreshOk (names ++ f.name ∷ []) fs

pub record ChangesOk (o : Changes) : Type 0 where
  pub added : (special : Bool) (n : List ℕ) → AllJointsOk (o.added special n)
  pub numeral : (n : ℕ) → IsWord (o.numeral n)

-- the count word of NETS isn't quoted, and the new nets are new
abbrev pub Allows : Changes → Part → Type 0
Allows o (Nets s) = (s.count.quoted ≡ false) × FreshOk (map (λ k. k.name.bytes) s.nets) o.fresh
Allows o _ = Unit {0}

abbrev pub usage_name : Option Token → Option (List ℕ)
usage_name o = option_map (λ w. w.bytes) o
