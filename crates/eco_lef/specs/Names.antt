-- Laws of names in a library.
use Rattle.std.specs.Prelude.{◌≡◌, ℕ, ◌&&◌, Bool, true, false, List, [], ◌∷◌, Ok}
use Rattle.std.specs.List.{list_all}
use Rattle.eco_text.specs.Tokens.{can_name}
use Rattle.eco_lef.specs.declared.master.Master.{Master}
use Rattle.eco_common.specs.NameBytes.{is_among}
use Rattle.eco_lef.specs.Known.{names_of, pin_names}
use Rattle.eco_lef.specs.Grammar.{library_of}

-- no name stands twice
abbrev pub AreDistinct : List (List ℕ) → Type 0
AreDistinct [] = Unit {0}
AreDistinct (n ∷ ns) = (is_among ns n ≡ false) × AreDistinct ns

-- the pins of each master have distinct names
abbrev pub HaveDistinctPins : List Master → Type 0
HaveDistinctPins [] = Unit {0}
HaveDistinctPins (m ∷ ms) = AreDistinct (pin_names m.pins) × HaveDistinctPins ms

-- no two masters have one name, and no two pins of a master
abbrev pub HaveOwnNames : List Master → Type 0
HaveOwnNames masters = AreDistinct (names_of masters) × HaveDistinctPins masters

-- In a library no two masters have one name, and no two pins of a master.
abbrev pub NamesDiffer : Type 0
NamesDiffer = (text : List ℕ) (masters : List Master) → library_of text ≡ Ok masters → HaveOwnNames masters

-- a master's name and its pins' names are read as names where they stand
abbrev pub are_words : Master → Bool
are_words m = can_name m.name && list_all (λ p. can_name p.name) m.pins

-- In a library all names are such words, so that a text can have them as names.
abbrev pub NamesAreWords : Type 0
NamesAreWords = (text : List ℕ) (masters : List Master) → library_of text ≡ Ok masters → list_all are_words masters ≡ true
