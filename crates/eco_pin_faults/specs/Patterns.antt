-- What is kept while patterns are looked for.
use Rattle.std.specs.Prelude.{◌≡◌, ℕ, Bool, true, false, ◌&&◌, List}
use Rattle.std.specs.List.{list_any}
use Rattle.std.specs.Str.{bytes_eq}
use Rattle.std.specs.Borrow.{Bor}
use Rattle.std.specs.HashMap.{HashMap}
use Rattle.std.specs.declared.hash.FoldHasher.{FoldHasher}
use Rattle.std.specs.declared.hash.BuildHasherDefault.{BuildHasherDefault}
use Rattle.eco_common.specs.KnownNames.{knows}
use Rattle.eco_net.specs.Netlist.{Name}
use Rattle.eco_elaborate.specs.Netlists.{Kinds}
use Rattle.eco_pin_faults.specs.Places.{PinPlace}
use Rattle.eco_pin_faults.specs.Pins.{has_signal}
use Rattle.eco_pin_faults.specs.Faults.{is_every}

-- one of these models has the pin, and not as a supply pin
abbrev pub is_signal_on : Kinds → List (Bor (List ℕ)) → Name → Bool
is_signal_on kinds models n = list_any (λ m. has_signal (kinds.kind m.now) n) models

abbrev pub is_pattern_on : Kinds → List (Bor (List ℕ)) → PinPlace → Bool
is_pattern_on kinds models p = is_every p && is_signal_on kinds models p.pin

-- none of these names is of such a pin
abbrev pub AreCleared : Kinds → List (Bor (List ℕ)) → HashMap (Bor (List ℕ)) (Unit {0}) (BuildHasherDefault FoldHasher) → Type 0
AreCleared kinds models cleared = (n : Name) → knows cleared n ≡ true → is_signal_on kinds models n ≡ false

-- a set has the models of a list
abbrev pub AreSeen : HashMap (Bor (List ℕ)) (Unit {0}) (BuildHasherDefault FoldHasher) → List Name → Type 0
AreSeen seen models = (n : Name) → knows seen n ≡ list_any (λ m. bytes_eq m n) models
