-- Names that have stood.
use Rattle.std.specs.Prelude.{◌≡◌, ℕ, List, Bool, true, is_some, if◌then◌else◌}
use Rattle.std.specs.Str.{bytes_eq}
use Rattle.std.specs.Borrow.{Bor}
use Rattle.std.specs.HashMap.{HashMap, get_by}
use Rattle.std.specs.declared.hash.FoldHasher.{FoldHasher}
use Rattle.std.specs.declared.hash.BuildHasherDefault.{BuildHasherDefault}

-- the map has this name
abbrev pub knows : HashMap (Bor (List ℕ)) (Unit {0}) (BuildHasherDefault FoldHasher) → List ℕ → Bool
knows names q = is_some (get_by (λ k. bytes_eq q k.now) names)

-- the map has one more name
abbrev pub Adds : HashMap (Bor (List ℕ)) (Unit {0}) (BuildHasherDefault FoldHasher) → HashMap (Bor (List ℕ)) (Unit {0}) (BuildHasherDefault FoldHasher) → List ℕ → Type 0
Adds old new name = (q : List ℕ) → knows new q ≡ (if bytes_eq name q then true else knows old q)
