-- Names and where they stand in a list.
use Rattle.std.specs.Prelude.{◌≡◌, ℕ, suc, Bool, List, [], ◌∷◌, map, Option, Some, None, option_map, is_some, if◌then◌else◌}
use Rattle.std.specs.Str.{bytes_eq}
use Rattle.std.specs.Global.{Global}
use Rattle.std.specs.declared.vec.Vec.{Vec}
use Rattle.std.specs.HashMap.{HashMap, get_by}
use Rattle.std.specs.declared.hash.FoldHasher.{FoldHasher}
use Rattle.std.specs.declared.hash.BuildHasherDefault.{BuildHasherDefault}
use Rattle.eco_lef.specs.declared.master.Master.{Master}
use Rattle.eco_lef.specs.declared.master.MasterPin.{MasterPin}

-- the place that a map has for a name
abbrev pub place_of : HashMap (Vec ℕ Global) ℕ (BuildHasherDefault FoldHasher) → List ℕ → Option ℕ
place_of names q = get_by (λ k. bytes_eq q k.items) names

-- whether a map has a name
abbrev pub knows : HashMap (Vec ℕ Global) ℕ (BuildHasherDefault FoldHasher) → List ℕ → Bool
knows names q = is_some (place_of names q)

-- where a name stands first in a list
abbrev pub first_place : List (List ℕ) → List ℕ → Option ℕ
first_place [] q = None
first_place (n ∷ ns) q = if bytes_eq n q then Some 0 else option_map (λ i. suc i) (first_place ns q)

-- the map has each name of a list, with the place where it stands first
abbrev pub AreNames : HashMap (Vec ℕ Global) ℕ (BuildHasherDefault FoldHasher) → List (List ℕ) → Type 0
AreNames names ns = (q : List ℕ) → place_of names q ≡ first_place ns q

abbrev pub names_of : List Master → List (List ℕ)
names_of ms = map (λ m. m.name) ms

abbrev pub pin_names : List MasterPin → List (List ℕ)
pin_names ps = map (λ p. p.name) ps
