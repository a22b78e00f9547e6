-- The entries of an index of names, of which the short ones are kept apart.
use Rattle.std.specs.Prelude.{ℕ, Bool, not, cond, nat_lt, List, ◌++◌, map, length, Option, Some, None, Vec}
use Rattle.std.specs.List.{filter}
use Rattle.eco_net.specs.Netlist.{Name}

-- a name of at most 15 bytes
abbrev pub is_short : Name → Bool
is_short name = nat_lt (length name) 16

-- the name, if it is short
abbrev pub short_of : Name → Option Name
short_of name = cond (is_short name) (Some name) None

-- entries of a map whose keys are texts, by the texts' bytes
abbrev pub by_bytes : {Z : Type 0} → List (Vec ℕ Z × ℕ) → List (Name × ℕ)
by_bytes es = map (λ e. (e.0.items, e.1)) es

-- short names have what the one map gives them, and the others what the other does
abbrev pub placed_names : List (Name × ℕ) → List (Name × ℕ) → List (Name × ℕ)
placed_names shorts longs = filter (λ e. is_short e.0) shorts ++ filter (λ e. not (is_short e.0)) longs
