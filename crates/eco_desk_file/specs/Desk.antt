-- The tie nets of a chip and its spare-named cells.
use Rattle.std.specs.Prelude.{ℕ, Bool, not, ◌&&◌, ◌==◌, nat_le, List, length}
use Rattle.std.specs.List.{list_all, list_any, starts_with}
use Rattle.std.specs.Str.{bytes_eq}
use Rattle.eco_common.specs.NameBytes.{is_name}

-- the nets that are tied to 1 and to 0, and how names of spare cells begin
pub record Desk : Type 0 where
  pub high : List ℕ
  pub low : List ℕ
  pub prefixes : List (List ℕ)

-- 1 to 64 texts, none of which is empty
abbrev pub are_prefixes : List (List ℕ) → Bool
are_prefixes prefixes = nat_le 1 (length prefixes) && nat_le (length prefixes) 64 && list_all (λ p. nat_le 1 (length p)) prefixes

-- Two different names of nets, and 1 to 64 prefixes.
abbrev pub is_desk : List ℕ → List ℕ → List (List ℕ) → Bool
is_desk high low prefixes = is_name high && is_name low && not (bytes_eq low high) && are_prefixes prefixes

-- A component is spare-named where its name begins with one of the prefixes.
abbrev pub is_spare_named : List (List ℕ) → List ℕ → Bool
is_spare_named prefixes name = list_any (starts_with (λ a b. a == b) name) prefixes
