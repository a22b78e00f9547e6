-- The names that new nets may have.
use Rattle.std.specs.Prelude.{ℕ, nat_le, Bool, false, not, ◌&&◌, ◌||◌, ◌==◌, List, [], ◌∷◌, length, codes}
use Rattle.std.specs.Char.{is_ascii_alphabetic, is_ascii_digit}
use Rattle.std.specs.List.{list_all, list_any}
use Rattle.std.specs.Str.{byte, bytes_eq}
use Rattle.eco_common.specs.declared.limits.TheConstants.{MAX_NEW_NET_BYTES}

abbrev pub begins_net : ℕ → Bool
begins_net b = is_ascii_alphabetic b || b == byte "_"

-- letters, digits and _ [ ] / . $
abbrev pub is_net_byte : ℕ → Bool
is_net_byte b = begins_net b || is_ascii_digit b || list_any (λ c. b == c) (codes "[]/.$")

-- a letter or _, and then such bytes, 255 in all at most; MUSTJOIN begins another kind of statement
abbrev pub can_be_new : List ℕ → Bool
can_be_new [] = false
can_be_new (b ∷ bs) = begins_net b && list_all is_net_byte bs && nat_le (length (b ∷ bs)) MAX_NEW_NET_BYTES && not (bytes_eq (b ∷ bs) (codes "MUSTJOIN"))
