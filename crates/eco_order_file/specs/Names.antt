-- The names that an order gives: its own, those of its gates and of who orders it, and those of its new nets.
use Rattle.std.specs.Prelude.{ℕ, nat_le, Bool, false, not, ◌&&◌, ◌||◌, ◌==◌, List, [], ◌∷◌, length, codes}
use Rattle.std.specs.Char.{is_ascii_alphabetic, is_ascii_digit}
use Rattle.std.specs.List.{list_all, list_any}
use Rattle.std.specs.Str.{byte, bytes_eq}
use Rattle.eco_order_file.specs.declared.limits.TheConstants.{MAX_LABEL_BYTES, MAX_NEW_NET_BYTES}

-- the bytes of a name
abbrev pub Name : Type 0
Name = List ℕ

abbrev pub begins_net : ℕ → Bool
begins_net b = is_ascii_alphabetic b || b == byte "_"

abbrev pub is_label_byte : ℕ → Bool
is_label_byte b = begins_net b || is_ascii_digit b

-- letters, digits and _ [ ] / . $
abbrev pub is_net_byte : ℕ → Bool
is_net_byte b = begins_net b || is_ascii_digit b || list_any (λ c. b == c) (codes "[]/.$")

-- The name of an order, of who orders it or of a gate: a letter, then letters, digits and _, 64 bytes in all at most.
abbrev pub is_label : Name → Bool
is_label [] = false
is_label (b ∷ bs) = is_ascii_alphabetic b && list_all is_label_byte bs && nat_le (length (b ∷ bs)) MAX_LABEL_BYTES

-- The name of a new net: a letter or _, then such bytes, 255 in all at most. MUSTJOIN begins another kind of statement (LEF/DEF
-- 5.8, "Nets"), so a net of this name couldn't be written.
abbrev pub can_be_new : Name → Bool
can_be_new [] = false
can_be_new (b ∷ bs) =
    begins_net b && list_all is_net_byte bs && nat_le (length (b ∷ bs)) MAX_NEW_NET_BYTES && not (bytes_eq (b ∷ bs) (codes "MUSTJOIN"))
