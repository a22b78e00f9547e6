-- The name of a new net can stand in a DEF text.
use Rattle.std.proofs.Common.{◌≡◌, ℕ, ◌==◌, nat_le, ◌&&◌, ◌||◌, true, false, not, List, [], ◌∷◌, length, refl, sym, arith, codes, true≢false}
use Rattle.std.specs.List.{list_all}
use Rattle.std.specs.Str.{bytes_eq}
use Rattle.std.proofs.lemmas.Bool.{and_parts}
use Rattle.std.proofs.lemmas.Bool.Decides.{nat_tests}
use Rattle.eco_common.specs.declared.limits.TheConstants.{MAX_NAME_BYTES, MAX_NEW_NET_BYTES}
use Rattle.eco_common.specs.NameBytes.{is_name_byte, is_mark}
use Rattle.eco_text.specs.Tokens.{can_name}
use Rattle.eco_issued_laws.proofs.Sorting.{not_true}
use Rattle.eco_issued_laws.specs.NewNets.{begins_net, is_net_byte, can_be_new}

begins_name : (b : ℕ) → begins_net b ≡ true → (not (b == 35 || b == 34) ≡ true) × (is_name_byte b ≡ true) × (is_mark (b ∷ []) ≡ false)
begins_name b e = (grind (arith, nat_tests), grind (arith, nat_tests), grind (arith, nat_tests))

net_byte : (b : ℕ) → is_net_byte b ≡ true → is_name_byte b ≡ true
net_byte b e = grind (arith, nat_tests)

net_bytes : (bs : List ℕ) → list_all is_net_byte bs ≡ true → list_all is_name_byte bs ≡ true
net_bytes [] e = refl
net_bytes (b ∷ bs) e = let p = and_parts (is_net_byte b) (list_all is_net_byte bs) e in rw (net_byte b p.0, net_bytes bs p.1) refl

longer : (n : ℕ) → nat_le n MAX_NEW_NET_BYTES ≡ true → nat_le n MAX_NAME_BYTES ≡ true
longer n e = grind (arith, nat_tests)

no_mark : (b : ℕ) (bs : List ℕ) → is_mark (b ∷ []) ≡ false → is_mark (b ∷ bs) ≡ false
no_mark b [] e = e
no_mark b (c ∷ bs) e = refl

pub new_can_name : (n : List ℕ) → can_be_new n ≡ true → (can_name n ≡ true) × (bytes_eq n (codes "MUSTJOIN") ≡ false)
new_can_name [] e = absurd (true≢false (sym e))
new_can_name (b ∷ bs) e =
    let p = and_parts (begins_net b && list_all is_net_byte bs && nat_le (length (b ∷ bs)) MAX_NEW_NET_BYTES) (not (bytes_eq (b ∷ bs) (codes "MUSTJOIN"))) e in
    let q = and_parts (begins_net b && list_all is_net_byte bs) (nat_le (length (b ∷ bs)) MAX_NEW_NET_BYTES) p.0 in
    let r = and_parts (begins_net b) (list_all is_net_byte bs) q.0 in
    let first = begins_name b r.0 in
    let some : nat_le 1 (length (b ∷ bs)) ≡ true = grind (arith, nat_tests) in
    let few : nat_le (length (b ∷ bs)) MAX_NAME_BYTES ≡ true = longer (length (b ∷ bs)) q.1 in
    let mark : is_mark (b ∷ bs) ≡ false = no_mark b bs first.2 in
    (rw (first.0, mark, some, few, first.1, net_bytes bs r.1) refl, not_true (bytes_eq (b ∷ bs) (codes "MUSTJOIN")) p.1)
