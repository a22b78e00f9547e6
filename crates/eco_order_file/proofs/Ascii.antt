-- Names in their form are ASCII.
use Rattle.std.proofs.Common.{◌≡◌, ℕ, zero, suc, ◌<◌, ◌≤◌, Bool, true, false, not, ◌&&◌, ◌||◌, ◌==◌, List, [], ◌∷◌, length, nat_le, refl, sym, ap, ◌∙◌, arith, lit<, true≢false, codes}
use Rattle.std.proofs.lemmas.Bool.Decides.{nat_tests}
use Rattle.std.proofs.lemmas.Str.{IsUtf8-from_ascii, is_utf8-from_IsUtf8}
use Rattle.std.specs.Char.{is_ascii_alphabetic, is_ascii_digit}
use Rattle.std.specs.List.{list_all, list_any}
use Rattle.std.specs.Str.{is_utf8, IsAscii, bytes_eq}
use Rattle.eco_common.specs.NameBytes.{is_name, is_name_byte}
use Rattle.eco_order_file.specs.Names.{Name, begins_net, is_label_byte, is_net_byte, is_label, can_be_new}

pub both_true : (a b : Bool) → (a && b) ≡ true → (a ≡ true) × (b ≡ true)
both_true true b e = (refl, e)
both_true false b e = absurd (true≢false (sym e))

all_ascii : (p : ℕ → Bool) → ((b : ℕ) → p b ≡ true → b < 128) → (bs : Name) → list_all p bs ≡ true → IsAscii bs
all_ascii p h [] e i = lit< tt
all_ascii p h (b ∷ bs) e zero = h b (both_true (p b) (list_all p bs) e).0
all_ascii p h (b ∷ bs) e (suc i) = all_ascii p h bs (both_true (p b) (list_all p bs) e).1 i

all_text : (p : ℕ → Bool) → ((b : ℕ) → p b ≡ true → b < 128) → (bs : Name) → list_all p bs ≡ true → is_utf8 bs ≡ true
all_text p h bs e = is_utf8-from_IsUtf8 bs (IsUtf8-from_ascii bs (all_ascii p h bs e))

prints_low : (b : ℕ) → is_name_byte b ≡ true → b < 128
prints_low b e = grind (arith, nat_tests)

label_low : (b : ℕ) → is_label_byte b ≡ true → b < 128
label_low b e = grind (arith, nat_tests)

net_low : (b : ℕ) → is_net_byte b ≡ true → b < 128
net_low b e = grind (arith, nat_tests)

letter_in_label : (b : ℕ) → is_ascii_alphabetic b ≡ true → is_label_byte b ≡ true
letter_in_label b e = ap (λ c. (c || b == 95) || is_ascii_digit b) e

begin_in_net : (b : ℕ) → begins_net b ≡ true → is_net_byte b ≡ true
begin_in_net b e = ap (λ c. (c || is_ascii_digit b) || list_any (λ d. b == d) (codes "[]/.$")) e

pub base_text : (n : Name) → is_name n ≡ true → is_utf8 n ≡ true
base_text n e = all_text is_name_byte prints_low n (both_true _ _ e).1

pub label_text : (n : Name) → is_label n ≡ true → is_utf8 n ≡ true
label_text [] e = absurd (true≢false (sym e))
label_text (b ∷ bs) e =
    let h = (both_true (is_ascii_alphabetic b && list_all is_label_byte bs) _ e).0 in
    let k = both_true (is_ascii_alphabetic b) (list_all is_label_byte bs) h in
    all_text is_label_byte label_low (b ∷ bs) (ap (λ c. c && list_all is_label_byte bs) (letter_in_label b k.0) ∙ k.1)

pub net_text : (n : Name) → can_be_new n ≡ true → is_utf8 n ≡ true
net_text [] e = absurd (true≢false (sym e))
net_text (b ∷ bs) e =
    let g = (both_true ((begins_net b && list_all is_net_byte bs) && nat_le (length (b ∷ bs)) 255) _ e).0 in
    let h = (both_true (begins_net b && list_all is_net_byte bs) _ g).0 in
    let k = both_true (begins_net b) (list_all is_net_byte bs) h in
    all_text is_net_byte net_low (b ∷ bs) (ap (λ c. c && list_all is_net_byte bs) (begin_in_net b k.0) ∙ k.1)
