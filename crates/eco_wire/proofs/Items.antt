-- The items of a list that commas cut.
use Rattle.std.proofs.Common.{◌≡◌, ℕ, ◌<◌, ◌≤◌, Bool, true, false, ◌==◌, nat_lt, cond, List, length, take, drop, ◌-◌, ◌+◌, length-drop, ◌||◌, Some, None, refl, sym, ap, ◌∙◌, arith}
use Rattle.std.specs.Prelude.{position}
use Rattle.std.specs.List.{position_or_len, list_any}
use Rattle.std.proofs.lemmas.List.{drop-drop}
use Rattle.std.proofs.Math.Seq.{take-length}
use Rattle.std.proofs.lemmas.List.Splits.{slice_split_first, slice_split_none}
use Rattle.std.proofs.lemmas.List.Sums.{fails_before_first}
use Rattle.std.proofs.lemmas.Bool.{ltb-true, ltb-false}
use Rattle.httparse.specs.Ascii.{comma}
use Rattle.eco_wire.specs.Lines.{EndsAt, is_close, lists_close}

abbrev pub at_comma : ℕ → Bool
at_comma b = b == comma

ends_by : (xs : List ℕ) (test : Bool) → nat_lt (position_or_len at_comma xs) (length xs) ≡ test
    → EndsAt xs (cond test (Some (position_or_len at_comma xs)) None)
ends_by xs true here =
    let inside : position_or_len at_comma xs < length xs = ltb-true _ _ here in
    (inside, slice_split_first at_comma xs 0 inside)
ends_by xs false here =
    let past : length xs ≤ position_or_len at_comma xs = ltb-false _ _ here in
    slice_split_none at_comma xs (λ k d inside. fails_before_first at_comma xs k d (omega arith))

pub ends_at_comma : (xs : List ℕ) → EndsAt xs (position at_comma xs)
ends_at_comma xs = ends_by xs _ refl

take-all : (n : ℕ) (xs : List ℕ) → length xs ≡ n → take n xs ≡ xs
take-all n xs same = ap (λ m. take m xs) (sym same) ∙ take-length xs

-- where the first item isn't the word, those after its comma decide
pub close_behind : (rest back value : List ℕ) (end : ℕ) → EndsAt rest (Some end) → back ≡ drop end rest
    → is_close (take end rest) ≡ false → lists_close rest ≡ lists_close value
    → lists_close (take (length back - 1) (drop 1 back)) ≡ lists_close value
close_behind rest back value end ends behind other same =
    let whole : take (length back - 1) (drop 1 back) ≡ drop (end + 1) rest =
    take-all _ _ (length-drop 1 back) ∙ (ap (drop 1) behind ∙ drop-drop 1 end rest) in
    let later : lists_close rest ≡ lists_close (drop (end + 1) rest) =
    ap (list_any is_close) ends.1 ∙ ap (λ b. b || lists_close (drop (end + 1) rest)) other in
    ap lists_close whole ∙ (sym later ∙ same)
