-- The millionths of a length.
use Rattle.std.proofs.Common.{◌≡◌, ℕ, ◌+◌, ◌-◌, ◌&&◌, true, List, ◌++◌, length, take, drop, slice_range, Some, None, option_and_then, ap, sym, ◌∙◌, arith, if◌then◌else◌}
use Rattle.std.specs.Char.{is_ascii_digit}
use Rattle.std.specs.List.{list_all, list_any, position_or_len}
use Rattle.std.proofs.lemmas.List.{take_rest}
use Rattle.eco_common.specs.declared.limits.TheConstants.{MAX_MILLIONTHS}
use Rattle.eco_text.specs.Numbers.{digits_behind, at_most, is_point, whole_part, decimals, six_of, microns_of}
use Rattle.eco_text.proofs.DigitSteps.{digits_on}

-- the two parts, read one after another
pub microns_are : (word : List ℕ) (point whole : ℕ) (behind : List ℕ) → point ≡ position_or_len is_point word → behind ≡ slice_range word (point + 1) (length word) →
    list_any is_ascii_digit word ≡ true → list_all is_ascii_digit behind ≡ true → at_most MAX_MILLIONTHS (digits_behind 0 (slice_range word 0 point)) ≡ Some whole →
    at_most MAX_MILLIONTHS (digits_behind whole (six_of behind)) ≡ microns_of word
microns_are word point whole behind first is some all before =
    let rest : behind ≡ decimals word = is ∙ take_rest word (point + 1) ∙ ap (λ k. drop (k + 1) word) first in
    let front : slice_range word 0 point ≡ whole_part word = (let at : point - 0 ≡ position_or_len is_point word = omega (arith, first) in ap (λ k. take k word) at) in
    let digits : list_all is_ascii_digit (decimals word) ≡ true = ap (list_all is_ascii_digit) (sym rest) ∙ all in
    let split : at_most MAX_MILLIONTHS (digits_behind 0 (whole_part word ++ six_of (decimals word))) ≡ at_most MAX_MILLIONTHS (digits_behind whole (six_of (decimals word))) =
    digits_on MAX_MILLIONTHS 0 (whole_part word) (six_of (decimals word))
    ∙ ap (λ k. option_and_then (λ n. at_most MAX_MILLIONTHS (digits_behind n (six_of (decimals word)))) (at_most MAX_MILLIONTHS (digits_behind 0 k))) (sym front)
    ∙ ap (option_and_then (λ n. at_most MAX_MILLIONTHS (digits_behind n (six_of (decimals word))))) before in
    ap (λ k. at_most MAX_MILLIONTHS (digits_behind whole (six_of k))) rest ∙ sym split
    ∙ ap (λ b. if b then at_most MAX_MILLIONTHS (digits_behind 0 (whole_part word ++ six_of (decimals word))) else None) (sym digits)
    ∙ ap (λ b. if b && list_all is_ascii_digit (decimals word) then at_most MAX_MILLIONTHS (digits_behind 0 (whole_part word ++ six_of (decimals word))) else None) (sym some)
