-- Parts that have no nets, by their kind.
use Rattle.std.proofs.Common.{ℕ, List, codes}
use Rattle.eco_text.specs.Tokens.{is_word}
use Rattle.eco_def.specs.Design.{Part, Passed, Units, Comps, Pins, Special, Nets}
use Rattle.eco_def.specs.Grammar.{comp_section_within, comp_section, pin_section_within, pin_section, units, units_number, passed_section, passed_up_to}
use Rattle.eco_issued_laws.proofs.Keeping.{keeps_any}
use Rattle.eco_issued_laws.proofs.Rules.{keeps_word, keeps_valued}
use Rattle.eco_issued_laws.proofs.Ending.{Ends, plain_word_is, ends_word, ends_then, ends_as, ends_pass_to, ends_pass_to_both}
use Rattle.eco_issued_laws.proofs.Passing.{keeps_comps, keeps_pins, keeps_head, ends_end}

-- not a section of nets
abbrev pub IsOther : Part → Type 0
IsOther (Special ss) = ⊥
IsOther (Nets s) = ⊥
IsOther _ = Unit {0}

pub other_comp_section : Ends (λ x k. IsOther x) comp_section
unfolding comp_section_within
other_comp_section =
    ends_then (keeps_head (codes "COMPONENTS")) (λ c. ends_then keeps_comps (λ cs.
    ends_as (λ x k. IsOther x) (λ e. Comps cs) (ends_end (codes "COMPONENTS")) (λ b k e. tt)))

pub other_pin_section : Ends (λ x k. IsOther x) pin_section
unfolding pin_section_within
other_pin_section =
    ends_then (keeps_head (codes "PINS")) (λ c. ends_then keeps_pins (λ cs.
    ends_as (λ x k. IsOther x) (λ e. Pins cs) (ends_end (codes "PINS")) (λ b k e. tt)))

pub other_units : Ends (λ x k. IsOther x) units
unfolding units
other_units =
    ends_then (keeps_word (codes "UNITS")) (λ a. ends_then (keeps_word (codes "DISTANCE")) (λ a. ends_then (keeps_word (codes "MICRONS")) (λ a. ends_then (keeps_valued units_number) (λ n. ends_as (λ x k. IsOther x) (λ e. Units n) (ends_word (codes ";")) (λ b k e. tt)))))

pub other_passed_section : Ends (λ x k. IsOther x) passed_section
unfolding passed_section
other_passed_section = ends_then keeps_any (λ h. ends_as (λ x k. IsOther x) (λ e. Passed) (ends_pass_to_both (is_word (codes "END")) (is_word h.bytes) (plain_word_is h.bytes)) (λ b k e. tt))

pub other_passed : (keyword : List ℕ) → Ends (λ x k. IsOther x) (passed_up_to keyword)
other_passed keyword = ends_as (λ x k. IsOther x) (λ e. Passed) (ends_pass_to (is_word keyword) (plain_word_is keyword)) (λ b k e. tt)
