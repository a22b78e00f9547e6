-- Header lines by name (RFC 9110, section 5; RFC 9112, sections 6 and 9.6).
use Rattle.std.specs.Prelude.{◌≡◌, ℕ, ◌+◌, ◌<◌, take, drop, Bool, List, [], ◌∷◌, map, length, filter, Option, Some, None, codes, ◌==◌}
use Rattle.std.specs.List.{list_any, slice_split}
use Rattle.std.specs.Str.{str_eq_ignore_ascii_case}
use Rattle.httparse.specs.Grammar.{trim_ows}
use Rattle.httparse.specs.Ascii.{comma}
use Rattle.eco_wire.specs.Numbers.{number_of_digits}
use Rattle.eco_wire.specs.declared.fields.ContentLength.{ContentLength}
use Rattle.eco_wire.specs.declared.fields.ContentLength.TheVariants.{Missing, Bytes, Unreadable}

-- a header line: its name, and its value without the white space around it
abbrev pub Line : Type 0
Line = List ℕ × List ℕ

-- the line has this name, in any case of letters (RFC 9110, section 5.1)
abbrev pub is_named : List ℕ → Line → Bool
is_named name line = str_eq_ignore_ascii_case line.0 name

-- a line has this name
abbrev pub has_line : List ℕ → List Line → Bool
has_line name lines = list_any (is_named name) lines

-- the values of the lines of this name, in order
abbrev pub values_of : List ℕ → List Line → List (List ℕ)
values_of name lines = map (λ line. line.1) (filter (is_named name) lines)

-- what one value says
abbrev pub stated_by : Option ℕ → ContentLength
stated_by (Some n) = Bytes n
stated_by None = Unreadable

-- what the values of the Content-Length lines say: there is one at most, of 1 to 20 digits (RFC 9110, section 8.6)
abbrev pub content_length_of : List (List ℕ) → ContentLength
content_length_of [] = Missing
content_length_of (text ∷ []) = stated_by (number_of_digits text)
content_length_of (_ ∷ _ ∷ _) = Unreadable

-- an item of a list is the word `close`, in any case of letters and with white space around it
abbrev pub is_close : List ℕ → Bool
is_close item = str_eq_ignore_ascii_case (trim_ows item) (codes "close")

-- the items of a list, between commas (RFC 9110, section 5.6.1)
abbrev pub items_of : List ℕ → List (List ℕ)
items_of value = slice_split (λ b. b == comma) value

-- where the first item of a list ends: at a comma, if others follow it
abbrev pub EndsAt : List ℕ → Option ℕ → Type 0
EndsAt value None = items_of value ≡ value ∷ []
EndsAt value (Some end) =
    (end < length value) × (items_of value ≡ take end value ∷ items_of (drop (end + 1) value))

-- an item of a value is the word `close`
abbrev pub lists_close : List ℕ → Bool
lists_close value = list_any is_close (items_of value)

-- a Connection line asks to close the link
abbrev pub asks_to_close : List Line → Bool
asks_to_close lines = list_any lists_close (values_of (codes "connection") lines)
