-- The desk file's text, of this project's own form: a TOML document.
--
--   tie_high = "VDD"
--   tie_low = "VSS"
--   spares = ["SP_"]
use Rattle.std.specs.Prelude.{◌≡◌, ℕ, Bool, not, ◌||◌, if◌then◌else◌, ◌⊎◌, List, codes, Option, Some, None, option_and_then, Result, Ok, Err}
use Rattle.std.specs.Str.{IsUtf8, bytes_eq}
use Rattle.toml.specs.Data.{Members, no_members, member, get_member, as_str, as_array}
use Rattle.toml.specs.Parse.{parse_document}
use Rattle.eco_func.specs.FunctionsFile.{texts_of}
use Rattle.eco_desk_file.specs.declared.fault.DeskFault.{DeskFault}
use Rattle.eco_desk_file.specs.declared.fault.DeskFault.TheVariants.{BadField, Memory}
use Rattle.eco_desk_file.specs.Desk.{Desk, are_prefixes}
use Rattle.eco_common.specs.NameBytes.{is_name}

-- A reading gives a value, or the first field at fault; a further reading is tried only after one without fault.
infixl 10 ◌>>=◌
abbrev pub ◌>>=◌ : {A B : Type 0} → Result A (List ℕ) → (A → Result B (List ℕ)) → Result B (List ℕ)
Ok x >>= f = f x
Err field >>= f = Err field

abbrev pub or_field : {A : Type 0} → List ℕ → Option A → Result A (List ℕ)
or_field field None = Err field
or_field field (Some x) = Ok x

-- the value where it passes the test
abbrev pub where_it : {A : Type 0} → (A → Bool) → A → Option A
where_it test x = if test x then Some x else None

-- the name at a field
abbrev pub name_at : List ℕ → Members → Option (List ℕ)
name_at field ms = option_and_then (where_it is_name) (option_and_then as_str (get_member field ms))

-- the name of the net tied to 0, which isn't the one tied to 1
abbrev pub low_at : List ℕ → Members → Option (List ℕ)
low_at high ms = option_and_then (where_it (λ low. not (bytes_eq low high))) (name_at (codes "tie_low") ms)

abbrev pub prefixes_at : Members → Option (List (List ℕ))
prefixes_at ms = option_and_then (where_it are_prefixes) (option_and_then texts_of (option_and_then as_array (get_member (codes "spares") ms)))

abbrev pub is_desk_field : List ℕ → Bool
is_desk_field key = bytes_eq key (codes "tie_high") || bytes_eq key (codes "tie_low") || bytes_eq key (codes "spares")

-- no field but these three, or the first by bytes (the keys of a document ascend by bytes)
abbrev pub no_other_field : Members → Result (Unit {0}) (List ℕ)
no_other_field no_members = Ok tt
no_other_field (member key d ms) = if is_desk_field key then no_other_field ms else Err key

-- The fields are tested in this order: `tie_high`, `tie_low`, `spares`, any other.
abbrev pub desk_of : Members → Result Desk (List ℕ)
desk_of ms =
    or_field (codes "tie_high") (name_at (codes "tie_high") ms) >>= (λ high.
    or_field (codes "tie_low") (low_at high ms) >>= (λ low.
    or_field (codes "spares") (prefixes_at ms) >>= (λ prefixes.
    no_other_field ms >>= (λ none.
    Ok (record { high = high; low = low; prefixes = prefixes })))))

-- It is of this field, or out of memory.
abbrev pub BlamesField : List ℕ → DeskFault → Type 0
BlamesField field (BadField f) = f ≡ field
BlamesField field Memory = Unit {0}

-- The reading has this value, or the fault of this field; out of memory may be returned at any time.
abbrev pub GivesField : {A B : Type 0} → (B → A) → Result A (List ℕ) → Result B DeskFault → Type 0
GivesField view said (Ok x) = said ≡ Ok (view x)
GivesField view said (Err (BadField field)) = said ≡ Err field
GivesField view said (Err Memory) = Unit {0}

-- The text is a TOML document that gives this, or it is none, and the field at fault is `file`.
abbrev pub Says : List ℕ → Result Desk (List ℕ) → Type 0
Says text said =
    ((document : Members) × IsUtf8 text × (parse_document text ≡ Some document) × (desk_of document ≡ said))
    ⊎ (IsUtf8 text → parse_document text ≡ None) × (said ≡ Err (codes "file"))

-- The text says this desk file, or this field is at fault.
abbrev pub ReadsDesk : List ℕ → Result Desk DeskFault → Type 0
ReadsDesk text (Ok desk) = Says text (Ok desk)
ReadsDesk text (Err (BadField field)) = Says text (Err field)
ReadsDesk text (Err Memory) = Unit {0}
