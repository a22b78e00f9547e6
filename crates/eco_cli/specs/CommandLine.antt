-- The words behind a command: pairs of an option and its value, each option once, in any order.
use Rattle.std.specs.Prelude.{◌≡◌, ℕ, ◌-◌, ◌<◌, ◌⊎◌, ◌%◌, ◌==◌, Bool, true, false, not, ◌&&◌, ◌||◌, List, [], ◌∷◌, length, take, get_or, codes, Option, Some, None, if◌then◌else◌}
use Rattle.std.specs.List.{list_all, list_any, flat_map}
use Rattle.std.specs.Str.{bytes_eq}
use Rattle.eco_common.specs.NameBytes.{is_among}
use Rattle.eco_cli.specs.Job.{Input}
use Rattle.eco_cli.specs.ValueForms.{is_name_list, is_table, is_feed_list}
use Rattle.eco_cli.specs.declared.command_option.CommandOption.{CommandOption}
use Rattle.eco_cli.specs.declared.command_option.OptionKind.{OptionKind}
use Rattle.eco_cli.specs.declared.command_option.OptionKind.TheVariants as kind

-- an option that a command lists: its word, and what its value is
pub record Listed : Type 0 where
  pub word : List ℕ
  pub kind : OptionKind

abbrev pub listed_of : CommandOption → Listed
listed_of o = record { word = o.word.now; kind = o.kind }

-- the word of an option of the table
abbrev pub is_listed : List Listed → List ℕ → Bool
is_listed table w = list_any (λ o. bytes_eq o.word w) table

-- every other word, from the first on
abbrev pub options_in : List (List ℕ) → List (List ℕ)
options_in [] = []
options_in (o ∷ []) = o ∷ []
options_in (o ∷ v ∷ ws) = o ∷ options_in ws

-- a value isn't empty and doesn't begin with -
abbrev pub is_value : List ℕ → Bool
is_value [] = false
is_value (b ∷ bs) = not (b == 45)

-- a value of this kind may have this text
abbrev pub has_form : OptionKind → List ℕ → Bool
has_form (kind.Input limit) w = true
has_form kind.Text w = true
has_form kind.Names w = is_name_list w
has_form kind.Table w = is_table w
has_form kind.Feeds w = is_feed_list w

-- the value has the form that its option asks
abbrev pub suits : List Listed → List ℕ → List ℕ → Bool
suits table option w = list_all (λ o. not (bytes_eq o.word option) || has_form o.kind w) table

abbrev pub word_at : List (List ℕ) → ℕ → List ℕ
word_at ws k = get_or ws k []

-- A word is bad where it stands for an option and is none of the table or stood before, or stands for a value and is none or has another form.
abbrev pub is_bad : List Listed → List (List ℕ) → ℕ → Bool
is_bad table ws k =
    if k % 2 == 0 then (not (is_listed table (word_at ws k)) || is_among (options_in (take k ws)) (word_at ws k))
    else (not (is_value (word_at ws k)) || not (suits table (word_at ws (k - 1)) (word_at ws k)))

-- no option and no value is missing
abbrev pub is_complete : List Listed → List (List ℕ) → Bool
is_complete table ws = length ws % 2 == 0 && list_all (λ o. is_among (options_in ws) o.word) table

abbrev pub NoneBad : List Listed → List (List ℕ) → ℕ → Type 0
NoneBad table ws n = (k : ℕ) → k < n → is_bad table ws k ≡ false

-- the words behind the command have a reading
abbrev pub HasReading : List Listed → List (List ℕ) → Type 0
HasReading table ws = NoneBad table ws (length ws) × (is_complete table ws ≡ true)

-- the first bad word; the number of words where an option or a value is missing
abbrev pub IsFirstBad : List Listed → List (List ℕ) → ℕ → Type 0
IsFirstBad table ws n = ((n < length ws) × (is_bad table ws n ≡ true) × NoneBad table ws n) ⊎ ((n ≡ length ws) × NoneBad table ws n × (is_complete table ws ≡ false))

-- the value behind an option
abbrev pub value_of : List (List ℕ) → List ℕ → List ℕ
value_of [] option = []
value_of (o ∷ []) option = []
value_of (o ∷ v ∷ ws) option = if bytes_eq o option then v else value_of ws option

-- ---- what is opened

-- the input that an option names, if it names one
abbrev pub input_at : OptionKind → List ℕ → List (List ℕ) → List Input
input_at (kind.Input limit) option ws = record { option = option; name = value_of ws option; limit = limit } ∷ []
input_at k option ws = []

-- the inputs that the words name, in the order of the table
abbrev pub inputs_in : List Listed → List (List ℕ) → List Input
inputs_in table ws = flat_map (λ o. input_at o.kind o.word ws) table

-- the name of the output, where the command has one
abbrev pub output_in : List Listed → List (List ℕ) → Option (List ℕ)
output_in table ws = if is_listed table (codes "--out") then Some (value_of ws (codes "--out")) else None
