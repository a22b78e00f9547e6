-- The grammar of a library, over its words: LEF/DEF 5.8 Language Reference, "LEF Statement Definitions and Examples", in the
-- profile of docs/FORMATS.md.
use Rattle.std.specs.Prelude.{ℕ, nat_le, Bool, true, false, List, [], ◌∷◌, length, map, Option, Some, None, Result, Ok, Err, codes}
use Rattle.std.specs.Option.{unwrap_or}
use Rattle.eco_text.specs.Numbers.{microns_of}
use Rattle.eco_text.specs.Words.{Token, Walk, finished, open_quote, word_then, walk_of}
use Rattle.eco_common.specs.declared.geometry.Dir.{Dir}
use Rattle.eco_common.specs.declared.geometry.Dir.TheVariants.{Input, Output, Inout}
use Rattle.eco_text.specs.declared.word.TextFault.TheVariants.{OpenQuote}
use Rattle.eco_lef.specs.declared.fault.LefFault.{LefFault}
use Rattle.eco_lef.specs.declared.fault.LefFault.TheVariants.{Text, ArrayBlock, BadStatement}
use Rattle.eco_lef.specs.declared.master.Master.{Master}
use Rattle.eco_lef.specs.declared.master.MasterPin.{MasterPin}
use Rattle.eco_common.specs.declared.geometry.Size.{Size}
use Rattle.eco_lef.specs.declared.pin_statements.PinBody.{PinBody}
use Rattle.eco_lef.specs.declared.macro_statements.MacroBody.{MacroBody}
use Rattle.eco_lef.specs.declared.statement.PinStatement.{PinStatement}
use Rattle.eco_lef.specs.declared.statement.PinStatement.TheVariants.{Directed, Used, Other as OtherInPin}
use Rattle.eco_lef.specs.declared.statement.MacroStatement.{MacroStatement}
use Rattle.eco_lef.specs.declared.statement.MacroStatement.TheVariants.{Sized, Pinned, Other as OtherInMacro}
use Rattle.eco_lef.specs.declared.statement.LibraryStatement.{LibraryStatement}
use Rattle.eco_lef.specs.declared.statement.LibraryStatement.TheVariants.{Defined, Other as OtherInLibrary}
use Rattle.eco_lef.specs.Known.{names_of, pin_names}
use Rattle.eco_lef.specs.Parsing.{Parser, ◌>>=◌, give, refuse, any, pass_one, choose, word, name, new_name, valued, pass_to, pass_to_both, many}
use Rattle.eco_text.specs.Tokens.{is_word, is_one_of}
use Rattle.eco_common.specs.NameBytes.{is_among}
use Rattle.eco_common.specs.Options.{first_some}

-- ---- blocks

-- END and the block's name end a block. Another END is passed over together with the word after it, if there is one.
unfoldable pub block_ends : List ℕ → List ℕ → Parser Bool
block_ends inside block = any inside >>= λ end. choose (is_word block) (any inside >>= λ n. give true) (pass_one >>= λ other. give false)

-- no statement at the end of the block, and else one that says nothing
abbrev pub unless_ended : {A : Type 0} → A → Bool → Option A
unless_ended other true = None
unless_ended other false = Some other

-- ---- in a pin

-- OUTPUT, with TRISTATE after it or not
unfoldable pub output : List ℕ → Parser Dir
output inside = any inside >>= λ w. choose (is_word (codes "TRISTATE")) (any inside >>= λ t. give Output) (give Output)

unfoldable pub plain_dir : List ℕ → Dir → Parser Dir
plain_dir inside d = any inside >>= λ w. give d

-- FEEDTHRU counts as INOUT
abbrev pub dir : List ℕ → Parser Dir
dir inside =
    choose (is_word (codes "OUTPUT")) (output inside)
    (choose (is_word (codes "INPUT")) (plain_dir inside Input)
    (choose (is_one_of (codes "INOUT" ∷ codes "FEEDTHRU" ∷ [])) (plain_dir inside Inout)
    (refuse inside BadStatement)))

unfoldable pub direction : List ℕ → Parser (Option PinStatement)
direction inside = do
  heading ← any inside
  d ← dir inside
  end ← word inside (codes ";")
  give (Some (Directed d))

-- a use up to its end: whether it is POWER or GROUND, and nothing else
unfoldable pub plain_use : List ℕ → Parser Bool
plain_use inside = pass_to inside (is_word (codes ";")) >>= λ end. give false

unfoldable pub supply_use : List ℕ → Parser Bool
supply_use inside = any inside >>= λ w. choose (is_word (codes ";")) (any inside >>= λ end. give true) (plain_use inside)

abbrev pub use_said : List ℕ → Parser Bool
use_said inside = choose (is_one_of (codes "POWER" ∷ codes "GROUND" ∷ [])) (supply_use inside) (plain_use inside)

unfoldable pub pin_use : List ℕ → Parser (Option PinStatement)
pin_use inside = any inside >>= λ heading. use_said inside >>= λ supply. give (Some (Used supply))

unfoldable pub passed_in_pin : List ℕ → List ℕ → Parser (Option PinStatement)
passed_in_pin inside keyword = pass_to inside (is_word keyword) >>= λ end. give (Some OtherInPin)

unfoldable pub pin_end : List ℕ → Parser (Option PinStatement)
pin_end inside = block_ends inside inside >>= λ ended. give (unless_ended OtherInPin ended)

unfoldable pub pin_statement : List ℕ → Parser (Option PinStatement)
pin_statement inside =
    choose (is_word (codes "END")) (pin_end inside)
    (choose (is_word (codes "DIRECTION")) (direction inside)
    (choose (is_word (codes "USE")) (pin_use inside)
    (choose (is_word (codes "PORT")) (passed_in_pin inside (codes "END"))
    (passed_in_pin inside (codes ";")))))

abbrev pub dir_said : PinStatement → Option Dir
dir_said (Directed d) = Some d
dir_said (Used b) = None
dir_said OtherInPin = None

abbrev pub supply_said : PinStatement → Option Bool
supply_said (Directed d) = None
supply_said (Used b) = Some b
supply_said OtherInPin = None

-- what statements say together: the first DIRECTION and the first USE count
abbrev pub pin_said : List PinStatement → PinBody
pin_said ss = record { dir = first_some (map dir_said ss); supply = first_some (map supply_said ss) }

abbrev pub pin_body : List ℕ → Parser PinBody
pin_body inside = many inside (λ before. pin_statement inside) >>= λ ss. give (pin_said ss)

-- no DIRECTION counts as INOUT, and no USE makes no supply pin
abbrev pub pin_of : List ℕ → PinBody → MasterPin
pin_of n body = record { name = n; dir = unwrap_or body.dir Inout; supply = unwrap_or body.supply false }

unfoldable pub pin : List ℕ → (List ℕ → Bool) → Parser (Option MacroStatement)
pin inside known = do
  heading ← any inside
  n ← new_name inside known false
  body ← pin_body n.bytes
  give (Some (Pinned (pin_of n.bytes body)))

-- ---- in a macro

-- w BY h in microns
unfoldable pub size : List ℕ → Parser (Option MacroStatement)
size inside = do
  heading ← any inside
  width ← valued inside microns_of
  by ← word inside (codes "BY")
  height ← valued inside microns_of
  end ← word inside (codes ";")
  give (Some (Sized (record { width = width; height = height })))

unfoldable pub passed_in_macro : List ℕ → List ℕ → Parser (Option MacroStatement)
passed_in_macro inside keyword = pass_to inside (is_word keyword) >>= λ end. give (Some OtherInMacro)

unfoldable pub macro_end : List ℕ → Parser (Option MacroStatement)
macro_end inside = block_ends inside inside >>= λ ended. give (unless_ended OtherInMacro ended)

unfoldable pub macro_statement_new : List ℕ → (List ℕ → Bool) → Parser (Option MacroStatement)
macro_statement_new inside known =
    choose (is_word (codes "END")) (macro_end inside)
    (choose (is_word (codes "SIZE")) (size inside)
    (choose (is_word (codes "PIN")) (pin inside known)
    (choose (is_one_of (codes "OBS" ∷ codes "DENSITY" ∷ [])) (passed_in_macro inside (codes "END"))
    (passed_in_macro inside (codes ";")))))

abbrev pub size_said : MacroStatement → Option Size
size_said (Sized s) = Some s
size_said (Pinned p) = None
size_said OtherInMacro = None

abbrev pub pins_of : List MacroStatement → List MasterPin
pins_of [] = []
pins_of (Sized s ∷ ss) = pins_of ss
pins_of (Pinned p ∷ ss) = p ∷ pins_of ss
pins_of (OtherInMacro ∷ ss) = pins_of ss

-- a statement whose pin's name isn't among those before it
abbrev pub macro_statement : List ℕ → List MacroStatement → Parser (Option MacroStatement)
macro_statement inside before = macro_statement_new inside (is_among (pin_names (pins_of before)))

-- what statements say together: the first SIZE counts
abbrev pub macro_said : List MacroStatement → MacroBody
macro_said ss = record { size = first_some (map size_said ss); pins = pins_of ss }

abbrev pub macro_body : List ℕ → Parser MacroBody
macro_body inside = many inside (macro_statement inside) >>= λ ss. give (macro_said ss)

-- without a SIZE both lengths are 0
abbrev pub no_size : Size
no_size = record { width = 0; height = 0 }

abbrev pub master_of : List ℕ → MacroBody → Master
master_of n body = record { name = n; width = (unwrap_or body.size no_size).width; height = (unwrap_or body.size no_size).height; pins = body.pins }

unfoldable pub defined : List ℕ → (List ℕ → Bool) → Bool → Parser (Option LibraryStatement)
defined inside known full = do
  heading ← any inside
  n ← new_name inside known full
  body ← macro_body n.bytes
  give (Some (Defined (master_of n.bytes body)))

-- ---- at the library level

-- blocks with a name, and blocks without one
abbrev pub named_blocks : List (List ℕ)
named_blocks = codes "LAYER" ∷ codes "VIA" ∷ codes "VIARULE" ∷ codes "SITE" ∷ codes "NONDEFAULTRULE" ∷ []

abbrev pub plain_blocks : List (List ℕ)
plain_blocks = codes "UNITS" ∷ codes "PROPERTYDEFINITIONS" ∷ codes "SPACING" ∷ []

-- the words up to END and a name, which stand next to each other
abbrev pub pass_block : List ℕ → Parser Token
pass_block block = pass_to_both block (is_word (codes "END")) (is_word block)

unfoldable pub named_block : List ℕ → Parser (Option LibraryStatement)
named_block heading = any heading >>= λ h. name heading >>= λ n. pass_block n.bytes >>= λ end. give (Some OtherInLibrary)

unfoldable pub plain_block : List ℕ → Parser (Option LibraryStatement)
plain_block heading = any heading >>= λ h. pass_block heading >>= λ end. give (Some OtherInLibrary)

unfoldable pub passed_in_library : List ℕ → List ℕ → Parser (Option LibraryStatement)
passed_in_library heading keyword = pass_to heading (is_word keyword) >>= λ end. give (Some OtherInLibrary)

unfoldable pub library_end : List ℕ → Parser (Option LibraryStatement)
library_end heading = block_ends heading (codes "LIBRARY") >>= λ ended. give (unless_ended OtherInLibrary ended)

-- a statement, by its heading
unfoldable pub statement_under : List ℕ → (List ℕ → Bool) → Bool → Parser (Option LibraryStatement)
statement_under heading known full =
    choose (is_word (codes "END")) (library_end heading)
    (choose (is_word (codes "MACRO")) (defined heading known full)
    (choose (is_one_of named_blocks) (named_block heading)
    (choose (is_one_of plain_blocks) (plain_block heading)
    (choose (is_word (codes "BEGINEXT")) (passed_in_library heading (codes "ENDEXT"))
    (choose (is_word (codes "ARRAY")) (refuse heading ArrayBlock)
    (passed_in_library heading (codes ";")))))))

-- the same, and none at the end of the text
abbrev pub library_statement_new : (List ℕ → Bool) → Bool → Parser (Option LibraryStatement)
library_statement_new known full (finished place) = Ok (None, finished place)
library_statement_new known full (open_quote place) = Err (Text (OpenQuote place))
library_statement_new known full (word_then w u) = statement_under w.bytes known full (word_then w u)

abbrev pub masters_of : List LibraryStatement → List Master
masters_of [] = []
masters_of (Defined m ∷ ss) = m ∷ masters_of ss
masters_of (OtherInLibrary ∷ ss) = masters_of ss

-- A statement whose macro's name isn't among those before it. The test says whether there is no room for one more macro.
abbrev pub library_statement : (ℕ → Bool) → List LibraryStatement → Parser (Option LibraryStatement)
library_statement full before = library_statement_new (is_among (names_of (masters_of before))) (full (length (masters_of before)))

abbrev pub masters : (ℕ → Bool) → Parser (List Master)
masters full = many [] (library_statement full) >>= λ ss. give (masters_of ss)

abbrev pub value_read : {A : Type 0} → Result (A × Walk) LefFault → Result A LefFault
value_read (Ok x) = Ok x.0
value_read (Err e) = Err e

-- the masters of a text, in its order, or its first fault. What follows END LIBRARY isn't looked at.
abbrev pub library_of : List ℕ → Result (List Master) LefFault
library_of text = value_read (masters (λ n. false) (walk_of text))

-- the same with room for so many macros
abbrev pub library_within : ℕ → List ℕ → Result (List Master) LefFault
library_within most text = value_read (masters (nat_le most) (walk_of text))
