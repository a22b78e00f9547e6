-- What a text says of an order.
use Rattle.std.specs.Prelude.{◌≡◌, ℕ, List, drop, Option, Some, None, Result, Ok, Err, if◌then◌else◌}
use Rattle.std.specs.Str.{is_utf8}
use Rattle.serde_json.specs.Data.{Data}
use Rattle.serde_json.specs.Read.{read}
use Rattle.eco_order_file.specs.declared.rule.Rule.{Rule}
use Rattle.eco_order_file.specs.declared.rule.Rule.TheVariants.{BadJson, BadField}
use Rattle.eco_order_file.specs.declared.rule.OrderFault.{OrderFault}
use Rattle.eco_order_file.specs.declared.rule.OrderFault.TheVariants.{Broken, Memory}
use Rattle.eco_order_file.specs.Orders.{Order}
use Rattle.eco_order_file.specs.Documents.{Reading, order}
use Rattle.eco_order_file.specs.Rules.{broken_alone}

-- A path is reported without its first dot, as gates[0].table.
abbrev pub reported : List ℕ → List ℕ
reported path = drop 1 path

abbrev pub unless_broken : {A : Type 0} → A → Option Rule → Result A Rule
unless_broken x None = Ok x
unless_broken x (Some rule) = Err rule

-- rules 2 to 5: the order of a reading, or the first rule that it breaks
abbrev pub keeping : Reading Order → Result Order Rule
keeping (Ok o) = unless_broken o (broken_alone o)
keeping (Err path) = Err (BadField (reported path))

-- what a document says, if there is one
abbrev pub said_of : Option Data → Result Order Rule
said_of None = Err BadJson
said_of (Some d) = keeping (order d)

-- the JSON document of a text, which is in UTF-8 (RFC 8259, 8.1)
abbrev pub document_of : List ℕ → Option Data
document_of text = if is_utf8 text then read text else None

-- An order, or the first rule that is broken; out of memory may come with any.
abbrev pub Answers : Result Order Rule → Result Order OrderFault → Type 0
Answers said (Ok o) = said ≡ Ok o
Answers said (Err (Broken rule)) = said ≡ Err rule
Answers said (Err Memory) = Unit {0}

-- The text says this order, or this is the first rule of 1 to 5 that it breaks.
abbrev pub Reads : List ℕ → Result Order OrderFault → Type 0
Reads text = Answers (said_of (document_of text))

-- Why a rule is reported of a text: it is no JSON document, or its document has its first bad field there, or the order that
-- its document says breaks the rule first.
abbrev pub IsBecause : List ℕ → Rule → Type 0
IsBecause text BadJson = document_of text ≡ None
IsBecause text (BadField path) = (d : Data) × (document_of text ≡ Some d) × (steps : List ℕ) × (order d ≡ Err steps) × (path ≡ reported steps)
IsBecause text rule = (d : Data) × (document_of text ≡ Some d) × (o : Order) × (order d ≡ Ok o) × (broken_alone o ≡ Some rule)

abbrev pub HasCause : List ℕ → OrderFault → Type 0
HasCause text (Broken rule) = IsBecause text rule
HasCause text Memory = Unit {0}
