-- The JSON value that is written for a broken rule.
use Rattle.std.specs.Prelude.{ℕ, List, [], ◌∷◌, codes}
use Rattle.eco_order_file.specs.declared.rule.Counted.{Counted}
use Rattle.eco_order_file.specs.declared.rule.Counted.TheVariants.{Nets, Gates, Moves, Spares}
use Rattle.eco_order_file.specs.declared.rule.Rule.{Rule}
use Rattle.eco_order_file.specs.declared.rule.Rule.TheVariants.{BadJson, BadField, TooLarge, BadName, TwiceNamed, UnknownNet, UnknownPin, WrongFrom, StockPin, SupplyDriven, NetNameTaken, NotOneDriver, Loop}
use Rattle.eco_order_file.specs.OrderValues.{name_value, list_value, value_or_null}
use Rattle.serde_json.specs.Data.{Data, number, unsigned, string, object, Members, no_members, member, put}

-- the rule's number
abbrev pub number_of : Rule → ℕ
number_of BadJson = 1
number_of (BadField path) = 2
number_of (TooLarge what count) = 3
number_of (BadName name) = 4
number_of (TwiceNamed name) = 5
number_of (UnknownNet net) = 6
number_of (UnknownPin comp pin) = 7
number_of (WrongFrom comp pin net) = 8
number_of (StockPin comp pin) = 9
number_of (SupplyDriven net) = 10
number_of (NetNameTaken net) = 11
number_of (NotOneDriver net count) = 12
number_of (Loop nets) = 13

-- the rule's name
abbrev pub word_of : Rule → List ℕ
word_of BadJson = codes "BadJson"
word_of (BadField path) = codes "BadField"
word_of (TooLarge what count) = codes "TooLarge"
word_of (BadName name) = codes "BadName"
word_of (TwiceNamed name) = codes "TwiceNamed"
word_of (UnknownNet net) = codes "UnknownNet"
word_of (UnknownPin comp pin) = codes "UnknownPin"
word_of (WrongFrom comp pin net) = codes "WrongFrom"
word_of (StockPin comp pin) = codes "StockPin"
word_of (SupplyDriven net) = codes "SupplyDriven"
word_of (NetNameTaken net) = codes "NetNameTaken"
word_of (NotOneDriver net count) = codes "NotOneDriver"
word_of (Loop nets) = codes "Loop"

abbrev pub counted_word : Counted → List ℕ
counted_word Nets = codes "nets"
counted_word Gates = codes "gates"
counted_word Moves = codes "moves"
counted_word Spares = codes "spares"

abbrev pub count_value : ℕ → Data
count_value n = number (unsigned n)

abbrev pub Field : Type 0
Field = List ℕ × Data

-- the rule's own fields
abbrev pub own_fields : Rule → List Field
own_fields BadJson = []
own_fields (BadField path) = (codes "path", name_value path) ∷ []
own_fields (TooLarge what count) = (codes "what", string (counted_word what)) ∷ (codes "count", count_value count) ∷ []
own_fields (BadName name) = (codes "name", name_value name) ∷ []
own_fields (TwiceNamed name) = (codes "name", name_value name) ∷ []
own_fields (UnknownNet net) = (codes "net", name_value net) ∷ []
own_fields (UnknownPin comp pin) = (codes "comp", name_value comp) ∷ (codes "pin", name_value pin) ∷ []
own_fields (WrongFrom comp pin net) =
    (codes "comp", name_value comp) ∷ (codes "pin", name_value pin) ∷ (codes "net", value_or_null name_value net) ∷ []
own_fields (StockPin comp pin) = (codes "comp", name_value comp) ∷ (codes "pin", name_value pin) ∷ []
own_fields (SupplyDriven net) = (codes "net", name_value net) ∷ []
own_fields (NetNameTaken net) = (codes "net", name_value net) ∷ []
own_fields (NotOneDriver net count) = (codes "net", name_value net) ∷ (codes "count", count_value count) ∷ []
own_fields (Loop nets) = (codes "nets", list_value name_value nets) ∷ []

-- an object with these fields, which are laid in the order of bytes
abbrev pub members_of : List Field → Members
members_of [] = no_members
members_of (f ∷ fs) = put f.0 f.1 (members_of fs)

-- the front, the rule's number and its name, and some fields
abbrev pub body : ℕ → ℕ → List ℕ → List Field → Data
body front rule_number word fields =
    object (members_of ((codes "front", count_value front) ∷ (codes "refusal", count_value rule_number) ∷ (codes "rule", string word) ∷ fields))

-- what is written for a rule that an order breaks at a front
abbrev pub rule_value : ℕ → Rule → Data
rule_value front rule = body front (number_of rule) (word_of rule) (own_fields rule)
