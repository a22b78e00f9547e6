-- What is written for a rule has no float.
use Rattle.std.proofs.Common.{◌≡◌, ℕ, Bool, false, cond, ◌||◌, List, [], ◌∷◌, Option, Some, None, refl, ap, ap₂, ◌∙◌}
use Rattle.std.specs.Str.{is_utf8}
use Rattle.serde_json.specs.Data.{Data, number, unsigned, string}
use Rattle.serde_json.specs.Written.{has_float, compact_text}
use Rattle.eco_order_file.specs.declared.rule.Counted.{Counted}
use Rattle.eco_order_file.specs.declared.rule.Rule.{Rule}
use Rattle.eco_order_file.specs.declared.rule.Rule.TheVariants.{BadJson, BadField, TooLarge, BadName, TwiceNamed, UnknownNet, UnknownPin, WrongFrom, StockPin, SupplyDriven, NetNameTaken, NotOneDriver, Loop}
use Rattle.eco_order_file.specs.Names.{Name}
use Rattle.eco_order_file.specs.OrderValues.{name_value, list_value, value_or_null}
use Rattle.eco_order_file.specs.Refusals.{rule_value}
use Rattle.eco_order_file.proofs.Written.{name_plain, from_plain, list_plain}

rule_plain : (front : ℕ) (rule : Rule) → has_float (rule_value front rule) ≡ false
rule_plain front BadJson = refl
rule_plain front (BadField path) = ap (λ b. b || false) (name_plain path).whole
rule_plain front (TooLarge what count) = refl
rule_plain front (BadName name) = ap (λ b. b || false) (name_plain name).whole
rule_plain front (TwiceNamed name) = ap (λ b. b || false) (name_plain name).whole
rule_plain front (UnknownNet net) = ap (λ b. b || false) (name_plain net).whole
rule_plain front (UnknownPin comp pin) = ap₂ (λ a b. a || (b || false)) (name_plain comp).whole (name_plain pin).whole
rule_plain front (WrongFrom comp pin net) =
    ap₂ (λ a b. a || b) (name_plain comp).whole (ap₂ (λ a b. a || (b || false)) (from_plain net).whole (name_plain pin).whole)
rule_plain front (StockPin comp pin) = ap₂ (λ a b. a || (b || false)) (name_plain comp).whole (name_plain pin).whole
rule_plain front (SupplyDriven net) = ap (λ b. b || false) (name_plain net).whole
rule_plain front (NetNameTaken net) = ap (λ b. b || false) (name_plain net).whole
rule_plain front (NotOneDriver net count) = ap (λ b. b || false) (name_plain net).whole
rule_plain front (Loop nets) = ap (λ b. b || false) (list_plain name_value 0 nets name_plain).whole

pub text_of_rule : (front : ℕ) (rule : Rule) (v : Data) (bs : List ℕ) → v ≡ rule_value front rule → (has_float v ≡ false → bs ≡ compact_text v) → bs ≡ compact_text (rule_value front rule)
text_of_rule front rule v bs e h = h (ap has_float e ∙ rule_plain front rule) ∙ ap compact_text e
