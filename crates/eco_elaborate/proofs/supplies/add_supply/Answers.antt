use Rattle.std.proofs.Common.{◌≡◌, ◌∙◌, sym, Bool, false, Option, Some, None, is_some, refl, true≢false}
use Rattle.std.proofs.lemmas.Map.Text.{hash_map_updates_str}
use Rattle.eco_elaborate.specs.Stages.{supply_value}
use Rattle.eco_elaborate.proofs.Valued.{given_once}
use Rattle.eco_elaborate.proofs.supplies.add_supply.Goals as goal

none : (o : Option Bool) → is_some o ≡ false → o ≡ None
none None e = refl
none (Some b) e = absurd (true≢false e)

pub returns-in_ok-insert : goal.returns-in_ok-insert
returns-in_ok-insert c n =
    hash_map_updates_str c.args.name.now c.args.supplies.now c.insert.new.self (Some c.args.value) c.in_ok-insert.ensures.updates n
    ∙ given_once (supply_value c.args.supplies.now) c.args.name.now (Some c.args.value) n (none (supply_value c.args.supplies.now c.args.name.now) (sym c.contains_key.ensures ∙ c.if-not-contains_key.true))
