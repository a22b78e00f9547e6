use Rattle.std.proofs.Common.{map, string_bytes}
use Rattle.eco_cli.proofs.FourTexts.{checked_texts, applied_texts}
use Rattle.eco_cli.proofs.plan.make_plan.Goals as goal

pub base_texts-requires : goal.base_texts-requires
base_texts-requires c = checked_texts (map string_bytes c.args.asked.now.values.now) (map (λ t. t.items) c.args.texts.items) (rw c.in-Check.is at c.requires.within)

pub base_texts-requires-in-Apply : goal.base_texts-requires-in-Apply
base_texts-requires-in-Apply c = applied_texts (map string_bytes c.args.asked.now.values.now) (map (λ t. t.items) c.args.texts.items) (rw c.in-Apply.is at c.requires.within)

pub returns-in-Check : goal.returns-in-Check
returns-in-Check c = rw (c.in-Check.is, ← c.base_texts.ensures) c.plan_check.ensures

pub returns-in-Apply : goal.returns-in-Apply
returns-in-Apply c = rw (c.in-Apply.is, ← c.base_texts-in-Apply.ensures) c.plan_apply.ensures
