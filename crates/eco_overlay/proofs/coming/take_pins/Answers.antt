use Rattle.std.proofs.Common.{ap, sym, ◌∙◌, Vec, None, [], cond, nat_cmp}
use Rattle.std.specs.Option.{option_map_or}
use Rattle.std.specs.BTreeMap.{get_by}
use Rattle.std.specs.Cmp.Lexicographic.{slice_cmp}
use Rattle.std.specs.Global.{Global}
use Rattle.std.proofs.lemmas.Map.Text.{btree_map_updates_str}
use Rattle.eco_overlay.specs.declared.pin_move.PinMove.{PinMove}
use Rattle.eco_overlay.proofs.coming.take_pins.Goals as goal

pub returns-in-Some-clause-pins : goal.returns-in-Some-clause-pins
returns-in-Some-clause-pins c = ap (λ o. option_map_or (λ (ps : Vec PinMove Global). ps.items) o []) (sym c.in-Some.is ∙ c.remove.ensures.value)

pub returns-in-Some-clause-others : goal.returns-in-Some-clause-others
returns-in-Some-clause-others c q off =
    ap (λ o. option_map_or (λ (ps : Vec PinMove Global). ps.items) o [])
    (btree_map_updates_str c.args.net.now c.args.added.now c.remove.new.self None c.remove.ensures.updates q ∙ ap (λ b. cond b None (get_by (λ k. slice_cmp nat_cmp q k.now) c.args.added.now)) off)
