use Rattle.std.proofs.Common.{◌≡◌, ◌∙◌, refl, ap, Bool, true, false, cond, Option, is_some, Some}
use Rattle.std.specs.Str.{bytes_eq}
use Rattle.std.specs.HashMap.{get_by}
use Rattle.std.proofs.lemmas.Map.Text.{hash_map_updates_str}
use Rattle.eco_master_faults.proofs.used.add_model.Goals as goal

is_some-cond : (b : Bool) (x : Unit {0}) (o : Option (Unit {0})) → is_some (cond b (Some x) o) ≡ cond b true (is_some o)
is_some-cond true x o = refl
is_some-cond false x o = refl

pub returns : goal.returns
returns c q =
    ap is_some (hash_map_updates_str c.args.name.now c.args.used.now c.insert.new.self (Some tt) c.in_ok-insert.ensures.updates q)
    ∙ is_some-cond (bytes_eq c.args.name.now q) tt (get_by (λ k. bytes_eq q k.now) c.args.used.now)
