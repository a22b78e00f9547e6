use Rattle.std.proofs.Common.{◌≡◌, false, is_some, sym, subst, ◌∙◌}
use Rattle.eco_lef.specs.Known.{place_of}
use Rattle.eco_lef.proofs.Naming.{one_more_name}
use Rattle.eco_lef.proofs.names.add_name.Goals as goal

pub returns-in_ok-insert : goal.returns-in_ok-insert
returns-in_ok-insert c =
    let named = c.in_ok-from_slice.ensures.items in
    rw named at
    (one_more_name c.args.names.now c.insert.new.self c.in_ok-from_slice.field-0 c.args.place c.in_ok-insert.ensures.updates
    (subst (λ n. is_some (place_of c.args.names.now n) ≡ false) (sym named) (sym c.has_name.ensures ∙ c.if-not-has_name.true)))
