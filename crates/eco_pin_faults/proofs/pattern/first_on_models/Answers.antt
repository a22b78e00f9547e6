use Rattle.std.proofs.Common.{◌∙◌, sym, ap}
use Rattle.std.specs.List.{find}
use Rattle.std.specs.Option.{option_map}
use Rattle.std.proofs.lemmas.Grind.{flat_map-append}
use Rattle.std.proofs.lemmas.List.{append-nil}
use Rattle.eco_pin_faults.specs.Held.{place_by}
use Rattle.eco_pin_faults.specs.Patterns.{is_pattern_on}
use Rattle.eco_pin_faults.specs.Places.{joints_on, joints_among}
use Rattle.eco_pin_faults.proofs.Lists.{some_map, item_some, item_none}
use Rattle.eco_pin_faults.proofs.pattern.first_on_models.Goals as goal

pub returns-then-is_some : goal.returns-then-is_some
returns-then-is_some g c =
    let test = is_pattern_on (g.M.Macros.kinds c.args.macros.now) c.args.models.now in
    item_some (joints_among c.args.text.now) (flat_map-append (joints_on c.args.text.now)) test
    c.args.nets.now c.loop-net.net-index c.net-item.result c.loop-net-test.true c.net-item.is (option_map place_by c.in_ok-first.first)
    c.loop-net.invariant.none (c.in_ok-first.ensures.found ∙ ap (find test) (sym (append-nil (joints_on c.args.text.now c.net-item.result)))) (some_map place_by c.in_ok-first.first ∙ sym c.is_some.ensures ∙ c.if-is_some.true)

pub loop-net-preserved : goal.loop-net-preserved
loop-net-preserved g c =
    let test = is_pattern_on (g.M.Macros.kinds c.args.macros.now) c.args.models.now in
    record {
      none = item_none (joints_among c.args.text.now) (flat_map-append (joints_on c.args.text.now)) test
          c.args.nets.now c.loop-net.net-index c.net-item.result c.loop-net-test.true c.net-item.is (option_map place_by c.in_ok-first.first)
          c.loop-net.invariant.none (c.in_ok-first.ensures.found ∙ ap (find test) (sym (append-nil (joints_on c.args.text.now c.net-item.result)))) (some_map place_by c.in_ok-first.first ∙ sym c.is_some.ensures ∙ c.if-is_some.false);
      cleared = c.in_ok-first.ensures.cleared;
    }
