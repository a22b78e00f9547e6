use Rattle.std.proofs.Common.{◌∙◌, ℕ, List, sym, ap}
use Rattle.std.specs.List.{find, list_any}
use Rattle.std.specs.Option.{option_map}
use Rattle.std.specs.Borrow.{Bor}
use Rattle.eco_def.specs.declared.design.Comp.{Comp}
use Rattle.eco_def.specs.declared.design.NetStatement.{NetStatement}
use Rattle.eco_text.specs.Cursor.{word_bytes}
use Rattle.eco_pin_faults.specs.declared.placed_pin.PlacedPin.{PlacedPin}
use Rattle.eco_pin_faults.specs.Faults.{pattern_at}
use Rattle.eco_pin_faults.specs.Held.{place_by}
use Rattle.eco_pin_faults.specs.Patterns.{is_pattern_on}
use Rattle.eco_pin_faults.specs.Places.{joints_among}
use Rattle.eco_pin_faults.proofs.Told.{pattern_told, pattern_named, no_every}
use Rattle.eco_pin_faults.proofs.pattern.find_pattern.Goals as goal

pub returns-in-None : goal.returns-in-None
returns-in-None g c =
    let kinds = g.M.Macros.kinds c.args.macros.now in
    let text = c.args.text.now in
    let models = c.as_slice-distinct.result.now in
    ap (option_map (λ (p : PlacedPin). pattern_at (place_by p))) (sym c.in-None.is)
    ∙ pattern_told kinds text c.args.design.now models c.in_ok-first.first
    (λ test. ap (list_any (λ (m : Bor (List ℕ)). test m.now)) c.as_slice-distinct.ensures.value ∙ c.in_ok-models.ensures test ∙ ap (list_any (λ (c : Comp). test (word_bytes text c.model))) c.as_slice-comps.ensures)
    (c.in_ok-first.ensures ∙ ap (λ (ns : List NetStatement). find (is_pattern_on kinds models) (joints_among text ns)) c.as_slice-nets.ensures)

pub returns : goal.returns
returns g c =
    let kinds = g.M.Macros.kinds c.args.macros.now in
    let text = c.args.text.now in
    let models = c.as_slice-distinct.result.now in
    pattern_named c.in-Some.place c.in_ok-net-in-Some.net c.in_ok-pin-in-Some.pin c.in_ok-net-in-Some.ensures c.in_ok-pin-in-Some.ensures
    ∙ ap (option_map (λ (p : PlacedPin). pattern_at (place_by p))) (sym c.in-Some.is)
    ∙ pattern_told kinds text c.args.design.now models c.in_ok-first.first
    (λ test. ap (list_any (λ (m : Bor (List ℕ)). test m.now)) c.as_slice-distinct.ensures.value ∙ c.in_ok-models.ensures test ∙ ap (list_any (λ (c : Comp). test (word_bytes text c.model))) c.as_slice-comps.ensures)
    (c.in_ok-first.ensures ∙ ap (λ (ns : List NetStatement). find (is_pattern_on kinds models) (joints_among text ns)) c.as_slice-nets.ensures)

pub returns-then-not-have_every : goal.returns-then-not-have_every
returns-then-not-have_every g c =
    ap (option_map pattern_at) (sym (no_every (g.M.Macros.kinds c.args.macros.now) c.args.text.now c.args.design.now c.as_slice-nets.result.now c.as_slice-nets.ensures (sym c.have_every.ensures ∙ c.if-not-have_every.true)))
