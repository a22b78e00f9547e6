use Rattle.std.proofs.Common.{sym, ◌∙◌, arith}
use mathlib.Core.Option.{some-injective}
use lib.ListN.{length-map}
use Rattle.eco_turn.specs.Pass.{pass_number, HasLeft}
use Rattle.eco_turn.specs.Turn.{IsPassOf}
use Rattle.eco_turn.proofs.Lists.{all_at}
use Rattle.eco_turn.proofs.Passes.{closes, is_last}
use Rattle.eco_turn.proofs.turn.Turn.close.Goals as goal

pub join_passes-seat-requires-clause-some : goal.join_passes-seat-requires-clause-some
join_passes-seat-requires-clause-some g c = let some_pass = c.args.self.has_passes in let one = c.requires.all 1 (omega arith, omega arith) in let low = one.1 in let len = length-map c.args.passes.items pass_number in omega arith

pub join_passes-seat-requires-clause-each : goal.join_passes-seat-requires-clause-each
join_passes-seat-requires-clause-each g c = all_at (λ k p. IsPassOf g.T.Kept.fixed c.args.self p × HasLeft p) c.args.passes.items c.requires.each

pub unreachable-requires : goal.unreachable-requires
unreachable-requires g c =
    let seat = c.join_passes-seat.ensures in let t = closes g.T.Kept.entries g.T.Kept.fixed _ _ _ _ _ c.join_passes-seat.result.me.0 c.args.passes.items seat.seat.2 c.requires.all seat.each c.close_with-closed.ensures.values.2 in
    c.in_default.not-Some t.value (some-injective _ _ (sym c.take-slot.ensures.value ∙ t.lies))

pub returns-clause-fixed : goal.returns-clause-fixed
returns-clause-fixed g c =
    let seat = c.join_passes-seat.ensures in let t = closes g.T.Kept.entries g.T.Kept.fixed _ _ _ _ _ c.join_passes-seat.result.me.0 c.args.passes.items seat.seat.2 c.requires.all seat.each c.close_with-closed.ensures.values.2 in
    (is_last g.T.Kept.entries g.T.Kept.fixed _ _ _ _ c.args.passes.items seat.each t c.in-Some.value c.in-Some.ensures.value).fixed_is

pub returns-clause-seen : goal.returns-clause-seen
returns-clause-seen g c =
    let seat = c.join_passes-seat.ensures in let t = closes g.T.Kept.entries g.T.Kept.fixed _ _ _ _ _ c.join_passes-seat.result.me.0 c.args.passes.items seat.seat.2 c.requires.all seat.each c.close_with-closed.ensures.values.2 in
    (is_last g.T.Kept.entries g.T.Kept.fixed _ _ _ _ c.args.passes.items seat.each t c.in-Some.value c.in-Some.ensures.value).seen

pub returns-clause-own : goal.returns-clause-own
returns-clause-own g c =
    let seat = c.join_passes-seat.ensures in let t = closes g.T.Kept.entries g.T.Kept.fixed _ _ _ _ _ c.join_passes-seat.result.me.0 c.args.passes.items seat.seat.2 c.requires.all seat.each c.close_with-closed.ensures.values.2 in
    (is_last g.T.Kept.entries g.T.Kept.fixed _ _ _ _ c.args.passes.items seat.each t c.in-Some.value c.in-Some.ensures.value).own

pub returns-clause-grown : goal.returns-clause-grown
returns-clause-grown g c =
    let seat = c.join_passes-seat.ensures in let t = closes g.T.Kept.entries g.T.Kept.fixed _ _ _ _ _ c.join_passes-seat.result.me.0 c.args.passes.items seat.seat.2 c.requires.all seat.each c.close_with-closed.ensures.values.2 in
    (is_last g.T.Kept.entries g.T.Kept.fixed _ _ _ _ c.args.passes.items seat.each t c.in-Some.value c.in-Some.ensures.value).grown
