use Rattle.std.proofs.Common.{rules, ◌<◌, sym, ap, subst, ◌∙◌, arith, Some}
use Rattle.eco_turn.specs.Entries.{Adds}
use Rattle.eco_turn.proofs.Steps.{notes_ok, passes_on_ok}
use Rattle.eco_turn.proofs.Passes.{put}
use Rattle.eco_turn.proofs.turn.Turn.leave.Goals as goal

pub swap-requires : goal.swap-requires
swap-requires g c =
    let h = c.args.held in let out = c.requires.pass.1 in let some_number = c.requires.pass.0.numbers.0 in let n = out.number in
    let e = put g.T.Kept.entries g.T.Kept.fixed h.seat.me c.exchange-slot.new.seat.me h.value c.exchange-slot.ensures.3 out.empty in
    let named : 0 < h.seat.me.0.number = omega arith in
    let adds : Adds h.seat.me.0.number h.seat.me.0.seen (g.T.Kept.entries h.value) = subst (λ k. Adds k h.seat.me.0.seen (g.T.Kept.entries h.value)) (sym n) c.requires.adds in (
      search rules,
      search rules,
      notes_ok g.T.Kept.entries g.T.Kept.fixed _ _ _ _ _ h.value _ (ap (λ m. m.0.stage) e ∙ out.stage) (subst (λ m. 0 < m.0.number) (sym e) named) (ap (λ m. m.1) e)
          (subst (λ m. Adds m.0.number m.0.seen (g.T.Kept.entries h.value)) (sym e) adds) (search rules),
    )

pub fetch_add-served-requires : goal.fetch_add-served-requires
fetch_add-served-requires g c =
    let h = c.args.held in let out = c.requires.pass.1 in let some_number = c.requires.pass.0.numbers.0 in let n = out.number in
    let e = put g.T.Kept.entries g.T.Kept.fixed h.seat.me c.exchange-slot.new.seat.me h.value c.exchange-slot.ensures.3 out.empty in
    let named : 0 < h.seat.me.0.number = omega arith in
    let e' = c.swap.ensures.2.1 h.value (ap (λ m. m.1) e) in
    let v = ap (λ m. m.0) e in (
      search rules,
      search rules,
      passes_on_ok g.T.Kept.entries g.T.Kept.fixed _ _ _ _ _ h.value (ap (λ m. m.0.stage) e' ∙ (ap (λ w. w.stage) v ∙ out.stage)) (subst (λ m. 0 < m.0.number) (sym e') (subst (λ w. 0 < w.number) (sym v) named))
          (ap (λ m. m.1) e' ∙ ap (λ m. m.1) e) (ap (λ m. m.0.seen) e') (ap (λ m. m.0.fixed) e' ∙ (ap (λ w. w.fixed) v ∙ (out.fixed_is ∙ ap (λ z. Some z) (sym c.requires.fixed)))),
    )
