use Rattle.std.proofs.Common.{rules, ◌≡◌, ◌+◌, [], ◌∷◌, length, sym, ap, subst, refl, ◌∙◌, ⊎_elim, arith, length-append}
use mathlib.Core.Option.{some}
use lib.ListN.{get_elem?}
use Rattle.eco_turn.specs.Plays.{left_view}
use Rattle.eco_turn.specs.Turn.{turn_start, IsNew}
use Rattle.eco_turn.proofs.Lists.{at_end}
use Rattle.eco_turn.proofs.Splits.{splits_ok}
use Rattle.eco_turn.proofs.Passes.{is_new}
use Rattle.eco_turn.proofs.turn.Turn.make_passes.Goals as goal

pub split_seat-new-requires : goal.split_seat-new-requires
split_seat-new-requires g c =
    let s = c.loop-made.invariant.seat in let m : c.loop-made.seat.me.0.seats ≡ c.loop-made.made + 1 = ap (λ z. z.0.seats) s in let most = c.requires.count in (
      search rules,
      search rules,
      splits_ok g.T.Kept.entries g.T.Kept.fixed _ _ _ _ (omega arith) (omega arith) (ap (λ z. z.0.stage) s ∙ ap (λ z. z.0.stage) c.requires.seat),
    )

pub loop-made-preserved : goal.loop-made-preserved
loop-made-preserved g c =
    let inv = c.loop-made.invariant in let split = c.split_seat-new.ensures in let made = c.loop-made.made in let p' = c.of.result in let most = c.requires.count in record {
      table = split.0 ∙ inv.table;
      seat = split.2 ∙ ap (λ z. (left_view z.0, z.1)) inv.seat;
      count = ap length c.push_reserved.ensures.items ∙ (length-append c.loop-made.list.items (p' ∷ []) ∙ ap (λ k. k + 1) inv.count);
      room = c.push_reserved.ensures.capacity ∙ inv.room;
      each = λ k p e. ⊎_elim (λ h. inv.each k p h)
          (λ t. let new = is_new g.T.Kept.entries g.T.Kept.fixed c.args.self.now (turn_start c.args.self.now) (made + 1) c.loop-made.seat.me.0 c.split_seat-new.result.me.0 c.into_badge.result p'
          (ap (λ z. z.0) inv.seat ∙ ap (λ z. record z.0 { seats = made + 1 }) c.requires.seat) (ap (λ z. z.0) split.4) c.into_badge.ensures.2
          (c.into_badge.ensures.0 ∙ (split.3 ∙ (inv.table ∙ c.requires.table))) refl c.of.ensures.0 c.of.ensures.1 c.of.ensures.2 (omega arith, omega arith) in
          let at : made + 1 ≡ k + 1 = ap (λ n. n + 1) (sym inv.count ∙ sym t.0) in
          subst (λ n. IsNew g.T.Kept.entries g.T.Kept.fixed c.args.self.now (turn_start c.args.self.now) n p) at (subst (IsNew g.T.Kept.entries g.T.Kept.fixed c.args.self.now (turn_start c.args.self.now) (made + 1)) t.1 new))
          (at_end c.loop-made.list.items p' p k (subst (λ l. get_elem? l k ≡ some p) c.push_reserved.ensures.items e));
    }
