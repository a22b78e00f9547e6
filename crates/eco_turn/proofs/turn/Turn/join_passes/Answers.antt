use Rattle.std.proofs.Common.{rules, ◌≡◌, ◌<◌, ◌⊎◌, [], ◌∷◌, sym, ap, subst, refl, ◌∙◌, inl, inr, ⊎_elim, arith}
use mathlib.Core.Option.{some}
use lib.ListN.{get_elem?}
use Rattle.atomic_table.proofs.Lists.{at_longer}
use Rattle.eco_turn.specs.Plays.{joined_view}
use Rattle.eco_turn.specs.Joined.{IsKnown}
use Rattle.eco_turn.proofs.Lists.{at_end, at_below, at_top}
use Rattle.eco_turn.proofs.Splits.{joins_ok}
use Rattle.eco_turn.proofs.Passes.{ready, has_view, in_first, in_new, in_more}
use Rattle.eco_turn.proofs.turn.Turn.join_passes.Goals as goal

pub into_seat-seat-requires : goal.into_seat-seat-requires
into_seat-seat-requires g c = let e = c.requires.each _ c.in-Some.last (at_top _ c.pop.new.self.items c.in-Some.last c.in-Some.ensures.items) in has_view _ _ _ c.in-Some.last e.0 e.1

pub loop-pass-init : goal.loop-pass-init
loop-pass-init g c =
    let last = c.in-Some.last in let xs = c.pop.new.self.items in let i = c.in-Some.ensures.items in let e = c.requires.each _ last (at_top _ xs last i) in let s = c.into_seat-seat.ensures in
    let q = ready _ _ _ last last.badge c.into_seat-seat.result.me.0 e.0 e.1 refl s.2 in record {
      table = s.0 ∙ (ap (λ b. b.table_id) e.1 ∙ e.0.table);
      empty = s.3;
      idle = (q.outside.out, q.some_number);
      left = λ k p a. c.requires.each k p (subst (λ l. get_elem? l k ≡ some p) (sym i) (at_longer xs (last ∷ []) k p a));
      each = λ k p a. ⊎_elim (λ h. inl h) (λ t. inr (subst (λ z. IsKnown z c.into_seat-seat.result.me.0) t.1 (in_first _ last _ q))) (at_end xs last p k (subst (λ l. get_elem? l k ≡ some p) i a));
    }

pub into_seat-other-requires : goal.into_seat-other-requires
into_seat-other-requires g c =
    let pass = c.in-Some-pop.pass in let e = c.loop-pass.invariant.left _ pass (at_top _ c.pop-in-loop-pass.new.self.items pass c.in-Some-pop.ensures.items) in has_view _ _ _ pass e.0 e.1

pub join_seat-requires : goal.join_seat-requires
join_seat-requires g c =
    let inv = c.loop-pass.invariant in let pass = c.in-Some-pop.pass in let e = inv.left _ pass (at_top _ c.pop-in-loop-pass.new.self.items pass c.in-Some-pop.ensures.items) in let s = c.into_seat-other.ensures in
    let q = ready _ _ _ pass pass.badge c.into_seat-other.result.me.0 e.0 e.1 refl s.2 in (
      inv.table,
      s.0 ∙ (ap (λ b. b.table_id) e.1 ∙ e.0.table),
      s.3,
      search rules,
      joins_ok g.T.Kept.entries g.T.Kept.fixed _ _ _ _ _ _ inv.idle.0 inv.idle.1 q.outside.out q.some_number,
    )

pub loop-pass-preserved : goal.loop-pass-preserved
loop-pass-preserved g c =
    let inv = c.loop-pass.invariant in let pass = c.in-Some-pop.pass in let xs = c.pop-in-loop-pass.new.self.items in let i = c.in-Some-pop.ensures.items in let e = inv.left _ pass (at_top _ xs pass i) in let s = c.into_seat-other.ensures in
    let q = ready _ _ _ pass pass.badge c.into_seat-other.result.me.0 e.0 e.1 refl s.2 in let j = c.join_seat.ensures in let v = c.loop-pass.seat.me.0 in let w = c.into_seat-other.result.me.0 in
    let now : c.join_seat.new.seat.me.0 ≡ joined_view v w = ap (λ z. z.0) j.2 in record {
      table = j.0 ∙ inv.table;
      empty = ap (λ z. z.1) j.2 ∙ inv.empty;
      idle = (ap (λ z. z.stage) now ∙ inv.idle.0, subst (λ z. 0 < z.number) (sym now) inv.idle.1);
      left = λ k p a. inv.left k p (subst (λ l. get_elem? l k ≡ some p) (sym i) (at_longer xs (pass ∷ []) k p a));
      each = λ k p a. subst (λ z. (get_elem? xs k ≡ some p) ⊎ IsKnown p z) (sym now) (⊎_elim
          (λ b. ⊎_elim (λ h. inl h) (λ t. inr (subst (λ z. IsKnown z (joined_view v w)) t.1 (in_new _ pass v w q))) (at_end xs pass p k (subst (λ l. get_elem? l k ≡ some p) i b)))
          (λ b. inr (in_more p v w b)) (inv.each k p a));
    }

pub returns-clause-each : goal.returns-clause-each
returns-clause-each g c = λ k p a. ⊎_elim
    (λ b. let l = at_below c.loop-pass.passes.items k p b in let z = c.in_default-pop.ensures.cases.0 in absurd (omega arith))
    (λ b. b) (c.loop-pass.invariant.each k p a)
