-- Splitting and joining seats keeps the rule.
use Rattle.std.proofs.Common.{◌≡◌, ◌≢◌, ℕ, ◌+◌, ◌<◌, ◌≤◌, List, [], ◌∷◌, ◌++◌, map, length, set, sym, refl, ap, subst, ◌∙◌, inl, inr, ⊎_elim, arith, length-set, length-append}
use mathlib.Core.Option.{some, some-injective, some-ne-none}
use mathlib.Core.List.{map-append}
use lib.ListN.{get_elem?, length-map}
use Rattle.std.specs.List.{sum_by}
use Rattle.std.proofs.lemmas.List.{map-set}
use Rattle.std.proofs.lemmas.List.Sums.{sum_by-append}
use Rattle.atomic_table.specs.Table.{Splits, Joins}
use Rattle.atomic_table.proofs.Lists.{set_here, set_else, at_map, at_longer}
use Rattle.eco_turn.specs.declared.view.View.{View}
use Rattle.eco_turn.specs.declared.view.Returned.{Returned}
use Rattle.eco_turn.specs.declared.view.Stage.TheVariants.{Outside, Inside}
use Rattle.eco_turn.specs.Entries.{entries_by}
use Rattle.eco_turn.specs.View.{tickets, values, number_of, stage_of, ticket_count}
use Rattle.eco_turn.specs.Rule.{IsReturned, IsSeated, HaveOwnTickets, IsRuled}
use Rattle.eco_turn.specs.Plays.{left_view, right_view, returned_of, joined_view, spent_view}
use Rattle.eco_turn.proofs.Lists.{at_below, sum_at, map_kept, each_set, at_end, at_cons}
use Rattle.eco_turn.proofs.Moves.{not_inside, apart_set, holder_set}

module _ {E : Type 0} where
  returned_on : (h : List (ℕ × E)) (ns : List ℕ) (n : ℕ) (p : Returned E) → IsReturned h ns p → IsReturned h (ns ++ n ∷ []) p
  returned_on h ns n p g = record { spent = at_longer ns (n ∷ []) p.number 0 g.spent; seen = g.seen; own = g.own }

module _ {E F : Type 0} where
  apart_snoc : (vs : List (View E F)) (o : View E F) → o.stage ≡ Outside → HaveOwnTickets vs → HaveOwnTickets (vs ++ o ∷ [])
  apart_snoc vs o out old i j x y ex ey a b t =
      let back : (k : ℕ) (z : View E F) → get_elem? (vs ++ o ∷ []) k ≡ some z → 0 < ticket_count z → get_elem? vs k ≡ some z = λ k z e l.
      ⊎_elim (λ h. h) (λ (q : (k ≡ length vs) × (o ≡ z)). let st : ticket_count o ≡ ticket_count z = ap ticket_count q.1 in let no : ticket_count o ≡ 0 = ap tickets out in absurd (omega arith)) (at_end vs o z k e) in
      old i j x y (back i x ex a) (back j y ey b) a b t

module _ {T E F : Type 0} (entries : T → List (ℕ × E)) (fixed : T → F) (start : T) (passes : ℕ) where
  pub splits_ok : (id : ℕ) (v : View E F) → 0 < v.seats → v.seats ≤ passes → v.stage ≡ Outside → Splits (IsRuled entries fixed start passes) id v (left_view v) (right_view v)
  splits_ok id v makes room out s r at =
      let w : View E F = left_view v in let o : View E F = right_view v in let vs : List (View E F) = s.views in let ns : List ℕ = map number_of vs in let n : ℕ = v.seats in
      let ok = r.each id v at in let f = fixed start in let made = ok.makes makes in let h = r.history in
      let len : length ns ≡ length vs = length-map vs number_of in
      let size : length (set vs id w ++ o ∷ []) ≡ length vs + 1 = length-append (set vs id w) (o ∷ []) ∙ ap (λ k. k + 1) (length-set vs id w) in
      let made₁ = made.1 in let made₀ = made.0 in
      let names : map number_of (set vs id w ++ o ∷ []) ≡ ns ++ n ∷ [] = map-append number_of (set vs id w) (o ∷ []) ∙ ap (λ l. l ++ n ∷ []) (map_kept number_of vs id v w at refl) in
      let long : length (ns ++ n ∷ []) ≡ n + 1 = length-append ns (n ∷ []) ∙ ap (λ k. k + 1) made.1 in
      let fresh : entries_by n h ≡ [] = r.unmade n (omega arith) room in
      let me : IsSeated f h (ns ++ n ∷ []) r.served r.drawn id w = record {
        waits = ok.waits;
        holds = ok.holds;
        named = ok.named;
        makes = λ _. (made.0, long, made.2);
        none = ok.none;
        seen = ok.seen;
        returns = λ k p e. returned_on h ns n p (ok.returns k p e);
      } in
      let others : (j : ℕ) (d : View E F) → j ≢ id → get_elem? vs j ≡ some d → IsSeated f h (ns ++ n ∷ []) r.served r.drawn j d = λ j d ne e. let ok' = r.each j d e in record {
        waits = ok'.waits;
        holds = ok'.holds;
        named = ok'.named;
        makes = λ a. absurd (ne ((ok'.makes a).0 ∙ sym made.0));
        none = ok'.none;
        seen = ok'.seen;
        returns = λ k p e. returned_on h ns n p (ok'.returns k p e);
      } in
      let new : IsSeated f h (ns ++ n ∷ []) r.served r.drawn (length (set vs id w)) o = record {
        waits = λ a. absurd (omega arith);
        holds = λ a. absurd (omega arith);
        named = λ _. (sym made.1 ∙ (len ∙ sym (length-set vs id w)), fresh, made.2);
        makes = λ a. absurd (omega arith);
        none = λ _. refl;
        seen = ok.seen;
        returns = λ k p e. absurd (some-ne-none p (sym e));
      } in
      let sum = sum_at ticket_count vs id v w at in let more = sum_by-append ticket_count (set vs id w) (o ∷ []) in let counted = r.counted in
      let b₀ : ticket_count v ≡ 0 = ap tickets out in let b₁ : ticket_count w ≡ ticket_count v = refl in let b₂ : sum_by ticket_count (o ∷ []) ≡ 0 = refl in record {
        history = h;
        served = r.served;
        drawn = r.drawn;
        three = r.three;
        one = r.one;
        ticket_is = r.ticket_is;
        serving_is = r.serving_is;
        count_is = r.count_is;
        few = (omega arith, r.few.1);
        each = subst (λ z. (j : ℕ) (d : View E F) → get_elem? (set vs id w ++ o ∷ []) j ≡ some d → IsSeated f h z r.served r.drawn j d) (sym names)
            (λ j d e. ⊎_elim (each_set (IsSeated f h (ns ++ n ∷ []) r.served r.drawn) vs id w me others j d)
            (λ (t : (j ≡ length (set vs id w)) × (o ≡ d)). subst (λ (x : ℕ × View E F). IsSeated f h (ns ++ n ∷ []) r.served r.drawn x.0 x.1) (λ k. (sym t.0 k, t.1 k)) new) (at_end (set vs id w) o d j e));
        apart = apart_snoc (set vs id w) o refl (apart_set vs id w r.apart (λ a. absurd (omega arith)));
        counted = omega arith;
        grown = r.grown;
        unmade = λ k a b. r.unmade k (omega arith) b;
        lies = ⊎_elim (λ t. inl t) (λ (t : (j : ℕ) × (get_elem? (map stage_of vs) j ≡ some Inside)). inr (
          t.0,
          ap (λ l. get_elem? l t.0) (map-append stage_of (set vs id w) (o ∷ []))
              ∙ at_longer (map stage_of (set vs id w)) (Outside ∷ []) t.0 Inside (holder_set vs id t.0 v w at (not_inside v.stage (ap values out)) t.1),
        )) r.lies;
      }

  pub joins_ok : (id : ℕ) (v : View E F) (other : ℕ) (w : View E F) → v.stage ≡ Outside → 0 < v.number → w.stage ≡ Outside → 0 < w.number → Joins (IsRuled entries fixed start passes) id v other w (joined_view v w) spent_view
  joins_ok id v other w out named out' named' s r at apart there =
      let u : View E F = joined_view v w in let vs : List (View E F) = s.views in let ns : List ℕ = map number_of vs in let h = r.history in let mid : List (View E F) = set vs id u in
      let was : get_elem? vs other ≡ some w = sym (set_else vs id other u apart) ∙ there in
      let ok = r.each id v at in let f = fixed start in let ok' = r.each other w was in let mine = ok.named named in let mine' = ok'.named named' in
      let names : map number_of (set mid other spent_view) ≡ set ns other 0 = map-set number_of mid other spent_view ∙ ap (λ l. set l other 0) (map_kept number_of vs id v u at refl) in
      let size : length (set mid other spent_view) ≡ length vs = length-set mid other spent_view ∙ length-set vs id u in
      let count : length (set ns other 0) ≡ length ns = length-set ns other 0 in
      let still : (p : Returned E) → IsReturned h ns p → IsReturned h (set ns other 0) p = λ p g. record {
        spent = set_else ns other p.number 0 (λ e. let q : 0 ≡ w.number = some-injective 0 w.number (sym g.spent ∙ (ap (λ k. get_elem? ns k) e ∙ at_map number_of vs other w was)) in omega arith) ∙ g.spent;
        seen = g.seen;
        own = g.own;
      } in
      let last : IsReturned h (set ns other 0) (returned_of w) = record {
        spent = ap (λ k. get_elem? (set ns other 0) k) mine'.0 ∙ set_here ns other 0 (at_below ns other w.number (at_map number_of vs other w was));
        seen = ok'.seen;
        own = mine'.1;
      } in
      let all : (k : ℕ) (p : Returned E) → get_elem? (returned_of w ∷ v.returned) k ≡ some p → IsReturned h (set ns other 0) p = at_cons (IsReturned h (set ns other 0)) (returned_of w) v.returned last (λ k p e. still p (ok.returns k p e)) in
      let me : IsSeated f h (set ns other 0) r.served r.drawn id u = record {
        waits = ok.waits;
        holds = ok.holds;
        named = ok.named;
        makes = λ a. let q = ok.makes a in (q.0, count ∙ q.1, q.2);
        none = ok.none;
        seen = ok.seen;
        returns = all;
      } in
      let rest : (j : ℕ) (d : View E F) → j ≢ id → get_elem? vs j ≡ some d → IsSeated f h (set ns other 0) r.served r.drawn j d = λ j d ne e. let o = r.each j d e in record {
        waits = o.waits;
        holds = o.holds;
        named = o.named;
        makes = λ a. let q = o.makes a in (q.0, count ∙ q.1, q.2);
        none = o.none;
        seen = o.seen;
        returns = λ k p e. still p (o.returns k p e);
      } in
      let done : IsSeated f h (set ns other 0) r.served r.drawn other spent_view = record {
        waits = λ a. absurd (omega arith);
        holds = λ a. absurd (omega arith);
        named = λ a. absurd (omega arith);
        makes = λ a. absurd (omega arith);
        none = λ _. refl;
        seen = (h, refl);
        returns = λ k p e. absurd (some-ne-none p (sym e));
      } in
      let sum₁ = sum_at ticket_count vs id v u at in let sum₂ = sum_at ticket_count mid other w spent_view there in let counted = r.counted in
      let b₀ : ticket_count v ≡ 0 = ap tickets out in let b₁ : ticket_count u ≡ ticket_count v = refl in let b₂ : ticket_count w ≡ 0 = ap tickets out' in let b₃ : ticket_count {E = E} {F = F} spent_view ≡ 0 = refl in record {
        history = h;
        served = r.served;
        drawn = r.drawn;
        three = r.three;
        one = r.one;
        ticket_is = r.ticket_is;
        serving_is = r.serving_is;
        count_is = r.count_is;
        few = (subst (λ k. k ≤ passes + 1) (sym size) r.few.0, r.few.1);
        each = subst (λ z. (j : ℕ) (d : View E F) → get_elem? (set mid other spent_view) j ≡ some d → IsSeated f h z r.served r.drawn j d) (sym names)
            (each_set (IsSeated f h (set ns other 0) r.served r.drawn) mid other spent_view done (λ j d _ e. each_set (IsSeated f h (set ns other 0) r.served r.drawn) vs id u me rest j d e));
        apart = apart_set mid other spent_view (apart_set vs id u r.apart (λ a. absurd (omega arith))) (λ a. absurd (omega arith));
        counted = omega arith;
        grown = r.grown;
        unmade = λ k a b. r.unmade k (omega arith) b;
        lies = ⊎_elim (λ t. inl t) (λ (t : (j : ℕ) × (get_elem? (map stage_of vs) j ≡ some Inside)).
            inr (t.0, holder_set mid other t.0 w spent_view there (not_inside w.stage (ap values out')) (holder_set vs id t.0 v u at (not_inside v.stage (ap values out)) t.1))) r.lies;
      }
