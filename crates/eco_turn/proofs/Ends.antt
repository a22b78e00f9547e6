-- The rule holds of a new table, and what it says of the last value.
use Rattle.std.proofs.Common.{◌≡◌, ℕ, zero, suc, ◌<◌, ◌≤◌, ◌⊎◌, List, [], ◌∷◌, map, length, Option, Some, sym, refl, ap, subst, ◌∙◌, inl, ⊎_elim, arith}
use mathlib.Core.Logic.{dite}
use mathlib.Core.Option.{some, some-injective, some-ne-none}
use mathlib.Core.List.{IsPrefix}
use native.Mathlib.Decide.{ℕ_discrete}
use lib.ListN.{get_elem?}
use Rattle.std.specs.List.{All}
use Rattle.atomic_table.specs.Table.{opening, Final, Seen}
use Rattle.atomic_table.proofs.Lists.{at_map}
use Rattle.eco_turn.specs.declared.view.View.{View}
use Rattle.eco_turn.specs.declared.view.Returned.{Returned}
use Rattle.eco_turn.specs.declared.view.Stage.TheVariants.{Outside, Inside}
use Rattle.eco_turn.specs.Entries.{IsPass, entries_by, Grows}
use Rattle.eco_turn.specs.View.{values, number_of, stage_of, value_count}
use Rattle.eco_turn.specs.Rule.{maker_view, IsSeated, IsRuled}
use Rattle.eco_turn.proofs.Lists.{at_below, at_one, prefix_self, at_unmap}
use Rattle.eco_turn.proofs.Added.{by_strangers, grows_none}

module _ {T E F : Type 0} (entries : T → List (ℕ × E)) (fixed : T → F) (passes : ℕ) where
  pub opens_ok : (words : List ℕ) (slots : List (Option T)) (x : T) → words ≡ 0 ∷ 0 ∷ length (entries x) ∷ [] → slots ≡ Some x ∷ [] → 0 < passes → passes ≤ 64 → All (λ (e : ℕ × E). ¬ IsPass passes e.0) (entries x)
      → IsRuled entries fixed x passes (opening words slots (maker_view (entries x) (fixed x)))
  opens_ok words slots x are lie has_passes few strange = subst (λ (z : List ℕ × List (Option T)). IsRuled entries fixed x passes (opening z.0 z.1 (maker_view (entries x) (fixed x)))) (λ k. (sym are k, sym lie k)) record {
    history = entries x;
    served = 0;
    drawn = 0;
    three = refl;
    one = refl;
    ticket_is = refl;
    serving_is = refl;
    count_is = refl;
    few = (omega arith, few);
    each = λ j d e. one_seat j d e;
    apart = λ i j a b ea eb la. absurd (let h = one_seat i a ea in let q = h.waits la in let q₀ = q.0 in let q₁ = q.1 in omega arith);
    counted = refl;
    grown = grows_none passes (entries x);
    unmade = λ n a b. by_strangers passes n (entries x) strange (omega arith, b);
    lies = inl (x, refl, refl, refl);
  }
    where
      one_seat : (j : ℕ) (d : View E F) → get_elem? (maker_view (entries x) (fixed x) ∷ []) j ≡ some d → IsSeated (fixed x) (entries x) (0 ∷ []) 0 0 j d
      one_seat zero d e = subst (IsSeated (fixed x) (entries x) (0 ∷ []) 0 0 0) (some-injective (maker_view (entries x) (fixed x)) d e) record {
        waits = λ a. absurd (omega arith);
        holds = λ a. absurd (omega arith);
        named = λ a. absurd (omega arith);
        makes = λ _. (refl, refl, refl);
        none = λ _. refl;
        seen = prefix_self (entries x);
        returns = λ k p e. absurd (some-ne-none p (sym e));
      }
      one_seat (suc j) d e = absurd (some-ne-none d (sym e))

module _ {T E F : Type 0} (entries : T → List (ℕ × E)) (fixed : T → F) (start : T) (passes : ℕ) where
  -- the value as it is taken out in the end
  pub record Taken (xs : List (Option T)) (v : View E F) : Type 0 where
    pub value : T
    pub lies : get_elem? xs 0 ≡ some (Some value)
    pub fixed_is : fixed value ≡ fixed start
    pub seen : IsPrefix v.seen (entries value)
    pub own : entries_by v.number (entries value) ≡ v.own
    pub grown : Grows passes (entries start) (entries value)
    pub each : (k : ℕ) (p : Returned E) → get_elem? v.returned k ≡ some p → IsPrefix p.seen (entries value) × (entries_by p.number (entries value) ≡ p.own)

  -- the pass n is the last one, or was returned
  abbrev IsNamed : ℕ → View E F → Type 0
  IsNamed n v = (n ≡ v.number) ⊎ ((k : ℕ) × (p : Returned E) × (get_elem? v.returned k ≡ some p) × (n ≡ p.number))

  pub ends_ok : (ws : List ℕ) (xs : List (Option T)) (id : ℕ) (v : View E F) → v.stage ≡ Outside → 0 < v.number → ((n : ℕ) → 0 < n → n ≤ passes → IsNamed n v) → Final (Seen (IsRuled entries fixed start passes) id v) ws xs → Taken xs v
  ends_ok ws xs id v out named all end =
      let s = end.0 in let r = end.1.0 in let at = end.1.1 in let ok = r.each id v at in let mine = ok.named named in
      ⊎_elim
      (λ (t : (x : T) × (get_elem? s.homes 0 ≡ some (some (Some x))) × (entries x ≡ r.history) × (fixed x ≡ fixed start)). let x = t.0 in record {
        value = x;
        lies = end.4 0 (Some x) t.1;
        fixed_is = t.3;
        seen = subst (λ z. IsPrefix v.seen z) (sym t.2) ok.seen;
        own = ap (λ z. entries_by v.number z) t.2 ∙ mine.1;
        grown = subst (λ z. Grows passes (entries start) z) (sym t.2) r.grown;
        each = λ k p e. let g = ok.returns k p e in (subst (λ z. IsPrefix p.seen z) (sym t.2) g.seen, ap (λ z. entries_by p.number z) t.2 ∙ g.own);
      })
      (λ (t : (j : ℕ) × (get_elem? (map stage_of s.views) j ≡ some Inside)). let q = at_unmap stage_of s.views t.0 Inside t.1 in let d = q.0 in let two : value_count d ≡ 1 = ap values q.2 in let a : value_count v ≡ 0 = ap values out in let o = r.each t.0 d q.1 in
      let some_number : 0 < d.number = dite (ℕ_discrete d.number 0) (λ z. let no : value_count d ≡ 0 = ap values (o.none z) in absurd (omega arith)) (λ z. omega arith) in
      let own = o.named some_number in let own₀ = own.0 in let below = at_below s.views t.0 d q.1 in let few₀ = r.few.0 in
      absurd (⊎_elim
      (λ (e : d.number ≡ v.number). let same : t.0 ≡ id = sym own.0 ∙ (e ∙ mine.0) in let one = at_one s.views id d v (subst (λ k. get_elem? s.views k ≡ some d) same q.1) at in
      let st : value_count d ≡ value_count v = ap value_count one in omega arith)
      (λ (e : (k : ℕ) × (p : Returned E) × (get_elem? v.returned k ≡ some p) × (d.number ≡ p.number)). let g = ok.returns e.0 e.1 e.2 in
      let z : 0 ≡ d.number = some-injective 0 d.number (sym g.spent ∙ (ap (λ k. get_elem? (map number_of s.views) k) (sym e.3 ∙ own.0) ∙ at_map number_of s.views t.0 d q.1)) in omega arith)
      (all d.number some_number (omega arith))))
      r.lies
