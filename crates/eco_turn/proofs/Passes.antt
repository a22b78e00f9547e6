-- What a pass knows, and the view of its seat.
use Rattle.std.proofs.Common.{◌≡◌, ℕ, ◌+◌, ◌-◌, ◌<◌, ◌≤◌, List, [], ◌∷◌, map, length, get_or, Option, Some, None, sym, refl, ap, subst, ◌∙◌, inl, inr, ⊎_elim, suc, arith}
use mathlib.Core.Option.{some, some-injective}
use mathlib.Core.List.{IsPrefix}
use lib.ListN.{get_elem?, length-map}
use Rattle.std.specs.List.{All}
use Rattle.atomic_table.proofs.Lists.{at_map}
use Rattle.atomic_table.specs.Table.{Me, rest, Final, Seen}
use Rattle.atomic_table.specs.Seated.{TableId}
use Rattle.atomic_table.specs.declared.badge.Badge.{Badge}
use Rattle.eco_turn.specs.declared.view.View.{View}
use Rattle.eco_turn.specs.declared.view.Returned.{Returned}
use Rattle.eco_turn.specs.declared.turn.Turn.{Turn}
use Rattle.eco_turn.specs.declared.pass.Pass.{Pass}
use Rattle.eco_turn.specs.Entries.{entries_by, Grows}
use Rattle.eco_turn.specs.View.{seen_in, own_in}
use Rattle.eco_turn.specs.Rule.{maker_view, IsRuled}
use Rattle.eco_turn.specs.Plays.{Took, right_view, joined_view, returned_of}
use Rattle.eco_turn.specs.Pass.{IsOutside, IsPlaced, HasLeft, pass_number, pass_seen, pass_own, AreAll}
use Rattle.eco_turn.specs.Turn.{turn_id, turn_start, turn_passes, IsNew}
use Rattle.eco_turn.specs.Joined.{IsKnown, IsIdle}
use Rattle.eco_turn.proofs.Lists.{at_or, at_there, at_all, at_value}
use Rattle.eco_turn.proofs.Ends.{Taken, ends_ok}

module _ {E F : Type 0} where
  abbrev first_view : View E F → List (View E F) → View E F
  first_view d [] = d
  first_view d (v ∷ vs) = v

  pub one_view : (v w : View E F) (l : List (View E F)) → l ≡ v ∷ [] → l ≡ w ∷ [] → v ≡ w
  one_view v w l p q = ap (first_view v) (sym p ∙ q)

  -- what the view of a pass says, where the pass has left
  pub record Ready (f : F) (p : Pass E F) (w : View E F) : Type 0 where
    pub outside : IsOutside f p.number w
    pub some_number : 0 < w.number
    pub seen : w.seen ≡ pass_seen p
    pub own : w.own ≡ pass_own p

  pub ready : (z : TableId) (f : F) (most : ℕ) (p : Pass E F) (b : Badge (View E F)) (w : View E F) → IsPlaced z f most p → HasLeft p → b ≡ p.badge → b.views ≡ w ∷ [] → Ready f p w
  ready z f most p b w placed left same views =
      let e : p.last.value.views ≡ w ∷ [] = sym (ap (λ (c : Badge (View E F)). c.views) (same ∙ left)) ∙ views in
      let o : IsOutside f p.number w = subst (IsOutside f p.number) (one_view placed.view w p.last.value.views placed.views e) placed.outside in
      let n = o.number in let some_n = placed.numbers.0 in record {
        outside = o;
        some_number = omega arith;
        seen = sym (ap seen_in e);
        own = sym (ap own_in e);
      }

module _ {T E F : Type 0} (entries : T → List (ℕ × E)) (fixed : T → F) where
  pub carries : (m m' : Me (Option T) (View E F)) (x : T) → Took entries fixed m x m' → m'.1 ≡ (0, Some x) ∷ rest m'.1
  carries m m' x took = let q : m'.1 ≡ (0, Some x) ∷ m.1 = ap (λ z. z.1) took.now in q ∙ ap (λ l. (0, Some x) ∷ l) (sym (ap rest q))

  -- the value was put back in its slot
  pub put : (m m' : Me (Option T) (View E F)) (y : T) → m' ≡ (m.0, (0, Some y) ∷ rest m.1) → m.1 ≡ (0, None) ∷ [] → m' ≡ (m.0, (0, Some y) ∷ [])
  put m m' y e empty = e ∙ ap (λ (l : List (ℕ × Option T)). let o : Me (Option T) (View E F) = (m.0, (0, Some y) ∷ rest l) in o) empty

  pub is_new : (t : Turn T E F) (x : T) (n : ℕ) (v w : View E F) (b : Badge (View E F)) (p : Pass E F) → v ≡ record (maker_view (entries x) (fixed x)) { seats = n } → w ≡ right_view v → b.views ≡ w ∷ [] → b.table_id ≡ turn_id t
      → fixed x ≡ fixed (turn_start t) → p.badge ≡ b → p.last.value ≡ b → p.number ≡ n → (0 < n) × (n ≤ turn_passes t) → IsNew entries fixed t x n p
  is_new t x n v w b p from cut views table fix now last number most =
      let u : View E F = right_view (record (maker_view (entries x) (fixed x)) { seats = n }) in
      let e : p.last.value.views ≡ u ∷ [] = ap (λ (c : Badge (View E F)). c.views) last ∙ (views ∙ ap (λ (z : View E F). z ∷ []) (cut ∙ ap right_view from)) in record {
        of = record {
          table = ap (λ (c : Badge (View E F)). c.table_id) last ∙ table;
          view = u;
          views = e;
          outside = record { out = refl; number = sym number; alone = refl; fixed = ap (λ (z : F). let o : Option F = Some z in o) fix };
          numbers = (subst (λ k. 0 < k) (sym number) most.0, subst (λ k. k ≤ turn_passes t) (sym number) most.1);
        };
        left = now ∙ sym last;
        number = number;
        seen = ap seen_in e;
        own = ap own_in e;
      }

  pub new_of : (t : Turn T E F) (x y : T) (n : ℕ) (p : Pass E F) → x ≡ y → IsNew entries fixed t x n p → IsNew entries fixed t y n p
  new_of t x y n p same new = subst (λ z. IsNew entries fixed t z n p) same new

module _ {E F : Type 0} where
  pub has_view : (z : TableId) (f : F) (most : ℕ) (p : Pass E F) → IsPlaced z f most p → HasLeft p → (v : View E F) × (p.badge.views ≡ v ∷ [])
  has_view z f most p placed left = (placed.view, ap (λ (b : Badge (View E F)). b.views) left ∙ placed.views)

  pub in_first : (f : F) (p : Pass E F) (w : View E F) → Ready f p w → IsKnown p w
  in_first f p w r = inl (r.outside.number, r.seen, r.own)

  pub in_new : (f : F) (p : Pass E F) (v w : View E F) → Ready f p w → IsKnown p (joined_view v w)
  in_new f p v w r = inr (0, returned_of w, refl, r.outside.number, r.seen, r.own)

  pub in_more : (p : Pass E F) (v w : View E F) → IsKnown p v → IsKnown p (joined_view v w)
  in_more p v w = ⊎_elim (λ t. inl t) (λ (t : (k : ℕ) × (q : Returned E) × (get_elem? v.returned k ≡ some q) × (q.number ≡ p.number) × (q.seen ≡ pass_seen p) × (q.own ≡ pass_own p)). inr (suc t.0, t.1, t.2, t.3, t.4, t.5))

module _ {T E F : Type 0} (entries : T → List (ℕ × E)) (fixed : T → F) where
  -- the value as it is taken out, where all passes were joined to the seat
  pub closes : (start : T) (most : ℕ) (ws : List ℕ) (xs : List (Option T)) (id : ℕ) (v : View E F) (ps : List (Pass E F)) → IsIdle v → AreAll most ps → ((k : ℕ) (p : Pass E F) → get_elem? ps k ≡ some p → IsKnown p v)
      → Final (Seen (IsRuled entries fixed start most) id v) ws xs → Taken entries fixed start most xs v
  closes start most ws xs id v ps idle all known end = ends_ok entries fixed start most ws xs id v idle.0 idle.1 (λ n low high. let a = at_value pass_number ps n (all n (low, high)) in let p = a.1 in
      ⊎_elim (λ (t : (v.number ≡ p.number) × (v.seen ≡ pass_seen p) × (v.own ≡ pass_own p)). inl (sym a.3 ∙ sym t.0))
      (λ (t : (k : ℕ) × (q : Returned E) × (get_elem? v.returned k ≡ some q) × (q.number ≡ p.number) × (q.seen ≡ pass_seen p) × (q.own ≡ pass_own p)). inr (t.0, t.1, t.2, sym a.3 ∙ sym t.3))
      (known a.0 p a.2)) end

  given : (start : T) (most : ℕ) (xs : List (Option T)) (v : View E F) (p : Pass E F) (took : Taken entries fixed start most xs v) → IsKnown p v → IsPrefix (pass_seen p) (entries took.value) × (entries_by p.number (entries took.value) ≡ pass_own p)
  given start most xs v p took = ⊎_elim
      (λ (t : (v.number ≡ p.number) × (v.seen ≡ pass_seen p) × (v.own ≡ pass_own p)).
      (subst (λ z. IsPrefix z (entries took.value)) t.1 took.seen, ap (λ n. entries_by n (entries took.value)) (sym t.0) ∙ (took.own ∙ t.2)))
      (λ (t : (k : ℕ) × (q : Returned E) × (get_elem? v.returned k ≡ some q) × (q.number ≡ p.number) × (q.seen ≡ pass_seen p) × (q.own ≡ pass_own p)). let e = took.each t.0 t.1 t.2 in
      (subst (λ z. IsPrefix z (entries took.value)) t.4 e.0, ap (λ n. entries_by n (entries took.value)) (sym t.3) ∙ (e.1 ∙ t.5)))

  -- what a closed turn says of its last value
  pub record IsLast (start : T) (most : ℕ) (ps : List (Pass E F)) (x : T) : Type 0 where
    pub fixed_is : fixed x ≡ fixed start
    pub seen : All (λ (p : Pass E F). IsPrefix (pass_seen p) (entries x)) ps
    pub own : All (λ (p : Pass E F). entries_by (pass_number p) (entries x) ≡ pass_own p) ps
    pub grown : Grows most (entries start) (entries x)

  pub is_last : (start : T) (most : ℕ) (xs : List (Option T)) (v : View E F) (ps : List (Pass E F)) → ((k : ℕ) (p : Pass E F) → get_elem? ps k ≡ some p → IsKnown p v)
      → Taken entries fixed start most xs v → (x : T) → get_elem? xs 0 ≡ some (Some x) → IsLast start most ps x
  is_last start most xs v ps known took x there =
      let e : Some took.value ≡ Some x = some-injective _ _ (sym took.lies ∙ there) in let same : took.value ≡ x = cc in
      subst (IsLast start most ps) same record {
        fixed_is = took.fixed_is;
        seen = at_all (λ k p. IsPrefix (pass_seen p) (entries took.value)) ps (λ k p at. (given start most xs v p took (known k p at)).0);
        own = at_all (λ k p. entries_by (pass_number p) (entries took.value) ≡ pass_own p) ps (λ k p at. (given start most xs v p took (known k p at)).1);
        grown = took.grown;
      }

module _ {E F : Type 0} where
  -- passes that are numbered by their places are all
  pub all_numbered : (most : ℕ) (ps : List (Pass E F)) → length ps ≡ most → ((k : ℕ) (d : Pass E F) → k < length ps → pass_number (get_or ps k d) ≡ k + 1) → AreAll most ps
  all_numbered most ps count each n pass =
      let low = pass.0 in let high = pass.1 in let len = length-map ps pass_number in let t = at_there ps (n - 1) (omega arith) in
      let number : pass_number t.0 ≡ n - 1 + 1 = ap pass_number (sym (at_or ps (n - 1) t.0 t.0 t.1)) ∙ each (n - 1) t.0 (omega arith) in
      (n - 1, omega arith, at_or (map pass_number ps) (n - 1) (pass_number t.0) n (at_map pass_number ps (n - 1) t.0 t.1) ∙ (let z : n - 1 + 1 ≡ n = omega arith in number ∙ z))
