-- Each step on a word keeps the rule.
use Rattle.std.proofs.Common.{◌≡◌, ◌≢◌, ℕ, ◌+◌, ◌%◌, ◌^◌, ◌<◌, ◌≤◌, List, [], ◌∷◌, ◌++◌, map, length, get_or, set, drop, Option, Some, sym, refl, ap, subst, ◌∙◌, inl, inr, ⊎_elim, arith, length-set, get_or-set_other, get_or-set_same}
use mathlib.Core.Logic.{dite}
use mathlib.Core.Option.{none, some, some-injective}
use mathlib.Core.Option as maybe
use mathlib.Core.List.{IsPrefix}
use native.Mathlib.Decide.{ℕ_discrete}
use lib.ListN.{get_elem?, length-map}
use lib.Seq.{set-get_or}
use Rattle.std.proofs.lemmas.List.{map-set}
use Rattle.atomic_table.specs.Table.{State, Me, step, Act, keeps, takes, gives, stepped, Valid, carried_after, Allows}
use Rattle.atomic_table.proofs.Lists.{set_here, set_again, at_map}
use Rattle.eco_turn.specs.declared.view.View.{View}
use Rattle.eco_turn.specs.declared.view.Returned.{Returned}
use Rattle.eco_turn.specs.declared.view.Stage.TheVariants.{Outside, Waiting, Inside}
use Rattle.eco_turn.specs.Entries.{entries_by, Adds}
use Rattle.eco_turn.specs.View.{tickets, values, number_of, stage_of, ticket_count, value_count}
use Rattle.eco_turn.specs.Rule.{IsReturned, IsSeated, IsRuled}
use Rattle.eco_turn.specs.Plays.{DrawsTicket, PassesOn, SeesServed, noted_view, NotesLength}
use Rattle.eco_turn.proofs.Lists.{at_below, at_one, sum_at, map_kept, each_set, prefix_self, prefix_trans, at_unmap, one_carried}
use Rattle.eco_turn.proofs.Added.{by_mine, by_other, grows_on}
use Rattle.eco_turn.proofs.Moves.{has_ticket, not_inside, next_word, apart_set, same_ticket, moves, lies_on}

module _ {T E F : Type 0} (entries : T → List (ℕ × E)) (fixed : T → F) (start : T) (passes : ℕ) where
  abbrev St : Type 0
  St = State (Option T) (View E F)

  abbrev M : Type 0
  M = Me (Option T) (View E F)

  abbrev Rule : St → Type 0
  Rule = IsRuled entries fixed start passes

  abbrev Homes : Type 0
  Homes = List (maybe.Option (Option T))

  pub draws_ok : (slots id : ℕ) (m : M) → m.0.stage ≡ Outside → 0 < m.0.number → Allows Rule slots id m 0 (λ n. (n + 1) % 2 ^ 64) (DrawsTicket (step slots 0 1 0 none) m)
  draws_ok slots id m out named s r deep at fits =
      let v : View E F = m.0 in let t : ℕ = r.drawn in let w : View E F = record v { stage = Waiting; ticket = t } in let x : ℕ = (get_or s.words 0 0 + 1) % 2 ^ 64 in
      let ok = r.each id v at in let three = r.three in let counted = r.counted in let sum = sum_at ticket_count s.views id v w at in
      let b₀ : ticket_count v ≡ 0 = ap tickets out in let b₁ : ticket_count w ≡ 1 = refl in let here : get_or (set s.words 0 x) 0 0 ≡ x = get_or-set_same s.words 0 x 0 (omega arith) in (
        w,
        keeps,
        tt,
        moves entries fixed start passes s r id v w r.served (t + 1) (set s.words 0 x) s.homes at refl (length-set s.words 0 x ∙ three) r.one (here ∙ next_word _ t r.ticket_is)
            (get_or-set_other s.words 0 1 x 0 (λ e. omega arith) ∙ r.serving_is) (get_or-set_other s.words 0 2 x 0 (λ e. omega arith))
            record {
              waits = λ _. (omega arith, omega arith);
              holds = λ a. absurd (omega arith);
              named = ok.named;
              makes = ok.makes;
              none = λ z. absurd (omega arith);
              seen = ok.seen;
              returns = ok.returns;
            }
            (λ j d ne e a. let o = r.each j d e in let q = o.waits a in let q₁ = q.1 in (q.0, omega arith, λ b. (o.holds b).0))
            (apart_set s.views id w r.apart (λ _ j d ne e a z. let q = (r.each j d e).waits a in let q₁ = q.1 in omega arith))
            (omega arith)
            (lies_on entries fixed start passes s r.history id v w (set s.words 0 x) at (not_inside v.stage (ap values out)) r.lies),
        (refl, sym r.ticket_is),
      )

  -- the look of a seat that is served: no other has the value
  took : (s : St) (r : Rule s) (id : ℕ) (m : M) → get_elem? s.views id ≡ some m.0 → m.0.stage ≡ Waiting → 0 < m.0.number → r.served ≡ m.0.ticket → (x : T) → get_elem? s.homes 0 ≡ some (some (Some x)) → entries x ≡ r.history
      → Rule record { words = s.words; homes = set s.homes 0 none; views = set s.views id (record m.0 { stage = Inside; seen = entries x }) }
  took s r id m at wait named mine x home lists =
      let v : View E F = m.0 in let w : View E F = record v { stage = Inside; seen = entries x } in let ok = r.each id v at in let counted = r.counted in
      let sum = sum_at ticket_count s.views id v w at in let b₀ : ticket_count v ≡ 1 = ap tickets wait in let b₁ : ticket_count w ≡ 1 = refl in
      moves entries fixed start passes s r id v w r.served r.drawn s.words (set s.homes 0 none) at refl r.three (length-set s.homes 0 none ∙ r.one) r.ticket_is r.serving_is refl
      record {
        waits = λ _. ok.waits (omega arith);
        holds = λ _. (sym mine, lists);
        named = ok.named;
        makes = ok.makes;
        none = λ z. absurd (omega arith);
        seen = subst (λ z. IsPrefix z r.history) (sym lists) (prefix_self r.history);
        returns = ok.returns;
      }
      (λ j d ne e a. let o = r.each j d e in let q = o.waits a in (q.0, q.1, λ b. (o.holds b).0))
      (apart_set s.views id w r.apart (λ _ j d ne e a z. ne (r.apart j id d v e at a (omega arith) z)))
      (omega arith)
      (inr (id, at_map stage_of (set s.views id w) id w (set_here s.views id w (at_below s.views id v at))))

  nobody : (s : St) (r : Rule s) (id : ℕ) (v : View E F) → get_elem? s.views id ≡ some v → v.stage ≡ Waiting → r.served ≡ v.ticket → (j : ℕ) → get_elem? (map stage_of s.views) j ≡ some Inside → ⊥
  nobody s r id v at wait mine j has =
      let t = at_unmap stage_of s.views j Inside has in let d : View E F = t.0 in let two : value_count d ≡ 1 = ap values t.2 in let o = (r.each j d t.1).holds (omega arith) in let o₀ = o.0 in
      let a : ticket_count d ≡ 1 = ap tickets t.2 in let b : ticket_count v ≡ 1 = ap tickets wait in
      let same : j ≡ id = r.apart j id d v t.1 at (omega arith) (omega arith) (o₀ ∙ mine) in
      let one = at_one s.views id d v (subst (λ k. get_elem? s.views k ≡ some d) same t.1) at in
      let st : value_count d ≡ value_count v = ap value_count one in let z : value_count v ≡ 0 = ap values wait in omega arith

  pub looks_ok : (slots id : ℕ) (m : M) → m.0.stage ≡ Waiting → 0 < m.0.number → Allows Rule slots id m 1 (λ n. n) (SeesServed entries fixed (step slots 1 0 0 none) m)
  looks_ok slots id m wait named s r deep at fits =
      let v : View E F = m.0 in let n : ℕ = get_or s.words 1 0 in let same = sym (set-get_or s.words 1 0) in
      let ok = r.each id v at in let mine = ok.named named in let b₀ : ticket_count v ≡ 1 = ap tickets wait in
      dite (ℕ_discrete n (v.ticket % 2 ^ 64))
      (λ hit. let now = same_ticket r.served r.drawn v.ticket n s.views passes r.counted r.few (ok.waits (omega arith)) r.serving_is hit in
      ⊎_elim
      (λ (t : (x : T) × (get_elem? s.homes 0 ≡ some (some (Some x))) × (entries x ≡ r.history) × (fixed x ≡ fixed start)). let x = t.0 in let w : View E F = record v { stage = Inside; seen = entries x } in (
        w,
        takes 0 (Some x),
        t.1,
        subst (λ ws. Rule record { words = ws; homes = set s.homes 0 none; views = set s.views id w }) same (took s r id m at wait named now x t.1 t.2),
        (
          (λ no. absurd (no hit)),
          λ _. (
            x,
            record {
              now = refl;
              begins = subst (λ z. IsPrefix v.seen z) (sym t.2) ok.seen;
              own = ap (λ z. entries_by v.number z) t.2 ∙ mine.1;
              fixed_is = mine.2 ∙ ap (λ (z : F). let o : Option F = Some z in o) (sym t.3);
            },
          ),
        ),
      ))
      (λ (t : (j : ℕ) × (get_elem? (map stage_of s.views) j ≡ some Inside)). absurd (nobody s r id v at wait now t.0 t.1))
      r.lies)
      (λ miss. (
        v,
        keeps,
        tt,
        subst (λ ws. Rule record { words = ws; homes = s.homes; views = set s.views id v }) same (subst (λ vs. Rule record { words = s.words; homes = s.homes; views = vs }) (sym (set_again s.views id v at)) r),
        ((λ _. refl), λ hit. absurd (miss hit)),
      ))

  pub notes_ok : (slots id : ℕ) (m : M) (y : T) (new : ℕ) → m.0.stage ≡ Inside → 0 < m.0.number → m.1 ≡ (0, Some y) ∷ [] → Adds m.0.number m.0.seen (entries y) → new ≡ length (entries y)
      → Allows Rule slots id m 2 (λ _. new) (NotesLength entries (step slots 2 new 0 none) m)
  notes_ok slots id m y new has named carried adds count s r deep at fits =
      let v : View E F = m.0 in let h : List (ℕ × E) = r.history in let h' : List (ℕ × E) = entries y in let w : View E F = noted_view entries v y in let ok = r.each id v at in let mine = ok.named named in let f = fixed start in
      let b₀ : value_count v ≡ 1 = ap values has in let b₁ : ticket_count v ≡ 1 = ap tickets has in let below = at_below s.views id v at in let few₀ = r.few.0 in let mine₀ = mine.0 in
      let here = ok.holds (omega arith) in let adds' : Adds v.number h h' = subst (λ z. Adds v.number z h') here.1 adds in let longer : IsPrefix h h' = adds'.0 in
      let counted = r.counted in let sum = sum_at ticket_count s.views id v w at in let three = r.three in let ns = map_kept number_of s.views id v w at refl in
      let returned : (p : Returned E) → IsReturned h (map number_of s.views) p → IsReturned h' (map number_of s.views) p = λ p g. record {
        spent = g.spent;
        seen = prefix_trans p.seen h h' g.seen longer;
        own = by_other v.number p.number h h' adds' (λ e.
            let q : 0 ≡ v.number = some-injective 0 v.number (sym g.spent ∙ (ap (λ k. get_elem? (map number_of s.views) k) (sym e ∙ mine.0) ∙ at_map number_of s.views id v at)) in omega arith) ∙ g.own;
      } in
      let others : (j : ℕ) (d : View E F) → j ≢ id → get_elem? s.views j ≡ some d → IsSeated f h' (map number_of s.views) r.served r.drawn j d = λ j d ne e. let o = r.each j d e in record {
        waits = o.waits;
        holds = λ a. absurd (ne (r.apart j id d v e at (has_ticket d.stage a) (omega arith) ((o.holds a).0 ∙ sym here.0)));
        named = λ a. let q = o.named a in (q.0, by_other v.number d.number h h' adds' (λ z. ne (sym q.0 ∙ (sym z ∙ mine.0))) ∙ q.1, q.2);
        makes = o.makes;
        none = o.none;
        seen = prefix_trans d.seen h h' o.seen longer;
        returns = λ k p g. returned p (o.returns k p g);
      } in
      let me : IsSeated f h' (map number_of s.views) r.served r.drawn id w = record {
        waits = ok.waits;
        holds = λ _. (here.0, refl);
        named = λ _. (mine.0, by_mine v.number h h' adds' ∙ (ap (λ z. z ++ drop (length h) h') mine.1 ∙ ap (λ z. v.own ++ drop (length z) h') (sym here.1)), mine.2);
        makes = ok.makes;
        none = ok.none;
        seen = prefix_self h';
        returns = λ k p g. returned p (ok.returns k p g);
      } in (
        w,
        keeps,
        tt,
        record {
          history = h';
          served = r.served;
          drawn = r.drawn;
          three = length-set s.words 2 new ∙ r.three;
          one = r.one;
          ticket_is = get_or-set_other s.words 2 0 new 0 (λ e. omega arith) ∙ r.ticket_is;
          serving_is = get_or-set_other s.words 2 1 new 0 (λ e. omega arith) ∙ r.serving_is;
          count_is = get_or-set_same s.words 2 new 0 (omega arith) ∙ count;
          few = (subst (λ k. k ≤ passes + 1) (sym (length-set s.views id w)) r.few.0, r.few.1);
          each = subst (λ z. (j : ℕ) (d : View E F) → get_elem? (set s.views id w) j ≡ some d → IsSeated f h' z r.served r.drawn j d) (sym ns)
              (each_set (IsSeated f h' (map number_of s.views) r.served r.drawn) s.views id w me others);
          apart = apart_set s.views id w r.apart (λ _ j d ne e a z. ne (r.apart j id d v e at a (omega arith) z));
          counted = (let b : ticket_count w ≡ ticket_count v = refl in omega arith);
          grown = grows_on passes v.number (entries start) h h' (named, omega arith) r.grown adds';
          unmade = λ n a b. let l = length-set s.views id w in by_other v.number n h h' adds' (λ e. omega arith) ∙ r.unmade n (omega arith) b;
          lies = inr (id, ap (λ l. get_elem? l id) (map-set stage_of s.views id w) ∙ (set_here (map stage_of s.views) id w.stage (subst (λ k. id < k) (sym (length-map s.views stage_of)) below) ∙ ap (λ z. some z) has));
        },
        (r.count_is ∙ sym (ap length here.1), λ y' e. let q : y ≡ y' = one_carried m.1 y y' carried e in ap (λ (z : T). let o : M = (noted_view entries v z, m.1) in o) q),
      )

  pub passes_on_ok : (slots id : ℕ) (m : M) (y : T) → m.0.stage ≡ Inside → 0 < m.0.number → m.1 ≡ (0, Some y) ∷ [] → m.0.seen ≡ entries y → m.0.fixed ≡ Some (fixed y)
      → Allows Rule slots id m 1 (λ n. (n + 1) % 2 ^ 64) (PassesOn (step slots 1 1 0 none) m)
  passes_on_ok slots id m y has named carried lists fix s r deep at fits =
      let v : View E F = m.0 in let w : View E F = record v { stage = Outside } in let t : ℕ = r.served in let x : ℕ = (get_or s.words 1 0 + 1) % 2 ^ 64 in let ok = r.each id v at in let mine = ok.named named in let f = fixed start in
      let b₀ : ticket_count v ≡ 1 = ap tickets has in let b₁ : ticket_count w ≡ 0 = refl in let b₂ : value_count v ≡ 1 = ap values has in
      let here = ok.holds (omega arith) in let tick = here.0 in let three = r.three in let counted = r.counted in let sum = sum_at ticket_count s.views id v w at in
      let now : get_or (set s.words 1 x) 1 0 ≡ x = get_or-set_same s.words 1 x 0 (omega arith) in let home : Homes = set s.homes 0 (some (Some y)) in let one = r.one in
      let kept : Rule record { words = set s.words 1 x; homes = home; views = set s.views id w } =
      moves entries fixed start passes s r id v w (t + 1) r.drawn (set s.words 1 x) home at refl (length-set s.words 1 x ∙ three) (length-set s.homes 0 (some (Some y)) ∙ one) (get_or-set_other s.words 1 0 x 0 (λ e. omega arith) ∙ r.ticket_is)
      (now ∙ next_word _ t r.serving_is) (get_or-set_other s.words 1 2 x 0 (λ e. omega arith))
      record {
        waits = λ a. absurd (omega arith);
        holds = λ a. absurd (omega arith);
        named = ok.named;
        makes = ok.makes;
        none = λ _. refl;
        seen = ok.seen;
        returns = ok.returns;
      }
      (λ j d ne e a. let o = r.each j d e in let q = o.waits a in let q₀ = q.0 in let other : d.ticket ≢ t = λ z. ne (r.apart j id d v e at a (omega arith) (z ∙ sym tick)) in
      (omega arith, q.1, λ b. absurd (other (o.holds b).0)))
      (apart_set s.views id w r.apart (λ a. absurd (omega arith)))
      (omega arith)
      (inl (y, set_here s.homes 0 (some (Some y)) (omega arith), sym lists ∙ here.1, (let q : Some (fixed y) ≡ Some f = sym fix ∙ mine.2 in cc))) in
      subst (λ (c : List (ℕ × Option T)). (w' : View E F) × (a : Act (Option T)) × Valid s.homes c a × Rule (stepped s 1 x id c w' a) × PassesOn (step slots 1 1 0 none) m (get_or s.words 1 0) (w', carried_after c a)) (sym carried)
      (w, gives, tt, kept, refl)
