-- Steps that leave the history as it is.
use Rattle.std.proofs.Common.{◌≡◌, ◌≢◌, ℕ, ◌+◌, ◌%◌, ◌^◌, ◌<◌, ◌≤◌, List, map, length, get_or, set, Option, sym, refl, ap, subst, ◌∙◌, inl, inr, ⊎_elim, arith, length-set}
use mathlib.Core.Option.{some, some-injective}
use mathlib.Core.Option as maybe
use lib.ListN.{get_elem?}
use Rattle.std.specs.List.{sum_by}
use Rattle.std.proofs.lemmas.List.{map-set}
use Rattle.std.proofs.lemmas.List.Sums.{sum_by-le}
use Rattle.atomic_table.specs.Table.{State}
use Rattle.atomic_table.proofs.Lists.{set_else, at_map, one_turn}
use Rattle.eco_turn.specs.declared.view.View.{View}
use Rattle.eco_turn.specs.declared.view.Stage.{Stage}
use Rattle.eco_turn.specs.declared.view.Stage.TheVariants.{Outside, Waiting, Inside}
use Rattle.eco_turn.specs.View.{tickets, values, number_of, stage_of, ticket_count, value_count}
use Rattle.eco_turn.specs.Rule.{IsSeated, HaveOwnTickets, IsHomeOrHeld, IsRuled}
use Rattle.eco_turn.proofs.Lists.{map_kept, each_set}

-- a seat with the value has a ticket
pub has_ticket : (s : Stage) → 0 < values s → 0 < tickets s
has_ticket Outside h = absurd (omega arith)
has_ticket Waiting h = absurd (omega arith)
has_ticket Inside h = omega arith

pub one_ticket : (s : Stage) → tickets s ≤ 1
one_ticket Outside = omega arith
one_ticket Waiting = omega arith
one_ticket Inside = omega arith

pub not_inside : (s : Stage) → values s ≡ 0 → s ≢ Inside
not_inside s without here = let one : values s ≡ 1 = ap values here in absurd (omega arith)

-- one more
pub next_word : (n k : ℕ) → n ≡ k % 2 ^ 64 → (n + 1) % 2 ^ 64 ≡ (k + 1) % 2 ^ 64
next_word n k e = omega arith

module _ {E F : Type 0} where
  -- at most one ticket for each seat
  waiting : (vs : List (View E F)) → sum_by ticket_count vs ≤ length vs
  waiting vs = let h = sum_by-le ticket_count 1 vs (λ k d l. one_ticket (get_or vs k d).stage) in omega (arith, h)

  pub apart_set : (vs : List (View E F)) (id : ℕ) (w : View E F) → HaveOwnTickets vs
      → (0 < ticket_count w → (j : ℕ) (d : View E F) → j ≢ id → get_elem? vs j ≡ some d → 0 < ticket_count d → d.ticket ≢ w.ticket) → HaveOwnTickets (set vs id w)
  apart_set vs id w old new i j x y ex ey =
      each_set (λ (i : ℕ) (x : View E F). (j : ℕ) (y : View E F) → get_elem? (set vs id w) j ≡ some y → 0 < ticket_count x → 0 < ticket_count y → x.ticket ≡ y.ticket → i ≡ j) vs id w
      (λ j y ey. each_set (λ (j : ℕ) (y : View E F). 0 < ticket_count w → 0 < ticket_count y → w.ticket ≡ y.ticket → id ≡ j) vs id w (λ _ _ _. refl) (λ j d ne at a b t. absurd (new a j d ne at b (sym t))) j y ey)
      (λ i x ne ati j y ey. each_set (λ (j : ℕ) (y : View E F). 0 < ticket_count x → 0 < ticket_count y → x.ticket ≡ y.ticket → i ≡ j) vs id w (λ a b t. absurd (new b i x ne ati a t)) (λ j d ne' atj a b t. old i j x d ati atj a b t) j y ey)
      i x ex j y ey

  -- the seat that has the value still has it after a step of another
  pub holder_set : (vs : List (View E F)) (id j : ℕ) (v w : View E F) → get_elem? vs id ≡ some v → v.stage ≢ Inside → get_elem? (map stage_of vs) j ≡ some Inside → get_elem? (map stage_of (set vs id w)) j ≡ some Inside
  holder_set vs id j v w at not here =
      let ne : j ≢ id = λ e. not (some-injective v.stage Inside (sym (at_map stage_of vs id v at) ∙ (ap (λ k. get_elem? (map stage_of vs) k) (sym e) ∙ here))) in
      ap (λ l. get_elem? l j) (map-set stage_of vs id w) ∙ (set_else (map stage_of vs) id j (w.stage) ne ∙ here)

  -- a seat at which nothing changes but how far the tickets have come
  further : (f : F) (h : List (ℕ × E)) (ns : List ℕ) (served drawn served' drawn' j : ℕ) (v : View E F) → IsSeated f h ns served drawn j v
      → (0 < ticket_count v → (served' ≤ v.ticket) × (v.ticket < drawn') × (0 < value_count v → v.ticket ≡ served')) → IsSeated f h ns served' drawn' j v
  further f h ns served drawn served' drawn' j v ok now = record {
    waits = λ a. ((now a).0, (now a).1);
    holds = λ a. ((now (has_ticket v.stage a)).2 a, (ok.holds a).1);
    named = ok.named;
    makes = ok.makes;
    none = ok.none;
    seen = ok.seen;
    returns = ok.returns;
  }

  -- the ticket that is served, where the word shows it
  pub same_ticket : (served drawn t n : ℕ) (vs : List (View E F)) (passes : ℕ) → served + sum_by ticket_count vs ≡ drawn → (length vs ≤ passes + 1) × (passes ≤ 64) → (served ≤ t) × (t < drawn) → n ≡ served % 2 ^ 64 → n ≡ t % 2 ^ 64 → served ≡ t
  same_ticket served drawn t n vs passes counted few within a b =
      let w = waiting vs in let few₀ = few.0 in let few₁ = few.1 in let low = within.0 in let high = within.1 in
      one_turn served t (2 ^ 64) low (let z : t < served + 18446744073709551616 = omega arith in z) (sym a ∙ b)

module _ {T E F : Type 0} (entries : T → List (ℕ × E)) (fixed : T → F) (start : T) (passes : ℕ) where
  abbrev St : Type 0
  St = State (Option T) (View E F)

  abbrev Rule : St → Type 0
  Rule = IsRuled entries fixed start passes

  -- a step that leaves the history and the seat's number
  pub moves : (s : St) (r : Rule s) (id : ℕ) (v w : View E F) (served' drawn' : ℕ) (words' : List ℕ) (homes' : List (maybe.Option (Option T))) → get_elem? s.views id ≡ some v → w.number ≡ v.number
      → length words' ≡ 3 → length homes' ≡ 1 → get_or words' 0 0 ≡ drawn' % 2 ^ 64 → get_or words' 1 0 ≡ served' % 2 ^ 64 → get_or words' 2 0 ≡ get_or s.words 2 0
      → IsSeated (fixed start) r.history (map number_of s.views) served' drawn' id w
      → ((j : ℕ) (d : View E F) → j ≢ id → get_elem? s.views j ≡ some d → 0 < ticket_count d → (served' ≤ d.ticket) × (d.ticket < drawn') × (0 < value_count d → d.ticket ≡ served'))
      → HaveOwnTickets (set s.views id w) → served' + sum_by ticket_count (set s.views id w) ≡ drawn'
      → IsHomeOrHeld entries fixed (fixed start) r.history record { words = words'; homes = homes'; views = set s.views id w }
      → Rule record { words = words'; homes = homes'; views = set s.views id w }
  moves s r id v w served' drawn' words' homes' at same three one drawn_word served_word count mine others apart counted lies =
      let ns = map_kept number_of s.views id v w at same in let f = fixed start in record {
        history = r.history;
        served = served';
        drawn = drawn';
        three = three;
        one = one;
        ticket_is = drawn_word;
        serving_is = served_word;
        count_is = count ∙ r.count_is;
        few = (subst (λ k. k ≤ passes + 1) (sym (length-set s.views id w)) r.few.0, r.few.1);
        each = subst (λ z. (j : ℕ) (d : View E F) → get_elem? (set s.views id w) j ≡ some d → IsSeated f r.history z served' drawn' j d) (sym ns)
            (each_set (IsSeated f r.history (map number_of s.views) served' drawn') s.views id w mine (λ j d ne e. further f r.history (map number_of s.views) r.served r.drawn served' drawn' j d (r.each j d e) (others j d ne e)));
        apart = apart;
        counted = counted;
        grown = r.grown;
        unmade = λ n a b. r.unmade n (subst (λ k. k ≤ n) (length-set s.views id w) a) b;
        lies = lies;
      }

  -- a seat that doesn't have the value moves: the value lies where it lay
  pub lies_on : (s : St) (h : List (ℕ × E)) (id : ℕ) (v w : View E F) (words' : List ℕ) → get_elem? s.views id ≡ some v → v.stage ≢ Inside → IsHomeOrHeld entries fixed (fixed start) h s
      → IsHomeOrHeld entries fixed (fixed start) h record { words = words'; homes = s.homes; views = set s.views id w }
  lies_on s h id v w words' at not = ⊎_elim (λ t. inl t) (λ (t : (j : ℕ) × (get_elem? (map stage_of s.views) j ≡ some Inside)). inr (t.0, holder_set s.views id t.0 v w at not t.1))
