-- The tickets at hand are just the numbers from the one that is served up to but without the next one: they are apart, lie there, and are as many.
use Rattle.std.proofs.Common.{◌≡◌, ◌≢◌, ℕ, zero, suc, ◌+◌, ◌-◌, ◌<◌, ◌≤◌, ◌⊎◌, List, [], ◌∷◌, min, Option, sym, refl, ap, subst, ◌∙◌, inl, inr, ⊎_elim, arith}
use mathlib.Core.Logic.{dite}
use Rattle.atomic_table.specs.Table.{State}
use mathlib.Core.Option.{some, some-injective, some-ne-none}
use native.Mathlib.Decide.{ℕ_discrete}
use lib.ListN.{get_elem?}
use Rattle.std.specs.List.{sum_by}
use Rattle.std.proofs.lemmas.List.Sums.{sum_by-cons}
use Rattle.eco_turn.specs.declared.view.View.{View}
use Rattle.eco_turn.specs.View.{ticket_count}
use Rattle.eco_turn.specs.Rule.{HaveOwnTickets, IsRuled}
use Rattle.eco_turn.proofs.Moves.{one_ticket}

module _ {E F : Type 0} where
  -- a seat of the list has the ticket n
  abbrev pub HasTicket : List (View E F) → ℕ → Type 0
  HasTicket vs n = (j : ℕ) × (v : View E F) × (get_elem? vs j ≡ some v) × (0 < ticket_count v) × (v.ticket ≡ n)

  -- no seat has it
  abbrev LacksTicket : List (View E F) → ℕ → Type 0
  LacksTicket vs n = (j : ℕ) (v : View E F) → get_elem? vs j ≡ some v → 0 < ticket_count v → v.ticket ≢ n

  -- 1 for a seat with a ticket below n
  abbrev below : ℕ → View E F → ℕ
  below n v = min (ticket_count v) (n - v.ticket)

  tail_lacks : (v : View E F) (vs : List (View E F)) (n : ℕ) → LacksTicket (v ∷ vs) n → LacksTicket vs n
  tail_lacks v vs n lacks j w at = lacks (suc j) w at

  tail_apart : (v : View E F) (vs : List (View E F)) → HaveOwnTickets (v ∷ vs) → HaveOwnTickets vs
  tail_apart v vs apart i j x y ex ey a b t = let e = apart (suc i) (suc j) x y ex ey a b t in omega arith

  -- one of the two
  has_or_lacks : (vs : List (View E F)) (n : ℕ) → HasTicket vs n ⊎ LacksTicket vs n
  has_or_lacks [] n = inr (λ j v at. absurd (some-ne-none v (sym at)))
  has_or_lacks (v ∷ vs) n = ⊎_elim (λ (t : HasTicket vs n). inl (suc t.0, t.1, t.2, t.3, t.4))
      (λ (lacks : LacksTicket vs n). dite (ℕ_discrete (ticket_count v) 0)
      (λ no. inr (more v vs n lacks (λ a. absurd (omega arith))))
      (λ yes. dite (ℕ_discrete v.ticket n) (λ same. inl (0, v, refl, omega arith, same)) (λ other. inr (more v vs n lacks (λ a. other)))))
      (has_or_lacks vs n)
    where
      more : (v : View E F) (vs : List (View E F)) (n : ℕ) → LacksTicket vs n → (0 < ticket_count v → v.ticket ≢ n) → LacksTicket (v ∷ vs) n
      more v vs n lacks head zero w at a = let e = some-injective v w at in λ t. head (let q : ticket_count v ≡ ticket_count w = ap ticket_count e in omega arith) (ap (λ x. x.ticket) e ∙ t)
      more v vs n lacks head (suc j) w at a = lacks j w at a

  same_below : (vs : List (View E F)) (n : ℕ) → LacksTicket vs n → sum_by (below (n + 1)) vs ≡ sum_by (below n) vs
  same_below [] n lacks = refl
  same_below (v ∷ vs) n lacks =
      let rest = same_below vs n (tail_lacks v vs n lacks) in let c = sum_by-cons (below (n + 1)) v vs in let c' = sum_by-cons (below n) v vs in let most = one_ticket v.stage in
      let head : below (n + 1) v ≡ below n v = dite (ℕ_discrete (ticket_count v) 0) (λ no. omega arith) (λ yes. let other = lacks 0 v refl (omega arith) in omega arith) in
      omega arith

  one_more : (vs : List (View E F)) (n : ℕ) → HaveOwnTickets vs → sum_by (below (n + 1)) vs ≤ sum_by (below n) vs + 1
  one_more [] n apart = omega arith
  one_more (v ∷ vs) n apart =
      let most = one_ticket v.stage in let c = sum_by-cons (below (n + 1)) v vs in let c' = sum_by-cons (below n) v vs in
      ⊎_elim
      (λ (t : HasTicket vs n). let rest = one_more vs n (tail_apart v vs apart) in
      let other : 0 < ticket_count v → v.ticket ≢ n = λ a e. let z = apart 0 (suc t.0) v t.1 refl t.2 a t.3 (e ∙ sym t.4) in absurd (omega arith) in
      let head : below (n + 1) v ≡ below n v = dite (ℕ_discrete (ticket_count v) 0) (λ no. omega arith) (λ yes. let o = other (omega arith) in omega arith) in omega arith)
      (λ (lacks : LacksTicket vs n). let rest = same_below vs n lacks in let head : below (n + 1) v ≤ below n v + 1 = omega arith in omega arith)
      (has_or_lacks vs n)

  -- from the ticket low on there are at most as many as numbers, and one fewer past a number that no seat has
  at_most : (vs : List (View E F)) (low k : ℕ) → HaveOwnTickets vs → sum_by (below low) vs ≡ 0 → sum_by (below (low + k)) vs ≤ k
  at_most vs low zero apart nothing = let e : sum_by (below (low + 0)) vs ≡ sum_by (below low) vs = ap (λ m. sum_by (below m) vs) (let z : low + 0 ≡ low = omega arith in z) in omega arith
  at_most vs low (suc k) apart nothing = let h = at_most vs low k apart nothing in let e : sum_by (below (low + suc k)) vs ≡ sum_by (below (low + k + 1)) vs = ap (λ m. sum_by (below m) vs) (let z : low + suc k ≡ low + k + 1 = omega arith in z) in let m = one_more vs (low + k) apart in omega arith

  one_less : (vs : List (View E F)) (low i k : ℕ) → HaveOwnTickets vs → sum_by (below low) vs ≡ 0 → LacksTicket vs (low + i) → sum_by (below (low + (i + 1 + k))) vs ≤ i + k
  one_less vs low i zero apart nothing lacks = let h = at_most vs low i apart nothing in let e : sum_by (below (low + (i + 1 + 0))) vs ≡ sum_by (below (low + i + 1)) vs = ap (λ m. sum_by (below m) vs) (let z : low + (i + 1 + 0) ≡ low + i + 1 = omega arith in z) in let s = same_below vs (low + i) lacks in omega arith
  one_less vs low i (suc k) apart nothing lacks = let h = one_less vs low i k apart nothing lacks in let e : sum_by (below (low + (i + 1 + suc k))) vs ≡ sum_by (below (low + (i + 1 + k) + 1)) vs = ap (λ m. sum_by (below m) vs) (let z : low + (i + 1 + suc k) ≡ low + (i + 1 + k) + 1 = omega arith in z) in let m = one_more vs (low + (i + 1 + k)) apart in omega arith

  -- a sum of nothing, and of all
  none_below : (vs : List (View E F)) (low : ℕ) → ((j : ℕ) (v : View E F) → get_elem? vs j ≡ some v → 0 < ticket_count v → low ≤ v.ticket) → sum_by (below low) vs ≡ 0
  none_below [] low from = refl
  none_below (v ∷ vs) low from =
      let rest = none_below vs low (λ j w at. from (suc j) w at) in let c = sum_by-cons (below low) v vs in let head : below low v ≡ 0 = dite (ℕ_discrete (ticket_count v) 0) (λ no. omega arith) (λ yes. let l = from 0 v refl (omega arith) in omega arith) in omega arith

  all_below : (vs : List (View E F)) (high : ℕ) → ((j : ℕ) (v : View E F) → get_elem? vs j ≡ some v → 0 < ticket_count v → v.ticket < high) → sum_by (below high) vs ≡ sum_by ticket_count vs
  all_below [] high to = refl
  all_below (v ∷ vs) high to =
      let rest = all_below vs high (λ j w at. to (suc j) w at) in let c = sum_by-cons (below high) v vs in let c' = sum_by-cons ticket_count v vs in let most = one_ticket v.stage in
      let head : below high v ≡ ticket_count v = dite (ℕ_discrete (ticket_count v) 0) (λ no. omega arith) (λ yes. let l = to 0 v refl (omega arith) in omega arith) in omega arith

module _ {T E F : Type 0} (entries : T → List (ℕ × E)) (fixed : T → F) (start : T) (passes : ℕ) where
  -- each number from `served` up to but without `drawn` is the ticket of a seat
  pub at_hand : (s : State (Option T) (View E F)) (r : IsRuled entries fixed start passes s) (n : ℕ) → r.served ≤ n → n < r.drawn → HasTicket s.views n
  at_hand s r n low high = ⊎_elim (λ has. has)
      (λ (lacks : LacksTicket s.views n). absurd (
      let nothing = none_below s.views r.served (λ j v at a. ((r.each j v at).waits a).0) in let all = all_below s.views r.drawn (λ j v at a. ((r.each j v at).waits a).1) in
      let i : ℕ = n - r.served in let k : ℕ = r.drawn - (n + 1) in let e : r.served + i ≡ n = omega arith in let e' : r.served + (i + 1 + k) ≡ r.drawn = omega arith in
      let h = one_less s.views r.served i k r.apart nothing (subst (LacksTicket s.views) (sym e) lacks) in
      let h' : sum_by (below r.drawn) s.views ≤ i + k = subst (λ m. sum_by (below m) s.views ≤ i + k) e' h in let counted = r.counted in omega arith))
      (has_or_lacks s.views n)
