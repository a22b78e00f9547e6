-- What an order and a ring say of loops
use Rattle.std.proofs.Common.{◌≡◌, ◌≢◌, ℕ, suc, ◌<◌, cond, List, [], ◌∷◌, map, length, refl, sym, ap, subst, arith, inl, inr, ⊎_elim, ◌⊎◌}
use Rattle.std.specs.Ordering.{eq_by_cmp}
use Rattle.eco_net.specs.Netlist.{Name, name_cmp}
use Rattle.eco_net.specs.Walks.{ReadsNet, IsLoopFree, Onward}
use Rattle.eco_net.specs.Listing.{Listing, netlist}
use Rattle.eco_net.specs.Kept.{IsListing}
use Rattle.eco_net.specs.Gates.{FeedsNet}
use Rattle.eco_net.specs.Search.{AreSettled, IsEvaluationOrder, Around, IsRing}
use Rattle.eco_net.proofs.Basics.{Has, cmp_itself, cmp_apart}
use Rattle.eco_net.proofs.GateNames.{nm, reads_named, named_reads, number_of, computed_known}
use Rattle.eco_net.proofs.Searching.{same_number}
use Rattle.eco_net.proofs.PinNames.{same_net}
use Rattle.eco_net.proofs.Walks.{ranked_loop_free, onward_walk}

-- where a name stands first
pub pos : List Name → Name → ℕ
pos [] q = 0
pos (n ∷ ns) q = cond (eq_by_cmp name_cmp q n) 0 (suc (pos ns q))

pos_here : (n : Name) (ns : List Name) → pos (n ∷ ns) n ≡ 0
unfolding pos
pos_here n ns = ap (λ b. cond b 0 (suc (pos ns n))) (cmp_itself n)

pos_later : (n q : Name) (ns : List Name) → q ≢ n → pos (n ∷ ns) q ≡ suc (pos ns q)
unfolding pos
pos_later n q ns a = ap (λ b. cond b 0 (suc (pos ns q))) (cmp_apart q n a)

module _ (L : Listing) (is : IsListing L) where
  abbrev at : List ℕ → ℕ → ℕ
  at ns a = pos (map (nm L is) ns) (nm L is a)

  at_first : (n a : ℕ) (ns : List ℕ) → n ≡ a → at (n ∷ ns) a ≡ 0
  at_first n a ns e = subst (λ x. at (n ∷ ns) x ≡ 0) e (pos_here (nm L is n) (map (nm L is) ns))

  at_rest : (n a : ℕ) (ns : List ℕ) → n < length L.nets → a < length L.nets → a ≢ n → at (n ∷ ns) a ≡ suc (at ns a)
  at_rest n a ns k h d = pos_later (nm L is n) (nm L is a) (map (nm L is) ns) (λ e. d (same_net L is a n h k e))

  rises : (before ns : List ℕ) (a b : ℕ) → ((x : ℕ) → Has ns x → x < length L.nets) → AreSettled L before ns → FeedsNet L a b → Has ns b → Has before a ⊎ (at ns a < at ns b)
  rises before [] a b k s r h = absurd h
  rises before (n ∷ ns) a b k s r h = by_b (same_number b n) (λ i. rises (n ∷ before) ns a b (λ x j. k x (inr j)) s.1 r i)
    where
      ka : a < length L.nets
      ka = computed_known L a r.source r.from

      kb : b < length L.nets
      kb = computed_known L b r.gate r.to

      kn : n < length L.nets
      kn = k n (inl refl)

      first : b ≢ n → n ≡ a → at (n ∷ ns) a < at (n ∷ ns) b
      first d e = let x = at_first n a ns e in let y = at_rest n b ns kn kb d in omega (arith, x, y)

      by_a : b ≢ n → at ns a < at ns b → (a ≡ n) ⊎ (a ≢ n) → at (n ∷ ns) a < at (n ∷ ns) b
      by_a d l (inl e) = first d (sym e)
      by_a d l (inr f) = let x = at_rest n a ns kn ka f in let y = at_rest n b ns kn kb d in omega (arith, x, y, l)

      rest : b ≢ n → ((n ≡ a) ⊎ Has before a) ⊎ (at ns a < at ns b) → Has before a ⊎ (at (n ∷ ns) a < at (n ∷ ns) b)
      rest d (inl (inl e)) = inr (first d e)
      rest d (inl (inr i)) = inl i
      rest d (inr l) = inr (by_a d l (same_number a n))

      by_b : (b ≡ n) ⊎ (b ≢ n) → (Has ns b → ((n ≡ a) ⊎ Has before a) ⊎ (at ns a < at ns b)) → Has before a ⊎ (at (n ∷ ns) a < at (n ∷ ns) b)
      by_b (inl e) f = inl (s.0 a (subst (FeedsNet L a) e r))
      by_b (inr d) f = rest d (f (⊎_elim (λ e. absurd (d (sym e))) (λ i. i) h))

  -- an order shows that there is no loop
  pub order_loop_free : (order : List ℕ) → IsEvaluationOrder L order → IsLoopFree (netlist L)
  order_loop_free order o = ranked_loop_free (netlist L) (pos (map (nm L is) order)) (λ p q w.
      let a = number_of L is p w.from in
      let b = number_of L is q (w.table, w.inputs, w.to) in
      let named : ReadsNet (netlist L) (nm L is a.0) (nm L is b.0) = subst (λ x. ReadsNet (netlist L) x (nm L is b.0)) (sym a.2) (subst (ReadsNet (netlist L) p) (sym b.2) w) in
      let r = named_reads L is a.0 b.0 a.1 b.1 named in
      let l : at order a.0 < at order b.0 = ⊎_elim (λ i. absurd i) (λ l. l) (rises [] order a.0 b.0 (λ x h. let c = o.computed x h in computed_known L x c.0 c.1) o.settled r (o.each b.0 (r.gate, r.to))) in
      subst (λ x. pos (map (nm L is) order) x < pos (map (nm L is) order) q) a.2 (subst (λ x. at order a.0 < pos (map (nm L is) order) x) b.2 l))

  pub onward_named : (a : ℕ) (ns : List ℕ) (b : ℕ) → Around L a ns b → Onward (netlist L) (nm L is a) (map (nm L is) ns) (nm L is b)
  onward_named a [] b r = reads_named L is a b r
  onward_named a (c ∷ cs) b r = (reads_named L is a c r.0, onward_named c cs b r.1)

  -- a ring shows that there is one
  pub ring_shows : (ring : List ℕ) → IsRing L ring → IsLoopFree (netlist L) → ⊥
  ring_shows [] r free = r
  ring_shows (n ∷ ns) r free = free (nm L is n) (length (map (nm L is) ns)) (onward_walk (netlist L) (nm L is n) (map (nm L is) ns) (nm L is n) (onward_named n ns n r.0))
