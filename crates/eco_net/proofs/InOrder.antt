-- What is set for each computed net, in an order, from what is set for the nets that its driver reads
use Rattle.std.proofs.Common.{◌≡◌, ◌≢◌, ℕ, zero, suc, ◌+◌, ◌<◌, ◌≤◌, List, [], ◌∷◌, length, Some, None, refl, sym, ap, ◌∙◌, subst, arith, slice_get, slice_set, inl, inr, ⊎_elim, ◌⊎◌, length-set, nat_eq}
use Rattle.std.specs.List.{IsDistinct}
use Rattle.std.proofs.lemmas.Bool.{eqb-true}
use Rattle.std.proofs.lemmas.Option.{slice_get_within}
use Rattle.std.proofs.lemmas.Map.Steps.{length-le_from_distinct_below}
use Rattle.std.proofs.lemmas.Map.Views.{Contains-from_any}
use Rattle.eco_net.specs.Listing.{Listing}
use Rattle.eco_net.specs.Gates.{GatePin, computed_by, inputs_at, FeedsNet}
use Rattle.eco_net.specs.Search.{AreSettled, IsEvaluationOrder}
use Rattle.eco_net.proofs.Basics.{Has, same_Some, not_None, contains_from_has, has_from_contains}
use Rattle.eco_net.proofs.GateNames.{has_at, at_has, computed_known}
use Rattle.eco_net.proofs.Searching.{none_of}
use Rattle.eco_net.proofs.SearchPaths.{lt_cases}

-- ---- places of a list

pub set_same : {A : Type 0} (xs : List A) (n : ℕ) (x : A) → n < length xs → slice_get (slice_set xs n x) n ≡ Some x
set_same [] n x h = absurd (omega arith)
set_same (y ∷ xs) zero x h = refl
set_same (y ∷ xs) (suc n) x h = set_same xs n x (omega arith)

pub set_other : {A : Type 0} (xs : List A) (n k : ℕ) (x : A) → k ≢ n → slice_get (slice_set xs n x) k ≡ slice_get xs k
set_other [] n k x a = refl
set_other (y ∷ xs) zero zero x a = absurd (a refl)
set_other (y ∷ xs) zero (suc k) x a = refl
set_other (y ∷ xs) (suc n) zero x a = refl
set_other (y ∷ xs) (suc n) (suc k) x a = set_other xs n k x (λ e. a (ap suc e))

one_place : (ns : List ℕ) (i j n : ℕ) → IsDistinct nat_eq ns → slice_get ns i ≡ Some n → slice_get ns j ≡ Some n → i ≡ j
unfolding IsDistinct
one_place [] i j n d e f = absurd (not_None (sym e))
one_place (m ∷ ns) zero zero n d e f = refl
one_place (m ∷ ns) zero (suc j) n d e f = absurd (none_of m ns d.0 (has_at ns j m (f ∙ sym e)))
one_place (m ∷ ns) (suc i) zero n d e f = absurd (none_of m ns d.0 (has_at ns i m (e ∙ sym f)))
one_place (m ∷ ns) (suc i) (suc j) n d e f = ap suc (one_place ns i j n d.1 e f)

-- an earlier place with this item
abbrev Earlier : List ℕ → ℕ → ℕ → Type 0
Earlier ns k a = (j : ℕ) × (j < k) × (slice_get ns j ≡ Some a)

earlier_rest : (m : ℕ) (ns : List ℕ) (k a : ℕ) → Earlier ns k a → Earlier (m ∷ ns) (suc k) a
earlier_rest m ns k a e = (suc e.0, omega (arith, e.1), e.2)

-- the first i nets of the order are set, and those that aren't computed are as they began
pub record IsSetTo {X : Type 0} (L : Listing) (start : ℕ → X) (value : List X → GatePin → X) (order : List ℕ) (i : ℕ) (xs : List X) : Type 0 where
  pub sized : length xs ≡ length L.nets
  pub starts : (n : ℕ) → n < length L.nets → computed_by L n ≡ None → slice_get xs n ≡ Some (start n)
  pub set : (k n : ℕ) (g : GatePin) → k < i → slice_get order k ≡ Some n → computed_by L n ≡ Some g → slice_get xs n ≡ Some (value xs g)

-- what is set for a gate's net depends on what is set for the nets that the gate reads alone
abbrev pub ByInputs : {X : Type 0} → Listing → (List X → GatePin → X) → Type 0
ByInputs {X} L value = (xs ys : List X) (g : GatePin) → ((a : ℕ) → Has (inputs_at L g.0.0) (Some a) → slice_get xs a ≡ slice_get ys a) → value xs g ≡ value ys g

module _ (L : Listing) where
  -- what a net's driver reads stands before it
  settled_at : (before ns : List ℕ) (k n a : ℕ) → AreSettled L before ns → slice_get ns k ≡ Some n → FeedsNet L a n → Has before a ⊎ Earlier ns k a
  settled_at before [] k n a s e r = absurd (not_None (sym e))
  settled_at before (m ∷ ns) zero n a s e r = inl (s.0 a (subst (FeedsNet L a) (sym (same_Some e)) r))
  settled_at before (m ∷ ns) (suc k) n a s e r = ⊎_elim
      (⊎_elim (λ f. inr (0, omega arith, ap Some f)) (λ h. inl h))
      (λ f. inr (earlier_rest m ns k a f))
      (settled_at (m ∷ before) ns k n a s.1 e r)

  module _ (order : List ℕ) (is : IsEvaluationOrder L order) where
    -- a net that is read by a driver up to this place isn't the net at this place
    apart_from : (i k n m a : ℕ) (g : GatePin) (s : GatePin) → k ≤ i → slice_get order i ≡ Some n → computed_by L n ≡ Some s → slice_get order k ≡ Some m → computed_by L m ≡ Some g → Has (inputs_at L g.0.0) (Some a) → a ≢ n
    apart_from i k n m a g s h e from f to r same =
        let reads : FeedsNet L n m = record { gate = g; to = to; reads = contains_from_has _ _ (subst (λ x. Has (inputs_at L g.0.0) (Some x)) same r); source = s; from = from } in
        ⊎_elim
        (λ z. absurd z)
        (λ j. let z = one_place order i j.0 n is.distinct e j.2 in absurd (omega (arith, z, h, j.1)))
        (settled_at [] order k m n is.settled f reads)

    pub order_known : (i n : ℕ) → slice_get order i ≡ Some n → n < length L.nets
    order_known i n e = let c = is.computed n (has_at order i n e) in computed_known L n c.0 c.1

    -- an order is no longer than the list of nets
    pub order_short : length order ≤ length L.nets
    order_short = length-le_from_distinct_below order (length L.nets) is.distinct (λ q a.
        let c = is.computed q (has_from_contains order q (Contains-from_any eqb-true q order a)) in computed_known L q c.0 c.1)

    module _ {X : Type 0} (start : ℕ → X) (value : List X → GatePin → X) (by_inputs : ByInputs L value) where
      pub set_none : (xs : List X) → length xs ≡ length L.nets → ((n : ℕ) → n < length L.nets → slice_get xs n ≡ Some (start n)) → IsSetTo L start value order 0 xs
      set_none xs sized h = record { sized = sized; starts = λ n k e. h n k; set = λ k n g h. absurd (omega arith) }

      pub set_more : (i n : ℕ) (g : GatePin) (xs : List X) → slice_get order i ≡ Some n → computed_by L n ≡ Some g → IsSetTo L start value order i xs → IsSetTo L start value order (i + 1) (slice_set xs n (value xs g))
      set_more i n g xs e c w = record {
        sized = length-set xs n (value xs g) ∙ w.sized;
        starts = λ m h f. set_other xs n m (value xs g) (λ s. not_None (sym c ∙ ap (computed_by L) (sym s) ∙ f)) ∙ w.starts m h f;
        set = λ k m f h at by. ⊎_elim (λ l. before k m f l at by) (λ s. here k m f s at by) (lt_cases k i h);
      }
        where
          stays : (k m : ℕ) (f : GatePin) → k ≤ i → slice_get order k ≡ Some m → computed_by L m ≡ Some f → value xs f ≡ value (slice_set xs n (value xs g)) f
          stays k m f h at by = by_inputs xs (slice_set xs n (value xs g)) f (λ a r. sym (set_other xs n a (value xs g) (apart_from i k n m a f g h e c at by r)))

          before : (k m : ℕ) (f : GatePin) → k < i → slice_get order k ≡ Some m → computed_by L m ≡ Some f → slice_get (slice_set xs n (value xs g)) m ≡ Some (value (slice_set xs n (value xs g)) f)
          before k m f h at by =
              set_other xs n m (value xs g) (λ s. let z = one_place order k i n is.distinct (at ∙ ap Some s) e in omega (arith, z, h))
              ∙ w.set k m f h at by
              ∙ ap Some (stays k m f (omega (arith, h)) at by)

          here : (k m : ℕ) (f : GatePin) → k ≡ i → slice_get order k ≡ Some m → computed_by L m ≡ Some f → slice_get (slice_set xs n (value xs g)) m ≡ Some (value (slice_set xs n (value xs g)) f)
          here k m f s at by =
              let same : n ≡ m = same_Some (sym e ∙ ap (slice_get order) (sym s) ∙ at) in
              let gate : g ≡ f = same_Some (sym c ∙ ap (computed_by L) same ∙ by) in
              ap (slice_get (slice_set xs n (value xs g))) (sym same)
              ∙ set_same xs n (value xs g) (omega (arith, w.sized, computed_known L n g c))
              ∙ ap (λ x. Some (value xs x)) gate
              ∙ ap Some (stays k m f (omega (arith, s)) at by)

      pub set_all : (xs : List X) → IsSetTo L start value order (length order) xs → (n : ℕ) (g : GatePin) → computed_by L n ≡ Some g → slice_get xs n ≡ Some (value xs g)
      set_all xs w n g c =
          let p = at_has order n (is.each n (g, c)) in
          w.set p.0 n g (slice_get_within order p.0 n p.1) p.1 c
