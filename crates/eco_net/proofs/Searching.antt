-- What each step of a search keeps
use Rattle.std.proofs.Common.{◌≡◌, ◌≢◌, ℕ, zero, suc, ◌<◌, Bool, true, false, List, [], ◌∷◌, ◌++◌, Some, refl, sym, ap, ◌∙◌, subst, arith, slice_get, slice_set, get_or, inl, inr, ⊎_elim, ◌⊎◌, length-set, sum_by, nat_eq, reverse, true≢false, ◌||◌}
use Rattle.std.specs.List.{IsDistinct, list_any, AllByRecursion}
use Rattle.std.specs.Cmp.{nat_eq_equiv}
use Rattle.std.proofs.lemmas.Map.Keys.{IsDistinct-push}
use Rattle.std.proofs.lemmas.List.Sums.{sum_by-set}
use Rattle.std.proofs.lemmas.List.{reverse-append}
use Rattle.std.proofs.lemmas.Bool.{eqb-true, eq-eqb}
use Rattle.std.proofs.lemmas.Option.{slice_get_within, get_or_from_slice_get}
use Rattle.eco_net.specs.declared.search.Mark.{Mark}
use Rattle.eco_net.specs.declared.search.Mark.TheVariants.{Unseen, Open, Done}
use Rattle.eco_net.specs.Listing.{Listing}
use Rattle.eco_net.specs.Gates.{FeedsNet}
use Rattle.eco_net.specs.Among.{Has}
use Rattle.eco_net.specs.Search.{IsMark, weight, IsComputedNet, ChainFrom, Chain, AreSettled, IsSearch, Stays, Around}
use Rattle.eco_net.proofs.Basics.{same_Some, not_None, has_append_left, has_append_right}
use Rattle.eco_net.proofs.AllPins.{split_has}

-- ---- marks

pub mark_same : (ms : List Mark) (n : ℕ) (m x : Mark) → slice_get ms n ≡ Some x → IsMark (slice_set ms n m) n m
mark_same [] n m x e = absurd (not_None (sym e))
mark_same (y ∷ ms) zero m x e = refl
mark_same (y ∷ ms) (suc n) m x e = mark_same ms n m x e

pub mark_other : (ms : List Mark) (n k : ℕ) (m : Mark) → k ≢ n → slice_get (slice_set ms n m) k ≡ slice_get ms k
mark_other [] n k m a = refl
mark_other (y ∷ ms) zero zero m a = absurd (a refl)
mark_other (y ∷ ms) zero (suc k) m a = refl
mark_other (y ∷ ms) (suc n) zero m a = refl
mark_other (y ∷ ms) (suc n) (suc k) m a = mark_other ms n k m (λ e. a (ap suc e))

pub same_number : (a b : ℕ) → (a ≡ b) ⊎ (a ≢ b)
same_number zero zero = inl refl
same_number zero (suc b) = inr (λ e. omega (arith, e))
same_number (suc a) zero = inr (λ e. omega (arith, e))
same_number (suc a) (suc b) = ⊎_elim (λ e. inl (ap suc e)) (λ n. inr (λ e. n (omega (arith, e)))) (same_number a b)

pub open_done : Open ≡ Done → ⊥
open_done e = cc

pub open_unseen : Open ≡ Unseen → ⊥
open_unseen e = cc

pub done_unseen : Done ≡ Unseen → ⊥
done_unseen e = cc

pub one_mark : (ms : List Mark) (n : ℕ) (a b : Mark) → IsMark ms n a → IsMark ms n b → a ≡ b
one_mark ms n a b e f = same_Some (sym e ∙ f)

-- ---- lists of distinct numbers

pub none_of : (n : ℕ) (ns : List ℕ) → AllByRecursion (λ y. nat_eq n y ≡ false) ns → Has ns n → ⊥
none_of n [] h i = i
none_of n (m ∷ ns) h (inl e) = true≢false (sym (eq-eqb n m (sym e)) ∙ h.0)
none_of n (m ∷ ns) h (inr i) = none_of n ns h.1 i

pub not_any : (n : ℕ) (ns : List ℕ) → (Has ns n → ⊥) → list_any (nat_eq n) ns ≡ false
not_any n [] h = refl
not_any n (m ∷ ns) h = go (nat_eq n m) refl (not_any n ns (λ i. h (inr i)))
  where
    go : (b : Bool) → nat_eq n m ≡ b → list_any (nat_eq n) ns ≡ false → (b || list_any (nat_eq n) ns) ≡ false
    go true e r = absurd (h (inl (sym (eqb-true n m e))))
    go false e r = r

pub distinct_push : (ns : List ℕ) (n : ℕ) → IsDistinct nat_eq ns → (Has ns n → ⊥) → IsDistinct nat_eq (ns ++ n ∷ [])
distinct_push ns n d h = IsDistinct-push nat_eq_equiv ns n d (not_any n ns h)

front_all : (P : ℕ → Type 0) (xs ys : List ℕ) → AllByRecursion P (xs ++ ys) → AllByRecursion P xs
front_all P [] ys h = tt
front_all P (x ∷ xs) ys h = (h.0, front_all P xs ys h.1)

pub distinct_front : (xs ys : List ℕ) → IsDistinct nat_eq (xs ++ ys) → IsDistinct nat_eq xs
unfolding IsDistinct
distinct_front [] ys d = tt
distinct_front (x ∷ xs) ys d = (front_all (λ y. nat_eq x y ≡ false) xs ys d.0, distinct_front xs ys d.1)

pub distinct_back : (xs ys : List ℕ) → IsDistinct nat_eq (xs ++ ys) → IsDistinct nat_eq ys
unfolding IsDistinct
distinct_back [] ys d = d
distinct_back (x ∷ xs) ys d = distinct_back xs ys d.1

pub last_apart : (front : List ℕ) (n : ℕ) → IsDistinct nat_eq (front ++ n ∷ []) → Has front n → ⊥
unfolding IsDistinct
last_apart [] n d h = h
last_apart (x ∷ front) n d (inl e) = none_of x (front ++ n ∷ []) d.0 (has_append_right front (n ∷ []) x (inl (sym e)))
last_apart (x ∷ front) n d (inr h) = last_apart front n d.1 h

-- ---- chains

chain_front : (L : Listing) (b : ℕ) (xs ys : List ℕ) → ChainFrom L b (xs ++ ys) → ChainFrom L b xs
chain_front L b [] ys c = tt
chain_front L b (x ∷ xs) ys c = (c.0, chain_front L x xs ys c.1)

pub pop_chain : (L : Listing) (xs ys : List ℕ) → Chain L (xs ++ ys) → Chain L xs
pop_chain L [] ys c = tt
pop_chain L (x ∷ xs) ys c = chain_front L x xs ys c

chain_push : (L : Listing) (b : ℕ) (xs : List ℕ) (n a : ℕ) → ChainFrom L b (xs ++ n ∷ []) → FeedsNet L a n → ChainFrom L b ((xs ++ n ∷ []) ++ a ∷ [])
chain_push L b [] n a c r = (c.0, (r, tt))
chain_push L b (x ∷ xs) n a c r = (c.0, chain_push L x xs n a c.1 r)

pub push_chain : (L : Listing) (front : List ℕ) (n a : ℕ) → Chain L (front ++ n ∷ []) → FeedsNet L a n → Chain L ((front ++ n ∷ []) ++ a ∷ [])
push_chain L [] n a c r = (r, tt)
push_chain L (x ∷ front) n a c r = chain_push L x front n a c r

pub back_chain : (L : Listing) (xs ys : List ℕ) → Chain L (xs ++ ys) → Chain L ys
back_chain L [] ys c = c
back_chain L (x ∷ xs) ys c = go x xs c
  where
    go : (x : ℕ) (xs : List ℕ) → ChainFrom L x (xs ++ ys) → Chain L ys
    go x [] c = begins ys c
      where
        begins : (ys : List ℕ) → ChainFrom L x ys → Chain L ys
        begins [] c = tt
        begins (y ∷ ys) c = c.1
    go x (z ∷ xs) c = go z xs c.1

-- ---- an order that is settled

more_settled : (L : Listing) (before : List ℕ) (ns : List ℕ) (n : ℕ) → AreSettled L before ns → ((a : ℕ) → FeedsNet L a n → Has before a ⊎ Has ns a) → AreSettled L before (ns ++ n ∷ [])
more_settled L before [] n s h = (λ a r. ⊎_elim (λ i. i) (λ i. absurd i) (h a r), tt)
more_settled L before (m ∷ ns) n s h = (s.0, more_settled L (m ∷ before) ns n s.1 (λ a r. ⊎_elim (λ i. inl (inr i)) (λ i. ⊎_elim (λ e. inl (inl e)) (λ j. inr j) i) (h a r)))

-- ---- steps

module _ (L : Listing) (ms : List Mark) (path order : List ℕ) (is : IsSearch L ms path order) where
  pub entered : (a : ℕ) → IsMark ms a Unseen → IsComputedNet L a → Chain L (path ++ a ∷ []) → IsSearch L (slice_set ms a Open) (path ++ a ∷ []) order
  entered a u m c = record {
    sized = length-set ms a Open ∙ is.sized;
    on_path = λ n. (forth n, back n (same_number n a));
    finished = λ n. (λ h. mark_other ms a n Open (λ e. done_unseen (one_mark ms n Done Unseen ((is.finished n).0 h) (subst (λ k. IsMark ms k Unseen) (sym e) u))) ∙ (is.finished n).0 h, done_back n (same_number n a));
    path_distinct = distinct_push path a is.path_distinct (λ h. open_unseen (one_mark ms a Open Unseen ((is.on_path a).0 h) u));
    order_distinct = is.order_distinct;
    path_computed = λ n h. ⊎_elim (is.path_computed n) (λ i. ⊎_elim (λ e. subst (IsComputedNet L) e m) (λ z. absurd z) i) (split_has path (a ∷ []) n h);
    order_computed = is.order_computed;
    chain = c;
    settled = is.settled;
  }
    where
      forth : (n : ℕ) → Has (path ++ a ∷ []) n → IsMark (slice_set ms a Open) n Open
      forth n h = ⊎_elim
          (λ i. mark_other ms a n Open (λ e. open_unseen (one_mark ms n Open Unseen ((is.on_path n).0 i) (subst (λ k. IsMark ms k Unseen) (sym e) u))) ∙ (is.on_path n).0 i)
          (λ i. ⊎_elim (λ e. subst (λ k. IsMark (slice_set ms a Open) k Open) e (mark_same ms a Open Unseen u)) (λ z. absurd z) i)
          (split_has path (a ∷ []) n h)

      back : (n : ℕ) → (n ≡ a) ⊎ (n ≢ a) → IsMark (slice_set ms a Open) n Open → Has (path ++ a ∷ []) n
      back n (inl e) i = has_append_right path (a ∷ []) n (inl (sym e))
      back n (inr d) i = has_append_left path (a ∷ []) n ((is.on_path n).1 (sym (mark_other ms a n Open d) ∙ i))

      done_back : (n : ℕ) → (n ≡ a) ⊎ (n ≢ a) → IsMark (slice_set ms a Open) n Done → Has order n
      done_back n (inl e) i = absurd (open_done (one_mark (slice_set ms a Open) a Open Done (mark_same ms a Open Unseen u) (subst (λ k. IsMark (slice_set ms a Open) k Done) e i)))
      done_back n (inr d) i = (is.finished n).1 (sym (mark_other ms a n Open d) ∙ i)

  pub left : (front : List ℕ) (n : ℕ) → path ≡ front ++ n ∷ [] → ((a : ℕ) → FeedsNet L a n → IsMark ms a Done) → IsSearch L (slice_set ms n Done) front (order ++ n ∷ [])
  left front n e reads = record {
    sized = length-set ms n Done ∙ is.sized;
    on_path = λ k. (forth k, back k (same_number k n));
    finished = λ k. (done_forth k, done_back k (same_number k n));
    path_distinct = distinct_front front (n ∷ []) apart;
    order_distinct = distinct_push order n is.order_distinct (λ h. open_done (one_mark ms n Open Done here ((is.finished n).0 h)));
    path_computed = λ k h. is.path_computed k (subst (λ p. Has p k) (sym e) (has_append_left front (n ∷ []) k h));
    order_computed = λ k h. ⊎_elim (is.order_computed k) (λ i. ⊎_elim (λ s. is.path_computed k (subst (λ p. Has p k) (sym e) (has_append_right front (n ∷ []) k (inl s)))) (λ z. absurd z) i) (split_has order (n ∷ []) k h);
    chain = pop_chain L front (n ∷ []) (subst (Chain L) e is.chain);
    settled = more_settled L [] order n is.settled (λ a r. inr ((is.finished a).1 (reads a r)));
  }
    where
      apart : IsDistinct nat_eq (front ++ n ∷ [])
      apart = subst (IsDistinct nat_eq) e is.path_distinct

      here : IsMark ms n Open
      here = (is.on_path n).0 (subst (λ p. Has p n) (sym e) (has_append_right front (n ∷ []) n (inl refl)))

      forth : (k : ℕ) → Has front k → IsMark (slice_set ms n Done) k Open
      forth k h =
          mark_other ms n k Done (λ s. last_apart front n apart (subst (Has front) s h))
          ∙ (is.on_path k).0 (subst (λ p. Has p k) (sym e) (has_append_left front (n ∷ []) k h))

      back : (k : ℕ) → (k ≡ n) ⊎ (k ≢ n) → IsMark (slice_set ms n Done) k Open → Has front k
      back k (inl s) i = absurd (open_done (sym (one_mark (slice_set ms n Done) n Done Open (mark_same ms n Done Open here) (subst (λ j. IsMark (slice_set ms n Done) j Open) s i))))
      back k (inr d) i =
          ⊎_elim (λ h. h) (λ j. ⊎_elim (λ s. absurd (d (sym s))) (λ z. absurd z) j)
          (split_has front (n ∷ []) k (subst (λ p. Has p k) e ((is.on_path k).1 (sym (mark_other ms n k Done d) ∙ i))))

      done_forth : (k : ℕ) → Has (order ++ n ∷ []) k → IsMark (slice_set ms n Done) k Done
      done_forth k h = ⊎_elim
          (λ i. mark_other ms n k Done (λ s. open_done (one_mark ms n Open Done here (subst (λ j. IsMark ms j Done) s ((is.finished k).0 i)))) ∙ (is.finished k).0 i)
          (λ i. ⊎_elim (λ s. subst (λ j. IsMark (slice_set ms n Done) j Done) s (mark_same ms n Done Open here)) (λ z. absurd z) i)
          (split_has order (n ∷ []) k h)

      done_back : (k : ℕ) → (k ≡ n) ⊎ (k ≢ n) → IsMark (slice_set ms n Done) k Done → Has (order ++ n ∷ []) k
      done_back k (inl s) i = has_append_right order (n ∷ []) k (inl (sym s))
      done_back k (inr d) i = has_append_left order (n ∷ []) k ((is.finished k).1 (sym (mark_other ms n k Done d) ∙ i))

-- what wasn't seen stays so under a mark on a net
pub set_stays : (ms : List Mark) (n : ℕ) (m x : Mark) → slice_get ms n ≡ Some x → (m ≡ Unseen → ⊥) → Stays ms (slice_set ms n m)
set_stays ms n m x e seen k u = ⊎_elim
    (λ s. absurd (seen (one_mark (slice_set ms n m) n m Unseen (mark_same ms n m x e) (subst (λ j. IsMark (slice_set ms n m) j Unseen) s u))))
    (λ d. sym (mark_other ms n k m d) ∙ u)
    (same_number k n)

-- a mark that weighs less
pub lighter : (ms : List Mark) (n : ℕ) (m x : Mark) → slice_get ms n ≡ Some x → weight m < weight x → sum_by weight (slice_set ms n m) < sum_by weight ms
lighter ms n m x e h =
    let l = slice_get_within ms n x e in
    let z : weight (get_or ms n x) ≡ weight x = ap weight (get_or_from_slice_get ms n x x e) in
    omega (arith, sum_by-set weight ms n m x l, z, h)

-- ---- a ring

around_push : (L : Listing) (t : ℕ) (zs : List ℕ) (b q : ℕ) → Around L t zs b → FeedsNet L b q → Around L t (zs ++ b ∷ []) q
around_push L t [] b q a r = (a, r)
around_push L t (z ∷ zs) b q a r = (a.0, around_push L z zs b q a.1 r)

-- the chain backwards
pub record Back (L : Listing) (b : ℕ) (ns : List ℕ) (q : ℕ) : Type 0 where
  pub top : ℕ
  pub rest : List ℕ
  pub is : reverse (b ∷ ns) ≡ top ∷ rest
  pub around : Around L top rest q

pub backwards : (L : Listing) (b : ℕ) (ns : List ℕ) (q : ℕ) → ChainFrom L b ns → FeedsNet L b q → Back L b ns q
backwards L b [] q c r = record { top = b; rest = []; is = refl; around = r }
backwards L b (a ∷ ns) q c r =
    let w = backwards L a ns b c.1 c.0 in
    record { top = w.top; rest = w.rest ++ b ∷ []; is = reverse-append (b ∷ []) (a ∷ ns) ∙ ap (λ xs. xs ++ b ∷ []) w.is; around = around_push L w.top w.rest b q w.around r }
