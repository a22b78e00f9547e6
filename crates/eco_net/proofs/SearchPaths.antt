-- Places on a path
use Rattle.std.proofs.Common.{◌≡◌, ℕ, zero, suc, ◌+◌, ◌-◌, ◌<◌, List, [], ◌∷◌, ◌++◌, length, take, drop, Some, None, Result, Ok, Err, OnOk, refl, sym, ap, ◌∙◌, subst, arith, slice_get, get_or, inl, inr, ⊎_elim, ◌⊎◌, nat_eq, reverse, replicate}
use Rattle.std.specs.List.{IsDistinct}
use Rattle.std.proofs.lemmas.List.{reverse-append, length-replicate}
use Rattle.std.proofs.lemmas.Option.{slice_get-get_or, slice_get_read}
use Rattle.eco_net.specs.declared.search.Mark.{Mark}
use Rattle.eco_net.specs.declared.search.Mark.TheVariants.{Unseen, Open, Done}
use Rattle.eco_net.specs.Listing.{Listing}
use Rattle.eco_net.specs.Gates.{FeedsNet}
use Rattle.eco_net.specs.Search.{IsMark, IsComputedNet, Chain, IsSearch, IsEvaluationOrder, Around, IsRing, EndsWith}
use Rattle.eco_net.proofs.Basics.{Has, same_Some, not_None, same_head, has_append_right}
use Rattle.eco_net.proofs.Places.{at_place}
use Rattle.eco_net.proofs.AllPins.{split_has}
use Rattle.eco_net.proofs.GateNames.{computed_known}
use Rattle.eco_net.proofs.Searching.{none_of, distinct_push, distinct_back, back_chain, backwards, open_unseen, done_unseen}

pub dropped_within : (xs : List ℕ) (i x : ℕ) → Has (drop i xs) x → i < length xs
dropped_within [] zero x h = absurd h
dropped_within [] (suc i) x h = absurd h
dropped_within (y ∷ xs) zero x h = omega arith
dropped_within (y ∷ xs) (suc i) x h = omega (arith, dropped_within xs i x h)

-- a list before and after a place
pub split_place : (xs : List ℕ) (i x : ℕ) → slice_get xs i ≡ Some x → (rest : List ℕ) × (xs ≡ take i xs ++ x ∷ rest) × (drop i xs ≡ x ∷ rest)
split_place [] i x e = absurd (not_None (sym e))
split_place (y ∷ xs) zero x e = (xs, ap (λ z. z ∷ xs) (same_Some e), ap (λ z. z ∷ xs) (same_Some e))
split_place (y ∷ xs) (suc i) x e = let w = split_place xs i x e in (w.0, ap (λ zs. y ∷ zs) w.1, w.2)

-- ---- the last net

ends_at : (xs : List ℕ) (i n : ℕ) → i + 1 ≡ length xs → slice_get xs i ≡ Some n → (front : List ℕ) × (xs ≡ front ++ n ∷ [])
ends_at [] i n h e = absurd (not_None (sym e))
ends_at (x ∷ []) zero n h e = ([], ap (λ z. z ∷ []) (same_Some e))
ends_at (x ∷ []) (suc i) n h e = absurd (not_None (sym e))
ends_at (x ∷ y ∷ xs) zero n h e = absurd (omega (arith, h))
ends_at (x ∷ y ∷ xs) (suc i) n h e = let w = ends_at (y ∷ xs) i n (omega (arith, h)) e in (x ∷ w.0, ap (λ zs. x ∷ zs) w.1)

pub ends : (xs : List ℕ) (n : ℕ) → slice_get xs (length xs - 1) ≡ Some n → EndsWith xs n
ends [] n e = absurd (not_None (sym e))
ends (x ∷ xs) n e = ends_at (x ∷ xs) (suc (length xs) - 1) n (omega arith) e

pub no_last : (xs : List ℕ) → slice_get xs (length xs - 1) ≡ None → xs ≡ []
no_last [] e = refl
no_last (x ∷ xs) e = absurd (some_last (x ∷ xs) (suc (length xs) - 1) (omega arith) e)
  where
    some_last : (xs : List ℕ) (i : ℕ) → i < length xs → slice_get xs i ≡ None → ⊥
    some_last xs i h e = not_None (sym (slice_get-get_or xs i 0 h) ∙ e)

-- ---- results

pub on_ok : {A B P X : Type 0} (r : Result A B) → (P → X) → OnOk r P → OnOk r X
on_ok (Ok a) f p = f p
on_ok (Err e) f p = tt

pub on_ok2 : {A B P Q X : Type 0} (r : Result A B) → (P → Q → X) → OnOk r P → OnOk r Q → OnOk r X
on_ok2 (Ok a) f p q = f p q
on_ok2 (Err e) f p q = tt

pub on_ok3 : {A B P Q S X : Type 0} (r : Result A B) → (P → Q → S → X) → OnOk r P → OnOk r Q → OnOk r S → OnOk r X
on_ok3 (Ok a) f p q s = f p q s
on_ok3 (Err e) f p q s = tt

-- ---- rings

has_reverse : (xs : List ℕ) (x : ℕ) → Has (reverse xs) x → Has xs x
has_reverse [] x h = h
has_reverse (y ∷ xs) x h = ⊎_elim (λ i. inr (has_reverse xs x i)) (λ i. ⊎_elim (λ e. inl e) (λ z. absurd z) i) (split_has (reverse xs) (y ∷ []) x (subst (λ zs. Has zs x) (reverse-append (y ∷ []) xs) h))

first_apart : (x : ℕ) (xs : List ℕ) → IsDistinct nat_eq (x ∷ xs) → Has xs x → ⊥
unfolding IsDistinct
first_apart x xs d h = none_of x xs d.0 h

rest_distinct : (x : ℕ) (xs : List ℕ) → IsDistinct nat_eq (x ∷ xs) → IsDistinct nat_eq xs
unfolding IsDistinct
rest_distinct x xs d = d.1

distinct_nil : IsDistinct nat_eq []
unfolding IsDistinct
distinct_nil = tt

pub reverse_distinct : (xs : List ℕ) → IsDistinct nat_eq xs → IsDistinct nat_eq (reverse xs)
reverse_distinct [] d = d
reverse_distinct (x ∷ xs) d = subst (IsDistinct nat_eq) (sym (reverse-append (x ∷ []) xs)) (distinct_push (reverse xs) x (reverse_distinct xs (rest_distinct x xs d)) (λ h. first_apart x xs d (has_reverse xs x h)))

-- a net of the path that the last one's driver reads closes a ring
pub ring_is : (L : Listing) (path front front' rest : List ℕ) (n a : ℕ) → Chain L path → IsDistinct nat_eq path → path ≡ front' ++ n ∷ [] → path ≡ front ++ a ∷ rest → FeedsNet L a n → IsRing L (reverse (a ∷ rest))
ring_is L path front front' rest n a chain distinct e f r =
    let w = backwards L a rest n (back_chain L front (a ∷ rest) (subst (Chain L) f chain)) r in
    let whole : n ∷ reverse front' ≡ w.top ∷ (w.rest ++ reverse front) =
    sym (ap reverse e ∙ reverse-append front' (n ∷ [])) ∙ ap reverse f ∙ reverse-append front (a ∷ rest) ∙ ap (λ zs. zs ++ reverse front) w.is in
    let top : w.top ≡ n = sym (same_head whole) in
    let apart : IsDistinct nat_eq (reverse (a ∷ rest)) = reverse_distinct (a ∷ rest) (distinct_back front (a ∷ rest) (subst (IsDistinct nat_eq) f distinct)) in
    subst (IsRing L) (sym w.is) (subst (λ q. Around L w.top w.rest q) (sym top) w.around, subst (IsDistinct nat_eq) w.is apart)

-- ---- known nets

pub last_has : (path : List ℕ) (n : ℕ) → EndsWith path n → Has path n
last_has path n e = subst (λ p. Has p n) (sym e.1) (has_append_right e.0 (n ∷ []) n (inl refl))

pub last_known : (L : Listing) (ms : List Mark) (path order : List ℕ) → IsSearch L ms path order → (n : ℕ) → EndsWith path n → n < length L.nets
last_known L ms path order is n e = let c = is.path_computed n (last_has path n e) in computed_known L n c.0 c.1

pub last_marked : (L : Listing) (ms : List Mark) (path order : List ℕ) → IsSearch L ms path order → (n : ℕ) → EndsWith path n → n < length ms
last_marked L ms path order is n e = omega (arith, last_known L ms path order is n e, is.sized)

pub met_marked : (L : Listing) (ms : List Mark) (path order : List ℕ) → IsSearch L ms path order → (a n : ℕ) → FeedsNet L a n → a < length ms
met_marked L ms path order is a n r = omega (arith, computed_known L a r.source r.from, is.sized)

pub unseen_is : (m : Mark) → (m ≡ Open → ⊥) → (m ≡ Done → ⊥) → m ≡ Unseen
unseen_is Unseen a b = refl
unseen_is Open a b = absurd (a refl)
unseen_is Done a b = absurd (b refl)

-- a mark that is neither open nor done
pub met_unseen : (ms : List Mark) (a : ℕ) (m : Mark) → a < length ms → m ≡ get_or ms a m → (m ≡ Open → ⊥) → (IsMark ms a Done → ⊥) → IsMark ms a Unseen
met_unseen ms a m h e o d =
    let at : slice_get ms a ≡ Some m = slice_get_read ms (length ms) a m refl h e in
    at ∙ ap Some (unseen_is m o (λ x. d (at ∙ ap Some x)))

pub done_is : (m : Mark) → (m ≡ Unseen → ⊥) → (m ≡ Open → ⊥) → m ≡ Done
done_is Unseen a b = absurd (a refl)
done_is Open a b = absurd (b refl)
done_is Done a b = refl

pub lt_cases : (j n : ℕ) → j < n + 1 → (j < n) ⊎ (j ≡ n)
lt_cases j zero h = inr (omega (arith, h))
lt_cases zero (suc n) h = inl (omega arith)
lt_cases (suc j) (suc n) h = ⊎_elim (λ a. inl (omega (arith, a))) (λ e. inr (ap suc e)) (lt_cases j n (omega (arith, h)))

pub seen_none : (n k : ℕ) (m : Mark) → slice_get (replicate n Unseen) k ≡ Some m → m ≡ Unseen
seen_none zero k m e = absurd (not_None (sym e))
seen_none (suc n) zero m e = sym (same_Some e)
seen_none (suc n) (suc k) m e = seen_none n k m e

pub begun : (L : Listing) → IsSearch L (replicate (length L.nets) Unseen) [] []
begun L = record {
  sized = length-replicate (length L.nets) Unseen;
  on_path = λ n. (λ h. absurd h, λ e. open_unseen (seen_none (length L.nets) n Open e));
  finished = λ n. (λ h. absurd h, λ e. done_unseen (seen_none (length L.nets) n Done e));
  path_distinct = distinct_nil;
  order_distinct = distinct_nil;
  path_computed = λ n h. absurd h;
  order_computed = λ n h. absurd h;
  chain = tt;
  settled = tt;
}

pub ordered : (L : Listing) (ms : List Mark) (path order : List ℕ) → IsSearch L ms path order → path ≡ [] → ((n : ℕ) → n < length L.nets → IsComputedNet L n → IsMark ms n Unseen → ⊥) → IsEvaluationOrder L order
ordered L ms path order is e seen = record {
  settled = is.settled;
  computed = is.order_computed;
  each = λ n c.
      let k = computed_known L n c.0 c.1 in
      let m = at_place ms n (omega (arith, k, is.sized)) in
      (is.finished n).1 (m.1 ∙ ap Some (done_is m.0 (λ s. seen n k c (m.1 ∙ ap Some s)) (λ s. subst (λ p. Has p n) e ((is.on_path n).1 (m.1 ∙ ap Some s)))));
  distinct = is.order_distinct;
}
