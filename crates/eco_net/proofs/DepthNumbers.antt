-- The depths of a listing's gates
use Rattle.std.proofs.Common.{◌≡◌, ℕ, zero, suc, ◌+◌, ◌<◌, ◌≤◌, max, replicate, slice_set, List, [], ◌∷◌, ◌++◌, length, get_or, Option, Some, None, refl, sym, ap, ap₂, ◌∙◌, arith, slice_get, inl, inr, ◌⊎◌}
use Rattle.std.proofs.Math.Nat.{le-max_left, le-max_right, max-le}
use Rattle.std.proofs.lemmas.Bool.{cases_lt}
use Rattle.std.specs.Option.{unwrap_or}
use Rattle.std.proofs.lemmas.Option.{unwrap_or-slice_get, slice_get-get_or, slice_get_past}
use Rattle.eco_net.specs.Listing.{Listing}
use Rattle.eco_net.specs.Gates.{GatePin, inputs_at}
use Rattle.eco_net.specs.DepthsOf.{depth_at, deepest, gate_depth}
use Rattle.eco_net.proofs.Basics.{Has, same_Some, not_None}
use Rattle.eco_net.proofs.InOrder.{ByInputs}

-- ---- the deepest of some nets

pub deepest_push : (ds : List ℕ) (js : List (Option ℕ)) (j : Option ℕ) → deepest ds (js ++ j ∷ []) ≡ max (depth_at ds j) (deepest ds js)
deepest_push ds [] j = refl
deepest_push ds (k ∷ js) j = ap (max (depth_at ds k)) (deepest_push ds js j) ∙ swapped (depth_at ds k) (depth_at ds j) (deepest ds js)
  where
    swapped : (a b c : ℕ) → max a (max b c) ≡ max b (max a c)
    swapped a b c = omega arith

pub deepest_has : (ds : List ℕ) (js : List (Option ℕ)) (j : Option ℕ) → Has js j → depth_at ds j ≤ deepest ds js
deepest_has ds [] j h = absurd h
deepest_has ds (k ∷ js) j (inl e) = omega (arith, ap (depth_at ds) e, le-max_left (depth_at ds k) (deepest ds js))
deepest_has ds (k ∷ js) j (inr h) = omega (arith, deepest_has ds js j h, le-max_right (depth_at ds k) (deepest ds js))

-- it is the depth of one of them, where there is a net among them with one
pub deepest_is : (ds : List ℕ) (js : List (Option ℕ)) → (deepest ds js ≡ 0) ⊎ ((j : Option ℕ) × Has js j × (deepest ds js ≡ depth_at ds j))
deepest_is ds [] = inl refl
deepest_is ds (k ∷ js) = go (deepest_is ds js) (cases_lt (depth_at ds k) (deepest ds js))
  where
    go : (deepest ds js ≡ 0) ⊎ ((j : Option ℕ) × Has js j × (deepest ds js ≡ depth_at ds j)) → (depth_at ds k < deepest ds js) ⊎ (deepest ds js ≤ depth_at ds k) → (max (depth_at ds k) (deepest ds js) ≡ 0) ⊎ ((j : Option ℕ) × Has (k ∷ js) j × (max (depth_at ds k) (deepest ds js) ≡ depth_at ds j))
    go (inl z) (inl h) = absurd (omega (arith, z, h))
    go (inr w) (inl h) = inr (w.0, inr w.1, omega (arith, w.2, h))
    go w (inr h) = inr (k, inl refl, omega (arith, h))

pub deepest_le : (ds : List ℕ) (b : ℕ) (js : List (Option ℕ)) → ((n d : ℕ) → slice_get ds n ≡ Some d → d ≤ b) → deepest ds js ≤ b
deepest_le ds b [] h = omega arith
deepest_le ds b (None ∷ js) h = max-le (omega arith) (deepest_le ds b js h)
deepest_le ds b (Some n ∷ js) h = max-le (go (cases_lt n (length ds))) (deepest_le ds b js h)
  where
    go : (n < length ds) ⊎ (length ds ≤ n) → get_or ds n 0 ≤ b
    go (inl k) = h n (get_or ds n 0) (slice_get-get_or ds n 0 k)
    go (inr k) = omega (arith, unwrap_or-slice_get ds n 0, ap (λ o. unwrap_or o 0) (slice_get_past ds n k))

same_deepest : (xs ys : List ℕ) (js : List (Option ℕ)) → ((a : ℕ) → Has js (Some a) → slice_get xs a ≡ slice_get ys a) → deepest xs js ≡ deepest ys js
same_deepest xs ys [] h = refl
same_deepest xs ys (None ∷ js) h = ap (max 0) (same_deepest xs ys js (λ a i. h a (inr i)))
same_deepest xs ys (Some n ∷ js) h = ap₂ max (sym (unwrap_or-slice_get xs n 0) ∙ ap (λ o. unwrap_or o 0) (h n (inl refl)) ∙ unwrap_or-slice_get ys n 0) (same_deepest xs ys js (λ a i. h a (inr i)))

-- ---- a gate's depth

abbrev pub depth_by : Listing → List ℕ → GatePin → ℕ
depth_by L ds g = gate_depth L ds g.0.0

pub depth_by_inputs : (L : Listing) → ByInputs L (depth_by L)
depth_by_inputs L xs ys g h = ap (λ d. d + 1) (same_deepest xs ys (inputs_at L g.0.0) h)

-- ---- bounds

abbrev pub NoneOver : List ℕ → ℕ → Type 0
NoneOver ds b = (n d : ℕ) → slice_get ds n ≡ Some d → d ≤ b

pub set_over : (ds : List ℕ) (n x b : ℕ) → NoneOver ds b → x ≤ b + 1 → NoneOver (slice_set ds n x) (b + 1)
set_over [] n x b h l m d e = absurd (not_None (sym e))
set_over (y ∷ ds) zero x b h l zero d e = omega (arith, l, same_Some e)
set_over (y ∷ ds) zero x b h l (suc m) d e = omega (arith, h (suc m) d e)
set_over (y ∷ ds) (suc n) x b h l zero d e = omega (arith, h zero d e)
set_over (y ∷ ds) (suc n) x b h l (suc m) d e = set_over ds n x b (λ k c f. h (suc k) c f) l m d e

pub zeros_over : (k : ℕ) → NoneOver (replicate k 0) 0
zeros_over zero n d e = absurd (not_None (sym e))
zeros_over (suc k) zero d e = omega (arith, same_Some e)
zeros_over (suc k) (suc n) d e = zeros_over k n d e

pub zero_at : (k n : ℕ) → n < k → slice_get {X = ℕ} (replicate k 0) n ≡ Some 0
zero_at zero n h = absurd (omega arith)
zero_at (suc k) zero h = refl
zero_at (suc k) (suc n) h = zero_at k n (omega arith)
