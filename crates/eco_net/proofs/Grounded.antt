-- In a loop-free netlist what a net's value rests on ends: walks backwards visit each computed net at most once
use Rattle.std.proofs.Common.{◌≡◌, ℕ, zero, suc, ◌<◌, ◌≤◌, List, [], ◌∷◌, length, None, refl, sym, ◌∙◌, subst, inl, inr, ⊎_elim, arith, ◌⊎◌, le_refl}
use Rattle.std.specs.FinMap.{keys}
use Rattle.eco_net.specs.Netlist.{Name, Netlist}
use Rattle.eco_net.specs.Drivers.{IsComputed}
use Rattle.eco_net.specs.Walks.{ReadsNet, NetWalk, IsLoopFree}
use Rattle.eco_net.proofs.Basics.{Has, same_name, has_key}

pub data Grounded (N : Netlist) : Name → Type 0 where
  grounded : {n : Name} → ((a : Name) → ReadsNet N a n → Grounded N a) → Grounded N n

without : Name → List Name → List Name
without n [] = []
without n (m ∷ ms) = ⊎_elim (λ e. without n ms) (λ a. m ∷ without n ms) (same_name m n)

shorter : (n : Name) (ms : List Name) → length (without n ms) ≤ length ms
unfolding without
shorter n [] = omega arith
shorter n (m ∷ ms) = elim (same_name m n) as (λ d. length (⊎_elim (λ e. without n ms) (λ a. m ∷ without n ms) d) ≤ suc (length ms)) [ inl e ↦ omega (arith, shorter n ms) | inr a ↦ omega (arith, shorter n ms) ]

strictly : (n : Name) (ms : List Name) → Has ms n → length (without n ms) < length ms
unfolding without
strictly n [] h = absurd h
strictly n (m ∷ ms) h = elim (same_name m n) as (λ d. length (⊎_elim (λ e. without n ms) (λ a. m ∷ without n ms) d) < suc (length ms)) [
  | inl e ↦ omega (arith, shorter n ms)
  | inr a ↦ let i : Has ms n = ⊎_elim (λ e. absurd (a e)) (λ i. i) h in omega (arith, strictly n ms i)
]

stays : (n : Name) (ms : List Name) (m : Name) → Has ms m → (n ≡ m) ⊎ Has (without n ms) m
unfolding without
stays n [] m h = absurd h
stays n (x ∷ ms) m h = elim (same_name x n) as (λ d. (n ≡ m) ⊎ Has (⊎_elim (λ e. without n ms) (λ a. x ∷ without n ms) d) m) [
  | inl e ↦ ⊎_elim (λ f. inl (sym e ∙ f)) (λ i. stays n ms m i) h
  | inr a ↦ ⊎_elim (λ f. inr (inl f)) (λ i. ⊎_elim (λ f. inl f) (λ j. inr (inr j)) (stays n ms m i)) h
]

-- a walk goes on from a net before it
pub further : (N : Netlist) (a n m : Name) (k : ℕ) → ReadsNet N a n → NetWalk N n m k → NetWalk N a m (suc k)
further N a n m zero r w = (a, refl, subst (λ x. ReadsNet N a x) w r)
further N a n m (suc k) r w = (w.0, further N a n w.0 k r w.1, w.2)

-- the nets that are left, or from which n's driver was reached
abbrev Covers : Netlist → List Name → Name → Type 0
Covers N left n = (m : Name) → IsComputed N m → Has left m ⊎ ((k : ℕ) × NetWalk N n m (suc k))

-- n is among the nets that are left, since it does not lead to itself
still_left : (N : Netlist) → IsLoopFree N → (left : List Name) (n : Name) → Covers N left n → IsComputed N n → Has left n
still_left N free left n c m = ⊎_elim (λ h. h) (λ w. absurd (free n w.0 w.1)) (c n m)

next_covers : (N : Netlist) (left : List Name) (a n : Name) → ReadsNet N a n → Covers N left n → Covers N (without n left) a
next_covers N left a n r c m i =
    ⊎_elim
    (λ h. ⊎_elim (λ e. inr (0, further N a n m 0 r e)) (λ j. inl j) (stays n left m h))
    (λ w. inr (suc w.0, further N a n m (suc w.0) r w.1))
    (c m i)

visit : (N : Netlist) → IsLoopFree N → (fuel : ℕ) (left : List Name) (n : Name) → length left ≤ fuel → Covers N left n → Grounded N n
visit N free zero left n l c = grounded (λ a r.
    let h : length (without n left) < length left = strictly n left (still_left N free left n c (r.table, r.inputs, r.to)) in
    absurd (omega arith))
visit N free (suc fuel) left n l c = grounded (λ a r.
    let h : length (without n left) < length left = strictly n left (still_left N free left n c (r.table, r.inputs, r.to)) in
    visit N free fuel (without n left) a (omega arith) (next_covers N left a n r c))

pub all_grounded : (N : Netlist) → IsLoopFree N → (n : Name) → Grounded N n
all_grounded N free n = visit N free (length (keys N.nets)) (keys N.nets) n (le_refl _) (λ m i. inl (has_key N.nets m None i.2.unsupplied))
