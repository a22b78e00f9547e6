use Rattle.std.proofs.Common.{ℕ, zero, suc, ◌-◌, ◌<◌, ◌≡◌, ◌≢◌, ◌⊎◌, inl, inr, refl, arith}

pub split : (n : ℕ) → (n ≡ 0) ⊎ (0 < n)
split zero = inl refl
split (suc n) = inr (omega arith)

-- a number is below another, the same, or above it
pub data Compare (a b : ℕ) : Type 0 where
  below : a < b → Compare a b
  same : a ≡ b → Compare a b
  above : b < a → Compare a b

pub compare' : (a b : ℕ) → Compare a b
compare' a b =
    elim (split (b - a)) [
      | inl z ↦ elim (split (a - b)) [ inl q ↦ same (omega arith) | inr q ↦ above (omega arith) ]
      | inr q ↦ below (omega arith)
    ]

pub same-or : (a b : ℕ) → (a ≡ b) ⊎ (a ≢ b)
same-or a b = elim (compare' a b) [ below l ↦ inr (omega arith) | same e ↦ inl e | above l ↦ inr (omega arith) ]
