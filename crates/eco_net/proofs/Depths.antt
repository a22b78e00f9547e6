-- A netlist has at most one depth
use Rattle.std.proofs.Common.{◌≡◌, ℕ, suc, ◌≤◌, arith, ◌⊎◌, inl, inr}
use Rattle.eco_net.specs.Netlist.{Netlist}
use Rattle.eco_net.specs.Depth.{IsDepth, IsGate, Behind}

at_most : (N : Netlist) (d e : ℕ) → IsDepth N d → IsDepth N e → d ≤ e
at_most N d e a b = go a.reached
  where
    go : (d ≡ 0) ⊎ ((c : _) × IsGate N c × (k : ℕ) × (d ≡ suc k) × Behind N c k) → d ≤ e
    go (inl z) = omega (arith, z)
    go (inr r) = omega (arith, r.3, b.greatest r.0 r.2 r.1 r.4)

pub one_depth : (N : Netlist) (d e : ℕ) → IsDepth N d → IsDepth N e → d ≡ e
one_depth N d e a b = omega (arith, at_most N d e a b, at_most N e d b a)
