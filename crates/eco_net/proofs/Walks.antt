-- What the code's levels and its reported walks say of closed walks
use Rattle.std.proofs.Common.{◌≡◌, ℕ, zero, suc, ◌+◌, ◌<◌, ◌≤◌, List, [], ◌∷◌, length, refl, ap, arith}
use Rattle.eco_net.specs.Netlist.{Name, Netlist}
use Rattle.eco_net.specs.Walks.{ReadsNet, NetWalk, IsLoopFree, Onward, IsClosedWalk}
use Rattle.eco_net.proofs.Grounded.{further}

pub onward_walk : (N : Netlist) (a : Name) (ns : List Name) (b : Name) → Onward N a ns b → NetWalk N a b (suc (length ns))
onward_walk N a [] b r = (a, refl, r)
onward_walk N a (c ∷ cs) b r = further N a c b (suc (length cs)) r.0 (onward_walk N c cs b r.1)

-- a reported walk shows that the netlist is not loop-free
pub reported : (N : Netlist) (ns : List Name) → IsClosedWalk N ns → IsLoopFree N → ⊥
reported N [] w free = w
reported N (n ∷ ns) w free = free n (length ns) (onward_walk N n ns n w.0)

module _ (N : Netlist) (rank : Name → ℕ) (rises : (a b : Name) → ReadsNet N a b → rank a < rank b) where
  climbs : (a b : Name) (k : ℕ) → NetWalk N a b k → rank a + k ≤ rank b
  climbs a b zero w = let e : rank a ≡ rank b = ap rank w in omega arith
  climbs a b (suc k) w = omega (arith, climbs a w.0 k w.1, rises w.0 b w.2)

  -- levels show that it is
  pub ranked_loop_free : IsLoopFree N
  ranked_loop_free a k w = absurd (omega (arith, climbs a a (suc k) w))
