use Rattle.std.proofs.Common.{◌≡◌, ℕ, ◌<◌, map, slice_get, Some}
use Rattle.eco_net.specs.Netlist.{pins_of}
use Rattle.eco_net.specs.Listing.{given_kind}
use Rattle.eco_net.proofs.kind.Kind.find_among.Given as goal

abbrev pub invariant-loop-pin : goal.invariant-loop-pin
invariant-loop-pin l = (k : ℕ) → k < l.pin → slice_get (map (λ p. p.0) (pins_of (given_kind l.self))) k ≡ Some l.name → ⊥
