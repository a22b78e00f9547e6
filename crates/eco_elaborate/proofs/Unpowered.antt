-- Where no macro has supply pins, each joint is of a pin, and no pin stands on two nets.
use Rattle.std.proofs.Common.{◌≡◌, false, sym, subst, ⊎_elim, true≢false}
use Rattle.std.specs.List.{Contains}
use Rattle.eco_def.specs.Named.{NamedJoint, NamedNet, NamedDesign}
use Rattle.eco_issued_laws.specs.Changes.{is_no_component, statements}
use Rattle.eco_net.specs.Netlist.{Name, Netlist}
use Rattle.eco_net.proofs.Basics.{contains_from_has}
use Rattle.eco_elaborate.specs.Netlists.{Kinds, names_pin}
use Rattle.eco_elaborate.specs.Described.{IsOn}
use Rattle.eco_elaborate.specs.Building.{IsPinOf, IsListed}
use Rattle.eco_elaborate.proofs.Members.{any_has}
use Rattle.eco_elaborate.proofs.Statements.{names_parts}
use Rattle.eco_elaborate.proofs.Found.{on_statement}

module _ (kinds : Kinds) (d : NamedDesign) (N : Netlist) (listed : IsListed kinds (λ model pin. false) d N) where
  pub pin_joint : (s : NamedNet) (j : NamedJoint) → Contains (statements d) s → Contains s.joints j → is_no_component j.comp ≡ false → IsPinOf kinds d j.comp j.pin
  pin_joint s j h i e = ⊎_elim (λ p. p) (λ p. absurd (true≢false (sym p.supply))) (listed.joints s j h i e)

  pub one_net_each : (c p n m : Name) → IsOn d c p n → IsOn d c p m → n ≡ m
  one_net_each c p n m a b =
      let s = on_statement d c p n a in
      let j = any_has (names_pin c p) s.0.joints s.3 in
      let named = names_parts c p j.0 j.2 in
      let is : IsPinOf kinds d j.0.comp j.0.pin = pin_joint s.0 j.0 (contains_from_has (statements d) s.0 s.1) (contains_from_has s.0.joints j.0 j.1) named.0 in
      listed.one_net c p n m (subst (λ q. IsPinOf kinds d c q) (sym named.2) (subst (λ q. IsPinOf kinds d q j.0.pin) (sym named.1) is)) a b
