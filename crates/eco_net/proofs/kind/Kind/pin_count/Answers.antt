use Rattle.std.proofs.Common.{subst, sym}
use Rattle.eco_net.specs.Listing.{given_kind, HasOwnPins}
use Rattle.eco_net.specs.Kept.{IsKind}
use Rattle.eco_net.proofs.MasterPins.{gate_is_kind, box_is_kind}
use Rattle.eco_net.proofs.kind.Kind.pin_count.Goals as goal

pub returns-in-Gate-clause-is_kind : goal.returns-in-Gate-clause-is_kind
returns-in-Gate-clause-is_kind c = λ h. subst (λ k. IsKind (given_kind k)) (sym c.in-Gate.is) (gate_is_kind c.in-Gate.master c.inputs.ensures.is_master)

pub returns-in-Boxed-clause-is_kind : goal.returns-in-Boxed-clause-is_kind
returns-in-Boxed-clause-is_kind c = λ h.
    let own = subst HasOwnPins c.in-Boxed.is h in
    subst (λ k. IsKind (given_kind k)) (sym c.in-Boxed.is) (box_is_kind c.in-Boxed.pins own.0 own.1)
