use Rattle.std.proofs.Common.{◌≡◌, ◌∙◌, sym, ap, subst, length, arith, true≢false}
use Rattle.eco_func.specs.Masters.{MasterTables}
use Rattle.eco_net.specs.Walks.{IsLoopFree}
use Rattle.eco_net.specs.Listing.{Listing, netlist}
use Rattle.eco_net.specs.Bases.{bare}
use Rattle.eco_base.specs.Bases.{BaseParts, IsOpen, frozen}
use Rattle.eco_base.specs.Limits.{KeepsLimits}
use Rattle.eco_one_gate.specs.declared.one_gate.OneGate.{OneGate}
use Rattle.eco_one_gate.specs.OneGates.{IsGoodOrder, IsEmbedded}
use Rattle.eco_one_gate.specs.OneSteps.{IsSpareGate, IsKnownOrder, patched_on}
use Rattle.eco_one_gate.proofs.ReadyGates.{its_output, no_patch, known_of_good, good_of_known}
use Rattle.eco_one_gate.proofs.apply_gate.ready_master.Goals as goal

pub is_loop_free-requires-clause-few_nets : goal.is_loop_free-requires-clause-few_nets
is_loop_free-requires-clause-few_nets c = omega (arith, c.netlist-netlist.ensures.limits.nets, ap (λ (L : Listing). length L.nets) c.netlist-netlist.ensures.value)

pub is_loop_free-requires-clause-few_comps : goal.is_loop_free-requires-clause-few_comps
is_loop_free-requires-clause-few_comps c = omega (arith, c.netlist-netlist.ensures.limits.comps, ap (λ (L : Listing). length L.comps) c.netlist-netlist.ensures.value)

pub is_loop_free-requires-clause-new_name : goal.is_loop_free-requires-clause-new_name
is_loop_free-requires-clause-new_name c = no_patch c.netlist-netlist.result.now (subst KeepsLimits (sym c.netlist-netlist.ensures.value) c.netlist-netlist.ensures.limits)

pub returns-in_default-known_order : goal.returns-in_default-known_order
returns-in_default-known_order c =
    let b : BaseParts = c.args.base.now in
    let one : OneGate = c.args.one.now in
    let open' : IsOpen b = c.netlist-netlist.ensures.open in
    let e : netlist c.netlist-netlist.result.now ≡ bare (frozen b.texts) = ap netlist c.netlist-netlist.ensures.value ∙ open'.same in
    let g : IsSpareGate (frozen b.texts) one.spare c.in-Some.master.now = subst (λ n. IsSpareGate (frozen b.texts) n c.in-Some.master.now) c.bytes.ensures c.in-Some.ensures in
    (g.spare, λ good. c.in_default-known_order.ensures (subst (λ N. IsKnownOrder N one) (sym e) (known_of_good (frozen b.texts) one good)))

pub returns-then-not-branch : goal.returns-then-not-branch
returns-then-not-branch c =
    let b : BaseParts = c.args.base.now in
    let one : OneGate = c.args.one.now in
    let open' : IsOpen b = c.netlist-netlist.ensures.open in
    let e : netlist c.netlist-netlist.result.now ≡ bare (frozen b.texts) = ap netlist c.netlist-netlist.ensures.value ∙ open'.same in
    let g : IsSpareGate (frozen b.texts) one.spare c.in-Some.master.now = subst (λ n. IsSpareGate (frozen b.texts) n c.in-Some.master.now) c.bytes.ensures c.in-Some.ensures in
    (g.spare, λ good. true≢false (sym (c.in_ok-is_loop_free.ensures.1 (subst (λ N. IsLoopFree (patched_on N one)) (sym e) good.loop_free)) ∙ c.if-not-branch.true))

pub returns-then-is_embedded : goal.returns-then-is_embedded
returns-then-is_embedded c =
    let b : BaseParts = c.args.base.now in
    let one : OneGate = c.args.one.now in
    let m : MasterTables = c.in-Some.master.now in
    let open' : IsOpen b = c.netlist-netlist.ensures.open in
    let e : netlist c.netlist-netlist.result.now ≡ bare (frozen b.texts) = ap netlist c.netlist-netlist.ensures.value ∙ open'.same in
    let g : IsSpareGate (frozen b.texts) one.spare m = subst (λ n. IsSpareGate (frozen b.texts) n m) c.bytes.ensures c.in-Some.ensures in
    record {
      gate = g;
      good = good_of_known (frozen b.texts) one (subst (λ N. IsKnownOrder N one) e c.in-Some-known_order.ensures.0) (subst (λ N. IsLoopFree (patched_on N one)) e (c.in_ok-is_loop_free.ensures.0 c.if-not-branch.false));
      embedded = subst (IsEmbedded one g.spare.comp) (its_output (frozen b.texts) one.spare m g) ((c.is_embedded.ensures g.spare.comp g.output g.kind g.one).0 c.if-is_embedded.true);
    }

pub returns-else-is_embedded : goal.returns-else-is_embedded
returns-else-is_embedded c =
    let b : BaseParts = c.args.base.now in
    let one : OneGate = c.args.one.now in
    let m : MasterTables = c.in-Some.master.now in
    let open' : IsOpen b = c.netlist-netlist.ensures.open in
    let e : netlist c.netlist-netlist.result.now ≡ bare (frozen b.texts) = ap netlist c.netlist-netlist.ensures.value ∙ open'.same in
    let g : IsSpareGate (frozen b.texts) one.spare m = subst (λ n. IsSpareGate (frozen b.texts) n m) c.bytes.ensures c.in-Some.ensures in
    let good : IsGoodOrder (frozen b.texts) one = good_of_known (frozen b.texts) one (subst (λ N. IsKnownOrder N one) e c.in-Some-known_order.ensures.0) (subst (λ N. IsLoopFree (patched_on N one)) e (c.in_ok-is_loop_free.ensures.0 c.if-not-branch.false)) in
    (g.spare, good, λ h. true≢false (sym ((c.is_embedded.ensures g.spare.comp g.output g.kind g.one).1 (subst (IsEmbedded one g.spare.comp) (sym (its_output (frozen b.texts) one.spare m g)) h)) ∙ c.if-is_embedded.false))
