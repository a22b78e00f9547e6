use Rattle.eco_net.specs.Listing.{netlist}
use Rattle.std.proofs.Common.{true≢false, sym, ◌∙◌}
use Rattle.eco_base.proofs.StockFaults.{high_blamed, low_blamed}
use Rattle.eco_base.proofs.stocking.check_ties.Goals as goal

pub returns-then-not-high-clause-fault : goal.returns-then-not-high-clause-fault
returns-then-not-high-clause-fault c =
    high_blamed c.args.desk.now (netlist c.args.net.now) c.high.result.now c.tie_fault.result c.high.ensures.value
    (λ tied. true≢false (sym (c.in_ok-high.ensures.1 tied) ∙ c.if-not-high.true)) c.tie_fault.ensures

pub returns-then-not-low-clause-fault : goal.returns-then-not-low-clause-fault
returns-then-not-low-clause-fault c =
    low_blamed c.args.desk.now (netlist c.args.net.now) c.low.result.now c.tie_fault-then-not-low.result c.low.ensures.value (c.in_ok-high.ensures.0 c.if-not-high.false)
    (λ tied. true≢false (sym (c.in_ok-low.ensures.1 tied) ∙ c.if-not-low.true)) c.tie_fault-then-not-low.ensures
