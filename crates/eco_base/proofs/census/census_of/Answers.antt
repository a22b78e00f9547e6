use Rattle.std.proofs.Common.{◌≡◌, ◌+◌, ◌∙◌, not, count_by, length, arith}
use Rattle.eco_base.specs.Census.{is_gate_row}
use Rattle.eco_base.proofs.Counting.{both_counted, joined_few}
use Rattle.eco_base.proofs.census.census_of.Goals as goal

pub overflow_add-result : goal.overflow_add-result
overflow_add-result c =
    let listing = c.counts-counts.ensures.listing in
    omega (arith, c.joined_pins.ensures, joined_few c.args.net.now listing, c.from-5.ensures, c.counts-counts.ensures.tops, listing.few_tops)

pub returns : goal.returns
returns c =
    let L = c.args.net.now in
    let counts = c.counts-counts.ensures in
    let both : count_by is_gate_row L.comps + count_by (λ r. not (is_gate_row r)) L.comps ≡ length L.comps = both_counted is_gate_row L.comps in
    record {
      components = c.from.ensures ∙ counts.comps;
      gates = c.from-2.ensures ∙ c.count_gates-gates.ensures;
      boxes = omega (arith, c.from-3.ensures, counts.comps, c.count_gates-gates.ensures, both);
      nets = c.from-4.ensures ∙ counts.nets;
      pins = omega (arith, c.joined_pins.ensures, c.from-5.ensures, counts.tops);
      stock = omega (arith, c.len.ensures, c.args.stock.now.spares.ok.0);
      skipped = c.from-6.ensures;
    }
