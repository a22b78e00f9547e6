use Rattle.std.proofs.Common.{arith}
use Rattle.eco_def.proofs.Placing.{placed_wider}
use Rattle.eco_def.proofs.reader.Reader.net_section.Goals as goal

pub returns-clause-lies : goal.returns-clause-lies
returns-clause-lies c lo hi order =
    let k = c.in_ok-count.ensures.ahead lo hi order in
    let placed = c.in_ok-nets.ensures.placed c.in_ok-count.count.end hi k.2 in
    let ends = c.in_ok-end.ensures.ends placed.0 hi placed.2 in (
      c.in_ok-end.end,
      record {
        begins = k.0;
        counts = k.1;
        placed = placed_wider c.in_ok-count.count.end placed.0 c.in_ok-count.count.end c.in_ok-end.end c.in_ok-nets.nets (omega arith) ends.0 placed.1;
        ends = omega arith;
      },
      ends.1,
    )
