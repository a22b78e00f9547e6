use Rattle.std.proofs.Common.{arith}
use Rattle.eco_def.specs.Reading.{left}
use Rattle.eco_def.proofs.Placing.{earlier}
use Rattle.eco_def.proofs.reader.Reader.section_end.Goals as goal

pub returns-clause-ends : goal.returns-clause-ends
returns-clause-ends c lo hi order =
    let a = c.in_ok-end.ensures.ahead lo hi order in
    (a.0, earlier c.in_ok-end.field-0.end c.in_ok-end.field-0.start hi (left c.word-2.new.self.words) (omega (arith, a.1)) (c.in_ok-word.ensures.reads.order c.in_ok-end.field-0.end hi a.2))
