use Rattle.std.proofs.Common.{ap, rules}
use Rattle.serde_json.specs.View.{view}
use Rattle.eco_order_file.proofs.Causes.{cause_of}
use Rattle.eco_order_file.proofs.Formed.{answer_form, answer_unbroken, answer_reads, no_text}
use Rattle.eco_order_file.specs.Reading.{said_of}
use Rattle.eco_order_file.proofs.read.read_order.Goals as goal

pub returns-in-Ok : goal.returns-in-Ok
returns-in-Ok c =
    let d = view c.in-Ok.value in
    let r = c.order_of_value.result in
    let reads = answer_reads c.args.text.now d r c.in-Ok.ensures.ok.0 c.in-Ok.ensures.ok.1 c.order_of_value.ensures in
    record {
      reads = reads;
      cause = cause_of c.args.text.now r reads;
      in_form = answer_form d r c.order_of_value.ensures;
      unbroken = answer_unbroken d r c.order_of_value.ensures;
    }

pub returns-else-is_memory-clause-reads : goal.returns-else-is_memory-clause-reads
returns-else-is_memory-clause-reads c = ap said_of (no_text c.args.text.now (search rules))

pub returns-else-is_memory-clause-cause : goal.returns-else-is_memory-clause-cause
returns-else-is_memory-clause-cause c = no_text c.args.text.now (search rules)
