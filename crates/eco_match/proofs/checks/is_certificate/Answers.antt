use Rattle.eco_match.proofs.Certify.{certifies-from, keep-from}
use Rattle.eco_match.proofs.checks.is_certificate.Goals as goal

pub returns : goal.returns
returns c = (
  λ yes. certifies-from c.args.rows.now.gates c.args.table.now c.args.out.now (c.all_chosen.ensures.0 c.if-not-all_chosen.false) (c.all_differ.ensures.0 c.if-not-all_differ.false) (c.all_keep.ensures.0 yes),
  λ cert. c.all_keep.ensures.1 (keep-from c.args.rows.now.gates c.args.table.now c.args.out.now c.requires.table.rising cert),
)
