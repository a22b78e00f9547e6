use Rattle.eco_journal.proofs.Unfinished.{not_bad}
use Rattle.eco_journal.proofs.laws.entries_have_no_bad_record.Goals as goal

pub returns : goal.returns
returns c bytes payloads place read is = not_bad bytes payloads place read is
