use Rattle.eco_journal.proofs.Unfinished.{whole_base}
use Rattle.eco_journal.proofs.laws.whole_bytes_have_their_base.Goals as goal

pub returns : goal.returns
returns c digest bytes whole = whole_base digest bytes whole
