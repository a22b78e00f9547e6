use Rattle.eco_journal.proofs.Meaning.{follows_layout}
use Rattle.eco_journal.proofs.laws.bytes_follow_the_layout.Goals as goal

pub returns : goal.returns
returns c = follows_layout
