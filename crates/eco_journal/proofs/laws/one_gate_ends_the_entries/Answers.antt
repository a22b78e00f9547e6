use Rattle.eco_journal.proofs.Unfinished.{ends_at}
use Rattle.eco_journal.proofs.laws.one_gate_ends_the_entries.Goals as goal

pub returns : goal.returns
returns c digest head bytes payloads others gate other rest after is_head are shut is l not_open =
    ends_at digest head payloads gate rest bytes is_head are shut is others other after l not_open
