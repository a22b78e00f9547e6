use Rattle.eco_journal.proofs.Soundness.{sound_whole}
use Rattle.eco_journal.proofs.journal.Journal.end.Goals as goal

pub returns-clause-whole : goal.returns-clause-whole
returns-clause-whole g c digest payloads last sound = sound_whole c.args.self.standing sound.is
