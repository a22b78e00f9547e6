use Rattle.eco_match.proofs.Kept.{rows-hold, costs-hold}
use Rattle.eco_match.proofs.rows_stand_with_their_words.Goals as goal

pub returns-clause-stand : goal.returns-clause-stand
returns-clause-stand c = λ old new rows. rows-hold old new rows

pub returns-clause-costs : goal.returns-clause-costs
returns-clause-costs c = λ old new rows. costs-hold old new rows
