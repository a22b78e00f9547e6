use Rattle.eco_bench.proofs.Apart.{within-of}
use Rattle.eco_bench.proofs.Writing.{written-words}
use Rattle.eco_bench.proofs.writing_changes_one_span.Goals as goal

pub returns : goal.returns
returns c = λ old span part carved stands size. written-words old span part (within-of old span carved stands) carved.fits size
