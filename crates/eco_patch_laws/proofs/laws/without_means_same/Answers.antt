use Rattle.eco_patch_laws.proofs.Beside.{stock_beside}
use Rattle.eco_patch_laws.proofs.Lighter.{loop_free_without, loop_free_with, same_without}
use Rattle.eco_patch_laws.proofs.laws.without_means_same.Goals as goal

pub returns-clause-loops : goal.returns-clause-loops
returns-clause-loops c = loop_free_without

pub returns-clause-valuations : goal.returns-clause-valuations
returns-clause-valuations c = same_without

pub returns-clause-stock : goal.returns-clause-stock
returns-clause-stock c base label place order is once pins = stock_beside base label place order is once pins

pub returns-clause-loops_with : goal.returns-clause-loops_with
returns-clause-loops_with c = loop_free_with
