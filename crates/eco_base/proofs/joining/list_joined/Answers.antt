use Rattle.std.proofs.Common.{subst}
use Rattle.std.proofs.lemmas.Result.{err_from_is_err_and}
use Rattle.eco_base.specs.Joined.{ListsWhereClean, ListsClean}
use Rattle.eco_base.proofs.Fitting.{patterns_first}
use Rattle.eco_base.proofs.joining.list_joined.Goals as goal

pub of-requires-clause-pins : goal.of-requires-clause-pins
of-requires-clause-pins c = rw c.library.ensures.value c.library.ensures.read.own_names.1

pub of-requires-clause-sizes : goal.of-requires-clause-sizes
of-requires-clause-sizes c = rw c.library.ensures.value c.library.ensures.read.sizes

pub returns-in_err-check_patterns-clause-fault : goal.returns-in_err-check_patterns-clause-fault
returns-in_err-check_patterns-clause-fault c =
    let p = err_from_is_err_and c.from_residual-in_err-check_patterns.result c.from_residual-in_err-check_patterns.ensures.1 in
    let t = c.args.texts.now in
    let listed : ListsClean t c.in-Some.maker = subst (ListsWhereClean t) c.in-Some.is c.in_ok-maker.ensures.lists in
    rw (p.1, p.2) (patterns_first t c.in_ok-check_fit.ensures.fit listed.clean.0 listed.clean.1 c.in_err-check_patterns.field-0.0 c.in_err-check_patterns.ensures.fault)
