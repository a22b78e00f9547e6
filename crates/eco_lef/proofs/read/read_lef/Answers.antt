use Rattle.std.proofs.Common.{ℕ, List, Result, Ok, Err, IfOk}
use Rattle.eco_common.specs.declared.limits.TheConstants.{MAX_MASTERS}
use Rattle.eco_lef.specs.declared.fault.LefFault.{LefFault}
use Rattle.eco_lef.specs.declared.master.Master.{Master}
use Rattle.eco_lef.specs.Limits.{IsLibraryOf}
use Rattle.eco_lef.specs.Names.{HaveOwnNames}
use Rattle.eco_lef.proofs.Distinct.{names_differ}
use Rattle.eco_lef.specs.Sizes.{KeepSizes}
use Rattle.eco_lef.proofs.Limits.{library_is}
use Rattle.eco_lef.proofs.WordNames.{read_sizes}
use Rattle.eco_lef.proofs.read.read_lef.Goals as goal

own_names : (text : List ℕ) (r : Result (List Master) LefFault) → IfOk r (IsLibraryOf MAX_MASTERS text) → IfOk r HaveOwnNames
own_names text (Ok masters) is = names_differ text masters is.0
own_names text (Err e) is = tt

sizes_keep : (text : List ℕ) (r : Result (List Master) LefFault) → IfOk r (IsLibraryOf MAX_MASTERS text) → IfOk r KeepSizes
sizes_keep text (Ok masters) is = read_sizes text masters is.0
sizes_keep text (Err e) is = tt

pub returns-clause-library : goal.returns-clause-library
returns-clause-library c = library_is c.args.text.now c.new-reader.result.words c.library.new.self.words c.library.result c.new-reader.ensures.left c.library.ensures.value

pub returns-clause-names : goal.returns-clause-names
returns-clause-names c =
    own_names c.args.text.now c.library.result
    (library_is c.args.text.now c.new-reader.result.words c.library.new.self.words c.library.result c.new-reader.ensures.left c.library.ensures.value)

pub returns-clause-sizes : goal.returns-clause-sizes
returns-clause-sizes c =
    sizes_keep c.args.text.now c.library.result
    (library_is c.args.text.now c.new-reader.result.words c.library.new.self.words c.library.result c.new-reader.ensures.left c.library.ensures.value)
