-- The names in a library are words.
use Rattle.std.proofs.Common.{◌≡◌, ℕ, true, List}
use Rattle.std.specs.List.{list_all}
use Rattle.eco_common.specs.declared.limits.TheConstants.{MAX_MASTERS}
use Rattle.eco_lef.specs.declared.master.Master.{Master}
use Rattle.eco_lef.specs.Names.{are_words}
use Rattle.eco_lef.proofs.Limits.{limits_keep}
use Rattle.eco_lef.proofs.WordNames.{read_names}
use Rattle.eco_base.specs.Texts.{IsLibrary}

-- the names of a library's masters and of their pins are words
pub library_words : (lef : List ℕ) (masters : List Master) → IsLibrary lef masters → list_all are_words masters ≡ true
library_words lef masters is = read_names lef masters (limits_keep.few MAX_MASTERS lef masters is).0
