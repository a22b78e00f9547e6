-- Sizes of the masters of a library.
use Rattle.std.specs.Prelude.{◌≡◌, true, List}
use Rattle.std.specs.List.{list_all}
use Rattle.eco_common.specs.declared.geometry.Size.{Size}
use Rattle.eco_common.specs.Sizes.{keeps_limit}
use Rattle.eco_lef.specs.declared.master.Master.{Master}

abbrev pub size_of : Master → Size
size_of m = record { width = m.width; height = m.height }

-- no master is wider or higher than 10,000 microns
abbrev pub KeepSizes : List Master → Type 0
KeepSizes masters = list_all (λ m. keeps_limit (size_of m)) masters ≡ true
