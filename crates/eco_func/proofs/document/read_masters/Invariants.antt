use Rattle.std.proofs.Common.{◌≡◌, true}
use Rattle.std.specs.List.{All}
use Rattle.toml.specs.View.{members_view, table_view}
use Rattle.eco_func.specs.Masters.{is_master}
use Rattle.eco_func.specs.FunctionsFile.{masters_of}
use Rattle.eco_func.proofs.DocumentLemmas.{behind}
use Rattle.eco_func.proofs.document.read_masters.Given as goal

abbrev pub invariant-loop-name : goal.invariant-loop-name
invariant-loop-name l = record {
  said : masters_of (table_view l.document) ≡ behind l.masters.items (masters_of (members_view l.name-iterator));
  make : All (λ m. is_master m.inputs m.outputs ≡ true) l.masters.items;
}
