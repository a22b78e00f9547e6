-- The parts of an opened base, by what its code keeps.
use Rattle.std.specs.Prelude.{◌++◌}
use Rattle.eco_base.specs.declared.stocked.Stocked.{Stocked}
use Rattle.eco_base.specs.declared.sources.Sources.{Sources}
use Rattle.eco_base.specs.Digests.{framed, digest_after}
use Rattle.eco_base.specs.Texts.{TextParts}
use Rattle.eco_base.specs.Bases.{BaseParts}

abbrev pub parts_of : TextParts → Stocked → Sources → BaseParts
parts_of t s from = record {
  texts = t;
  listing = s.netlist;
  stock = s.spares.items;
  functions = s.functions.items;
  skipped = s.skipped;
  census = s.census;
  depth = s.depth;
  digest = digest_after from.lef (framed t.text ++ framed from.functions.items ++ framed from.desk.items);
}
