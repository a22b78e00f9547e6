-- The faults of a reading.
use Rattle.std.specs.Prelude.{ℕ}
use Rattle.eco_def.specs.declared.fault.DefFault.{DefFault}
use Rattle.eco_def.specs.declared.fault.DefFault.TheVariants.{BadStatement, TwiceNamed, MustJoin, UnknownHeading}

abbrev pub Fault : Type 0
Fault = DefFault

abbrev pub bad_statement : ℕ → Fault
bad_statement = BadStatement

abbrev pub twice_named : ℕ → Fault
twice_named = TwiceNamed

abbrev pub must_join : ℕ → Fault
must_join = MustJoin

abbrev pub unknown_heading : ℕ → Fault
unknown_heading = UnknownHeading
