-- Outputs of gates without inputs, by number.
use Rattle.std.specs.Prelude.{ℕ, Bool, cond, ◌==◌, length, Option, None, slice_get}
use Rattle.std.specs.Option.{option_map}
use Rattle.eco_func.specs.Tables.{at}
use Rattle.eco_func.specs.Masters.{MasterTables}
use Rattle.eco_net.specs.declared.kind.Kind.{Kind}
use Rattle.eco_net.specs.declared.kind.Kind.TheVariants.{Gate, Boxed}

-- the value of the output at a number, where the master has no inputs
abbrev pub constant_in : MasterTables → ℕ → Option Bool
constant_in m k = cond (length m.inputs == 0) (option_map (λ o. at o.table 0) (slice_get m.outputs k)) None

abbrev pub constant_at : Kind → ℕ → Option Bool
constant_at (Gate m) k = constant_in m k
constant_at (Boxed pins) k = None
