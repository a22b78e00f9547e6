-- What a master computes.
use Rattle.std.specs.Prelude.{ℕ, Bool, true, not, ◌&&◌, ◌==◌, nat_le, List, [], ◌∷◌, ◌++◌, map, length, if◌then◌else◌, Option, Some, None}
use Rattle.std.specs.List.{list_all, list_any}
use Rattle.std.specs.Str.{bytes_eq}
use Rattle.eco_common.specs.declared.limits.TheConstants.{MAX_INPUTS, MAX_OUTPUTS}
use Rattle.eco_func.specs.declared.output.OutputFn.{OutputFn}

-- A master's name, its input pins in order, and its outputs in order of their pins' bytes.
pub record MasterTables : Type 0 where
  pub name : List ℕ
  pub inputs : List (List ℕ)
  pub outputs : List OutputFn

-- Whether no name stands twice.
abbrev pub all_differ : List (List ℕ) → Bool
all_differ [] = true
all_differ (n ∷ ns) = not (list_any (bytes_eq n) ns) && all_differ ns

-- All pins, inputs first.
abbrev pub pins : List (List ℕ) → List OutputFn → List (List ℕ)
pins inputs outputs = inputs ++ map (λ o. o.pin) outputs

-- Whether these make a master: at most six inputs, one to eight outputs, all pins of distinct names, and each
-- output's table over all the inputs.
abbrev pub is_master : List (List ℕ) → List OutputFn → Bool
is_master inputs outputs =
    nat_le (length inputs) MAX_INPUTS && nat_le 1 (length outputs) && nat_le (length outputs) MAX_OUTPUTS
    && list_all (λ o. o.table.inputs == length inputs) outputs
    && all_differ (pins inputs outputs)

-- The master with these pins, if they make one.
abbrev pub master : List ℕ → List (List ℕ) → List OutputFn → Option MasterTables
master name inputs outputs =
    if is_master inputs outputs then Some (record { name = name; inputs = inputs; outputs = outputs }) else None
