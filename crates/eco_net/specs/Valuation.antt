-- What a netlist computes.
use Rattle.std.specs.Prelude.{◌≡◌, Bool, false, List, map, slice_index_or, Option, Some, None}
use Rattle.std.specs.Option.{unwrap_or}
use Rattle.std.specs.FinMap.{FinMap, get, contains_key}
use Rattle.eco_func.specs.Tables.{row}
use Rattle.eco_net.specs.Netlist.{Name, name_cmp, Netlist}
use Rattle.eco_net.specs.Drivers.{Computed, IsFree}
use Rattle.eco_net.specs.CutKeys.{CutKey, KeyOf, CutBits, IsChoice}

-- what a table, row 0 first, has at the row of these bits
abbrev pub table_value : List Bool → List Bool → Bool
table_value table bits = slice_index_or table (row bits) false

-- a bit for each net
abbrev pub Valuation : Type 0
Valuation = FinMap name_cmp Bool

-- what a pin reads: its net's value, and 0 where it is unconnected
abbrev pub read : Valuation → Option Name → Bool
read v None = false
read v (Some n) = unwrap_or (get v n) false

-- A supply has its value, a free net the bit of its key, a computed net its driver's table at what the driver reads.
pub record IsValuation (N : Netlist) (cut : CutBits) (v : Valuation) : Type 0 where
  pub keys : (n : Name) → contains_key v n ≡ contains_key N.nets n
  pub supplied : (n : Name) (b : Bool) → get N.nets n ≡ Some (Some b) → get v n ≡ Some b
  pub free : (n : Name) (key : CutKey) → IsFree N n → KeyOf N n key → get v n ≡ get cut key
  pub computed : (n : Name) (table : List Bool) (inputs : List (Option Name)) → Computed N n table inputs → get v n ≡ Some (table_value table (map (read v) inputs))

-- exactly one valuation for each choice of cut bits
abbrev pub HasOneValuation : Netlist → Type 0
HasOneValuation N = (cut : CutBits) → IsChoice N cut → (v : Valuation) × IsValuation N cut v × ((w : Valuation) → IsValuation N cut w → w ≡ v)
