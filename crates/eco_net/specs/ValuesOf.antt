-- The values of a listing's nets, by number and by name.
use Rattle.std.specs.Prelude.{◌≡◌, ℕ, Bool, false, List, map, length, Option, Some, None, slice_get, slice_index_or}
use Rattle.std.specs.List.{filter_map, range_with_len, zip}
use Rattle.std.specs.FinMap.{from_entries}
use Rattle.eco_net.specs.declared.rows.NetRow.{NetRow}
use Rattle.eco_net.specs.declared.cut.CutKey.{CutKey as KeyNumber}
use Rattle.eco_net.specs.Netlist.{Role, GateInput as Read, GateOutput, BoxedPin}
use Rattle.eco_net.specs.CutKeys.{CutBits}
use Rattle.eco_net.specs.Valuation.{Valuation, table_value}
use Rattle.eco_net.specs.Listing.{Listing, net_names}
use Rattle.eco_net.specs.ByNumber.{role_at}
use Rattle.eco_net.specs.Gates.{GatePin, computed_by, inputs_at}
use Rattle.eco_net.specs.KeysOf.{key_at, keys_of, key_named}

-- the valuation that bits by number write
abbrev pub valuation : Listing → List Bool → Valuation
valuation L vs = from_entries (zip (net_names L) vs)

-- the bit of each cut key, in the order of the keys
abbrev pub cut_bits : Listing → List Bool → CutBits
cut_bits L bits = from_entries (zip (map (key_named L) (keys_of L)) bits)

-- ---- by number

abbrev pub keys_before : Listing → ℕ → ℕ
keys_before L n = length (filter_map (key_at L) (range_with_len 0 n))

abbrev pub start_free : Option KeyNumber → Bool → Bool
start_free None bit = false
start_free (Some key) bit = bit

abbrev pub start_by : Option Bool → Option KeyNumber → Bool → Bool
start_by (Some b) key bit = b
start_by None key bit = start_free key bit

abbrev pub start_row : Option NetRow → Option KeyNumber → Bool → Bool
start_row None key bit = false
start_row (Some r) key bit = start_by r.supply key bit

-- the value of a net that isn't computed
abbrev pub start : Listing → List Bool → ℕ → Bool
start L bits n = start_row (slice_get L.nets n) (key_at L n) (slice_index_or bits (keys_before L n) false)

abbrev pub bit_of : List Bool → Option ℕ → Bool
bit_of vs None = false
bit_of vs (Some n) = slice_index_or vs n false

abbrev pub by_role : Option Role → List Bool → Bool
by_role None bits = false
by_role (Some Read) bits = false
by_role (Some (GateOutput t)) bits = table_value t bits
by_role (Some (BoxedPin d)) bits = false

-- what a gate's output computes from these values
abbrev pub computes : Listing → List Bool → GatePin → Bool
computes L vs g = by_role (role_at (slice_get L.comps g.0.0) g.1) (map (bit_of vs) (inputs_at L g.0.0))

-- values that meet the equations of each net
pub record IsValued (L : Listing) (bits vs : List Bool) : Type 0 where
  pub sized : length vs ≡ length L.nets
  pub starts : (n : ℕ) (r : NetRow) → slice_get L.nets n ≡ Some r → computed_by L n ≡ None → slice_get vs n ≡ Some (start L bits n)
  pub computed : (n : ℕ) (g : GatePin) → computed_by L n ≡ Some g → slice_get vs n ≡ Some (computes L vs g)
