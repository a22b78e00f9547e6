-- The cut keys of a listing, by number and by name.
use Rattle.std.specs.Prelude.{◌≡◌, ℕ, List, [], ◌∷◌, ◌⊎◌, length, Bool, Option, Some, None, slice_get}
use Rattle.std.specs.List.{filter_map, range_with_len}
use Rattle.eco_common.specs.declared.geometry.Dir.{Dir}
use Rattle.eco_common.specs.declared.geometry.Dir.TheVariants.{Input, Output, Inout}
use Rattle.eco_net.specs.declared.rows.NetRow.{NetRow}
use Rattle.eco_net.specs.declared.rows.TopRow.{TopRow}
use Rattle.eco_net.specs.declared.ids.CompId.{CompId}
use Rattle.eco_net.specs.declared.ids.TopId.{TopId}
use Rattle.eco_net.specs.declared.ids.PinRef.{PinRef}
use Rattle.eco_net.specs.declared.ids.PinRef.TheVariants.{Top as TopNumber, Pin as PinNumber}
use Rattle.eco_net.specs.declared.cut.CutKey.{CutKey as KeyNumber}
use Rattle.eco_net.specs.declared.cut.CutKey.TheVariants.{Top, Boxed, Net}
use Rattle.eco_net.specs.Netlist.{Name, Netlist, Role, GateInput, GateOutput, BoxedPin}
use Rattle.eco_net.specs.Drivers.{IsFree}
use Rattle.eco_net.specs.CutKeys.{CutKey, PinKey, NetKey, KeyOf}
use Rattle.eco_net.specs.Listing.{Listing, numbered_pin, net_name}
use Rattle.eco_net.specs.ByNumber.{role_at, driver_at}

-- the key of a number
abbrev pub key_named : Listing → KeyNumber → CutKey
key_named L (Top t) = PinKey (numbered_pin L (TopNumber t))
key_named L (Boxed c k) = PinKey (numbered_pin L (PinNumber c k))
key_named L (Net n) = NetKey (net_name L.nets n.0)

-- the keys of the free nets among these, in their order
abbrev pub KeysAlong : Netlist → List Name → List CutKey → Type 0
KeysAlong N [] keys = keys ≡ []
KeysAlong N (n ∷ ns) keys = (IsFree N n × (key : CutKey) × (rest : List CutKey) × (keys ≡ key ∷ rest) × KeyOf N n key × KeysAlong N ns rest) ⊎ ((IsFree N n → ⊥) × KeysAlong N ns keys)

-- ---- by number

abbrev pub own_key : ℕ → Option KeyNumber
own_key n = Some (Net (record { 0 = n }))

abbrev pub key_by_dir : Dir → TopId → ℕ → Option KeyNumber
key_by_dir Input t n = Some (Top t)
key_by_dir Output t n = own_key n
key_by_dir Inout t n = own_key n

abbrev pub key_by_top : Option TopRow → TopId → ℕ → Option KeyNumber
key_by_top None t n = own_key n
key_by_top (Some r) t n = key_by_dir r.dir t n

abbrev pub key_by_role : Option Role → CompId → ℕ → ℕ → Option KeyNumber
key_by_role None c k n = own_key n
key_by_role (Some GateInput) c k n = own_key n
key_by_role (Some (GateOutput t)) c k n = None
key_by_role (Some (BoxedPin Input)) c k n = own_key n
key_by_role (Some (BoxedPin Output)) c k n = Some (Boxed c k)
key_by_role (Some (BoxedPin Inout)) c k n = own_key n

abbrev pub key_by_driver : Listing → ℕ → Option PinRef → Option KeyNumber
key_by_driver L n None = own_key n
key_by_driver L n (Some (TopNumber t)) = key_by_top (slice_get L.tops t.0) t n
key_by_driver L n (Some (PinNumber c k)) = key_by_role (role_at (slice_get L.comps c.0) k) c k n

abbrev pub unless_supply : Option Bool → Option KeyNumber → Option KeyNumber
unless_supply None key = key
unless_supply (Some b) key = None

abbrev pub key_of_row : Option NetRow → Option KeyNumber → Option KeyNumber
key_of_row None key = None
key_of_row (Some r) key = unless_supply r.supply key

-- the key of a free net, and none of another
abbrev pub key_at : Listing → ℕ → Option KeyNumber
key_at L n = key_of_row (slice_get L.nets n) (key_by_driver L n (driver_at L n))

abbrev pub keys_of : Listing → List KeyNumber
keys_of L = filter_map (key_at L) (range_with_len 0 (length L.nets))
