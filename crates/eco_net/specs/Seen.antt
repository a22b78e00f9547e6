-- How the values of pins are seen from outside, by number.
use Rattle.std.specs.Prelude.{ℕ, Bool, true, false, List, ◌++◌, length, Option, Some, None, slice_get}
use Rattle.std.specs.List.{filter}
use Rattle.std.specs.Option.{option_map}
use Rattle.eco_common.specs.declared.geometry.Dir.{Dir}
use Rattle.eco_common.specs.declared.geometry.Dir.TheVariants.{Input, Output, Inout}
use Rattle.eco_net.specs.declared.rows.TopRow.{TopRow}
use Rattle.eco_net.specs.declared.ids.PinRef.{PinRef}
use Rattle.eco_net.specs.declared.ids.PinRef.TheVariants.{Top, Pin}
use Rattle.eco_net.specs.declared.observables.Seen.{Seen}
use Rattle.eco_net.specs.declared.observables.Seen.TheVariants.{AtChip, AtBox, AtGate}
use Rattle.eco_net.specs.Netlist.{Role, GateInput, GateOutput, BoxedPin}
use Rattle.eco_net.specs.Listing.{Listing}
use Rattle.eco_net.specs.ByNumber.{joint_at, role_at, tops_to, comp_pins}
use Rattle.eco_net.specs.KeysOf.{key_at}

abbrev pub seen_top : Option TopRow → Option Seen
seen_top None = None
seen_top (Some r) = seen_dir r.dir
  where
    seen_dir : Dir → Option Seen
    seen_dir Input = None
    seen_dir Output = Some AtChip
    seen_dir Inout = Some AtChip

-- the output of a gate is seen where its net is free
abbrev pub seen_free : Listing → Option ℕ → Option Seen
seen_free L None = None
seen_free L (Some n) = option_map (λ key. AtGate) (key_at L n)

abbrev pub seen_role : Listing → Option Role → Option ℕ → Option Seen
seen_role L None j = None
seen_role L (Some GateInput) j = None
seen_role L (Some (GateOutput t)) j = seen_free L j
seen_role L (Some (BoxedPin Input)) j = Some AtBox
seen_role L (Some (BoxedPin Output)) j = None
seen_role L (Some (BoxedPin Inout)) j = Some AtBox

abbrev pub seen_at : Listing → PinRef → Option Seen
seen_at L (Top t) = seen_top (slice_get L.tops t.0)
seen_at L (Pin c k) = seen_role L (role_at (slice_get L.comps c.0) k) (joint_at (slice_get L.comps c.0) k)

abbrev pub same_seen : Seen → Option Seen → Bool
same_seen s None = false
same_seen AtChip (Some AtChip) = true
same_seen AtChip (Some AtBox) = false
same_seen AtChip (Some AtGate) = false
same_seen AtBox (Some AtChip) = false
same_seen AtBox (Some AtBox) = true
same_seen AtBox (Some AtGate) = false
same_seen AtGate (Some AtChip) = false
same_seen AtGate (Some AtBox) = false
same_seen AtGate (Some AtGate) = true

abbrev pub is_seen : Listing → Seen → PinRef → Bool
is_seen L s p = same_seen s (seen_at L p)

abbrev pub seen_pins : Listing → List PinRef
seen_pins L = filter (is_seen L AtChip) (tops_to (length L.tops)) ++ (filter (is_seen L AtBox) (comp_pins 0 L.comps) ++ filter (is_seen L AtGate) (comp_pins 0 L.comps))
