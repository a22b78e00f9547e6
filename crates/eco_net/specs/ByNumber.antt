-- What a listing says of its pins and nets by their numbers.
use Rattle.std.specs.Prelude.{ℕ, ◌+◌, Bool, false, ◌==◌, List, [], ◌∷◌, ◌++◌, map, length, Option, Some, None, slice_get}
use Rattle.std.specs.List.{filter, range_with_len}
use Rattle.std.specs.Option.{option_map, option_and_then}
use Rattle.eco_net.specs.declared.rows.CompRow.{CompRow}
use Rattle.eco_net.specs.declared.rows.TopRow.{TopRow}
use Rattle.eco_net.specs.declared.ids.FoundComp.{FoundComp}
use Rattle.eco_net.specs.declared.ids.PinRef.{PinRef}
use Rattle.eco_net.specs.declared.ids.PinRef.TheVariants.{Top, Pin}
use Rattle.eco_net.specs.Netlist.{Role}
use Rattle.eco_net.specs.Drivers.{is_driving, drives_inward}
use Rattle.eco_net.specs.Listing.{Listing, pins, comp_of}

abbrev pub joint_at : Option CompRow → ℕ → Option ℕ
joint_at None k = None
joint_at (Some r) k = option_and_then (λ j. j) (slice_get r.joined k)

abbrev pub role_at : Option CompRow → ℕ → Option Role
role_at None k = None
role_at (Some r) k = option_map (λ p. p.1) (slice_get (pins r) k)

abbrev pub end_of : Option TopRow → Option ℕ
end_of None = None
end_of (Some r) = Some r.net

abbrev pub drives_end : Option TopRow → Bool
drives_end None = false
drives_end (Some r) = drives_inward r.dir

-- the net of a pin
abbrev pub net_at : Listing → PinRef → Option ℕ
net_at L (Top t) = end_of (slice_get L.tops t.0)
net_at L (Pin c k) = joint_at (slice_get L.comps c.0) k

-- whether it is a driving pin
abbrev pub drives : Listing → PinRef → Bool
drives L (Top t) = drives_end (slice_get L.tops t.0)
drives L (Pin c k) = is_driving (role_at (slice_get L.comps c.0) k)

abbrev pub is_net : Option ℕ → ℕ → Bool
is_net None n = false
is_net (Some m) n = m == n

abbrev pub is_on : Listing → ℕ → PinRef → Bool
is_on L n p = is_net (net_at L p) n

-- ---- all pins, the chip's first

abbrev pub tops_to : ℕ → List PinRef
tops_to n = map (λ t. Top (record { 0 = t })) (range_with_len 0 n)

abbrev pub pins_to : ℕ → ℕ → List PinRef
pins_to c n = map (λ k. Pin (record { 0 = c }) k) (range_with_len 0 n)

abbrev pub comp_pins : ℕ → List CompRow → List PinRef
comp_pins c [] = []
comp_pins c (r ∷ rows) = pins_to c (length (pins r)) ++ comp_pins (c + 1) rows

abbrev pub pins_at : Option CompRow → ℕ
pins_at None = 0
pins_at (Some r) = length (pins r)

-- how many pins a component has
abbrev pub pin_count : Listing → ℕ → ℕ
pin_count L c = pins_at (slice_get L.comps c)

-- a component of a number, with how many pins it has
abbrev pub found_of : Listing → ℕ → FoundComp
found_of L c = record { id = comp_of c; pins = pin_count L c }

abbrev pub all_pins : Listing → List PinRef
all_pins L = tops_to (length L.tops) ++ comp_pins 0 L.comps

-- ---- the pins of each net

abbrev pub by_net : Listing → List PinRef → List (List PinRef)
by_net L ps = map (λ n. filter (is_on L n) ps) (range_with_len 0 (length L.nets))

abbrev pub pins_on : Listing → ℕ → List PinRef
pins_on L n = filter (is_on L n) (all_pins L)

-- the one item of a list
abbrev pub sole : {A : Type 0} → List A → Option A
sole [] = None
sole (x ∷ []) = Some x
sole (x ∷ y ∷ xs) = None

abbrev pub driver_at : Listing → ℕ → Option PinRef
driver_at L n = sole (filter (drives L) (pins_on L n))
