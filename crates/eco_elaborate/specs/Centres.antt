-- Where placed components have their centres (LEF/DEF 5.8 Language Reference, "Macro", "Components", "Units"). Centres are
-- doubled, so that halves of a database unit are whole.
use Rattle.std.specs.Prelude.{◌≡◌, ℕ, ◌*◌, ◌/◌, ℤ, pos, ◌+ℤ◌, ◌*ℤ◌, ◌≤ℤ◌, Bool, true, false, if◌then◌else◌, Some, IfSome}
use Rattle.std.specs.FinMap.{get}
use Rattle.eco_common.specs.declared.geometry.Point.{Point}
use Rattle.eco_common.specs.declared.geometry.Size.{Size}
use Rattle.eco_common.specs.declared.limits.TheConstants.{MIN_CENTRE, MAX_CENTRE}
use Rattle.eco_def.specs.declared.orient.Orient.{Orient}
use Rattle.eco_def.specs.declared.orient.Orient.TheVariants.{N, S, E, W, FN, FS, FE, FW}
use Rattle.eco_def.specs.declared.place.Place.{Place}
use Rattle.eco_net.specs.Netlist.{Name, Component, Netlist}

-- a length in millionths of a micron, in database units
abbrev pub extent : ℕ → ℕ → ℕ
extent units length = (length * units) / 1000000

-- the box lies on its side
abbrev pub is_turned : Orient → Bool
is_turned N = false
is_turned S = false
is_turned E = true
is_turned W = true
is_turned FN = false
is_turned FS = false
is_turned FE = true
is_turned FW = true

-- a macro's size as its component lies: width and height are exchanged for E, W, FE and FW
abbrev pub as_placed : Orient → Size → Size
as_placed orient s = if is_turned orient then record { width = s.height; height = s.width } else s

-- twice the centre of a box, by its lower left corner and its size
abbrev pub twice_centre : ℕ → Point → Size → Point
twice_centre units corner s = record {
  x = (pos 2 *ℤ corner.x) +ℤ pos (extent units s.width);
  y = (pos 2 *ℤ corner.y) +ℤ pos (extent units s.height);
}

-- the doubled centre of a component, by the size of its macro
abbrev pub doubled_centre : ℕ → Size → Place → Point
doubled_centre units s place = twice_centre units place.point (as_placed place.orient s)

-- where a coordinate of a doubled centre lies
abbrev pub IsInRange : ℤ → Type 0
IsInRange z = (MIN_CENTRE ≤ℤ z) × (z ≤ℤ MAX_CENTRE)

abbrev pub IsCentre : Point → Type 0
IsCentre p = IsInRange p.x × IsInRange p.y

-- the places of a netlist are such centres
abbrev pub HasCentres : Netlist → Type 0
HasCentres net = (c : Name) (x : Component) → get net.comps c ≡ Some x → IfSome x.place IsCentre
