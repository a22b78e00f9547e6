-- Netlists: nets, components, their pins and top pins, all by name (LEF/DEF 5.8, "Components", "Pins", "Nets").
use Rattle.std.specs.Prelude.{◌≡◌, ℕ, Bool, List, [], map, ◌++◌, Option, Some, length, ◌^◌}
use Rattle.std.specs.List.{Contains, IsDistinct}
use Rattle.std.specs.declared.cmp.Ordering.{Ordering}
use Rattle.std.specs.Ordering.{nat_cmp, eq_by_cmp}
use Rattle.std.specs.Cmp.Lexicographic.{slice_cmp}
use Rattle.std.specs.FinMap.{FinMap, get, find}
use Rattle.std.specs.FinSet.{FinSet}
use Rattle.eco_common.specs.declared.geometry.Dir.{Dir}
use Rattle.eco_common.specs.declared.geometry.Point.{Point}

-- the bytes of a name, in the order of bytes
abbrev pub Name : Type 0
Name = List ℕ

abbrev pub name_cmp : Name → Name → Ordering
name_cmp = slice_cmp nat_cmp

-- A gate's inputs in the order of a row's bits, and its outputs with their tables, row 0 first. Or a box's pins.
pub data Kind : Type 0 where
  Gate : (inputs : List Name) → (outputs : List (Name × List Bool)) → Kind
  Boxed : (pins : List (Name × Dir)) → Kind

-- joined: the net of each pin that is on one
pub record Component : Type 0 where
  pub kind : Kind
  pub place : Option Point
  pub joined : FinMap name_cmp Name

pub record Top : Type 0 where
  pub dir : Dir
  pub net : Name

-- nets: each net, and the value of a supply. ties: the tie nets. reserved: names that stand for components elsewhere
pub record Netlist : Type 0 where
  pub nets : FinMap name_cmp (Option Bool)
  pub comps : FinMap name_cmp Component
  pub tops : FinMap name_cmp Top
  pub ties : FinSet name_cmp
  pub reserved : FinSet name_cmp

pub data Pin : Type 0 where
  TopPin : (name : Name) → Pin
  CompPin : (comp : Name) → (pin : Name) → Pin

-- what a component's pin is for: a gate's input, a gate's output by its table, or a box's pin
pub data Role : Type 0 where
  GateInput : Role
  GateOutput : (table : List Bool) → Role
  BoxedPin : (dir : Dir) → Role

abbrev pub pins_of : Kind → List (Name × Role)
pins_of (Gate inputs outputs) = map (λ p. (p, GateInput)) inputs ++ map (λ o. (o.0, GateOutput o.1)) outputs
pins_of (Boxed pins) = map (λ p. (p.0, BoxedPin p.1)) pins

-- none where the component has no pin of this name
abbrev pub role_of : Component → Name → Option Role
role_of x p = find name_cmp p (pins_of x.kind)

abbrev pub input_names : Kind → List Name
input_names (Gate inputs outputs) = inputs
input_names (Boxed pins) = []

-- the nets of a gate's inputs, in order
abbrev pub input_nets : Component → List (Option Name)
input_nets x = map (get x.joined) (input_names x.kind)

abbrev pub IsNet : Netlist → Name → Type 0
IsNet N n = (s : Option Bool) × (get N.nets n ≡ Some s)

abbrev pub IsPin : Component → Name → Type 0
IsPin x p = (r : Role) × (role_of x p ≡ Some r)

-- a bit for each row of a gate's inputs in each of its tables
abbrev pub HasRows : Kind → Type 0
HasRows (Gate inputs outputs) = (o : Name × List Bool) → Contains outputs o → length o.1 ≡ 2 ^ length inputs
HasRows (Boxed pins) = Unit {0}

-- A component's pins have distinct names, each table has its rows, and each pin that is on a net is a pin of its component
-- and on a net of the netlist.
pub record IsWellFormed (N : Netlist) : Type 0 where
  pub names : (c : Name) (x : Component) → get N.comps c ≡ Some x → IsDistinct (eq_by_cmp name_cmp) (map (λ e. e.0) (pins_of x.kind))
  pub rows : (c : Name) (x : Component) → get N.comps c ≡ Some x → HasRows x.kind
  pub pins : (c : Name) (x : Component) (p n : Name) → get N.comps c ≡ Some x → get x.joined p ≡ Some n → IsPin x p × IsNet N n
  pub tops : (t : Name) (x : Top) → get N.tops t ≡ Some x → IsNet N x.net
