-- Change orders, as an engineer writes them.
use Rattle.std.specs.Prelude.{◌≡◌, ◌^◌, ℤ, pos, negsuc, Bool, true, nat_lt, List, All, length, Option, Some}
use Rattle.eco_common.specs.declared.geometry.Point.{Point}
use Rattle.eco_common.specs.NameBytes.{is_name}
use Rattle.eco_func.specs.Tables.{TruthTable, IsTable}
use Rattle.eco_order_file.specs.Names.{Name}

-- A gate that a spare is to serve as: its table, the net at each of the table's inputs and the net at its output, and a point
-- that it should be near.
pub record Gate : Type 0 where
  pub name : Name
  pub table : TruthTable
  pub inputs : List Name
  pub output : Name
  pub near : Option Point

-- a pin that goes from the net that it is on, if it is on one, to another
pub record Move : Type 0 where
  pub comp : Name
  pub pin : Name
  pub from : Option Name
  pub to : Name

-- by: who orders it. nets: the new ones
pub record Order : Type 0 where
  pub name : Name
  pub by : Name
  pub nets : List Name
  pub gates : List Gate
  pub moves : List Move

-- ---- form: what every order that is read keeps

-- from -2^31 to 2^31 - 1
abbrev pub is_coordinate : ℤ → Bool
is_coordinate (pos n) = nat_lt n (2 ^ 31)
is_coordinate (negsuc n) = nat_lt n (2 ^ 31)

-- no point, or one of 32 bits
abbrev pub IsNear : Option Point → Type 0
IsNear o = (p : Point) → o ≡ Some p → (is_coordinate p.x ≡ true) × (is_coordinate p.y ≡ true)

-- By its type a gate has a table of at most six inputs, a net for each of them, and a point of 32 bits, if it has one.
pub record IsWhole (g : Gate) : Type 0 where
  pub table : IsTable g.table.inputs g.table.bits
  pub rows : length g.inputs ≡ g.table.inputs
  pub near : (p : Point) → g.near ≡ Some p → (is_coordinate p.x ≡ true) × (is_coordinate p.y ≡ true)

-- its nets have names of LEF and DEF
pub record HasNetNames (g : Gate) : Type 0 where
  pub inputs : All (λ n. is_name n ≡ true) g.inputs
  pub output : is_name g.output ≡ true

-- a move has names of LEF and DEF
pub record HasNames (m : Move) : Type 0 where
  pub comp : is_name m.comp ≡ true
  pub pin : is_name m.pin ≡ true
  pub from : (n : Name) → m.from ≡ Some n → is_name n ≡ true
  pub to : is_name m.to ≡ true

-- what stands for a name of LEF and DEF is one
pub record HasBaseNames (o : Order) : Type 0 where
  pub gates : All HasNetNames o.gates
  pub moves : All HasNames o.moves

pub record IsInForm (o : Order) : Type 0 where
  pub whole : All IsWhole o.gates
  pub names : HasBaseNames o
