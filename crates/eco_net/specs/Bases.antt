-- What is frozen: the base with its stock of spares and its two tie nets.
use Rattle.std.specs.Prelude.{◌≡◌, Bool, true, false, not, List, [], ◌∷◌, ◌⊎◌, Some, None}
use Rattle.std.specs.List.{Contains, list_any}
use Rattle.std.specs.Ordering.{eq_by_cmp}
use Rattle.std.specs.FinMap.{get, retain_keys}
use Rattle.std.specs.FinSet.{contains, from_list}
use Rattle.eco_net.specs.Netlist.{Name, name_cmp, Netlist, Component, Gate, GateOutput, role_of, IsNet, IsWellFormed}
use Rattle.eco_net.specs.Drivers.{driven_at, Computed}
use Rattle.eco_net.specs.Walks.{IsLoopFree}

-- full: every component, stock too. low, high: the tie nets
pub record Base : Type 0 where
  pub full : Netlist
  pub stock : List Name
  pub low : Name
  pub high : Name

abbrev pub is_stock : Base → Name → Bool
is_stock base c = list_any (eq_by_cmp name_cmp c) base.stock

-- the base without its stock, whose names stay reserved
abbrev pub bare : Base → Netlist
bare base = record base.full { comps = retain_keys base.full.comps (λ c. not (is_stock base c)); reserved = from_list base.stock }

abbrev pub IsTie : Netlist → Name → Type 0
IsTie N n = contains N.ties n ≡ true

-- a supply of this value, or a net that is driven by a gate without inputs whose table is this value
abbrev pub IsConstant : Netlist → Name → Bool → Type 0
IsConstant N n b = (get N.nets n ≡ Some (Some b)) ⊎ Computed N n (b ∷ []) []

-- a gate whose outputs are unconnected
pub record IsSpare (x : Component) : Type 0 where
  pub inputs : List Name
  pub outputs : List (Name × List Bool)
  pub gate : x.kind ≡ Gate inputs outputs
  pub off : (p : Name) (t : List Bool) → role_of x p ≡ Some (GateOutput t) → get x.joined p ≡ None

-- N is M without some components, each of which drives nothing
pub record IsWithout (M N : Netlist) : Type 0 where
  pub nets : N.nets ≡ M.nets
  pub tops : N.tops ≡ M.tops
  pub kept : (c : Name) (x : Component) → get N.comps c ≡ Some x → get M.comps c ≡ Some x
  pub others : (c : Name) (x : Component) → get M.comps c ≡ Some x → (get N.comps c ≡ Some x) ⊎ ((p n : Name) → driven_at (Some x) p ≡ Some n → ⊥)

-- byte 32, which no name in a DEF text has (LEF/DEF 5.8, "Typographic and syntax conventions")
abbrev pub HasBlank : Name → Type 0
HasBlank n = Contains n 32

-- Each joint is one of a known pin and a known net, no signal runs in a circle through gates other than spares, the tie nets
-- are nets and have their values by what is no spare, the stock are gates that drive nothing, and no component's name has a
-- blank.
pub record IsBase (base : Base) : Type 0 where
  pub whole : IsWellFormed base.full
  pub loop_free : IsLoopFree (bare base)
  pub low_is : IsConstant (bare base) base.low false
  pub high_is : IsConstant (bare base) base.high true
  pub low_tie : IsTie base.full base.low
  pub high_tie : IsTie base.full base.high
  pub ties : (n : Name) → IsTie base.full n → IsNet base.full n
  pub stock : (s : Name) → Contains base.stock s → (x : Component) × (get base.full.comps s ≡ Some x) × IsSpare x
  pub no_blank : (c : Name) (x : Component) → get base.full.comps c ≡ Some x → HasBlank c → ⊥
