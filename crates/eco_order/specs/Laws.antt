-- What holds of orders that break no rule.
use Rattle.std.specs.Prelude.{◌≡◌, None, Some}
use Rattle.std.specs.FinMap.{get}
use Rattle.eco_net.specs.Bases.{HasBlank}
use Rattle.eco_net.specs.Netlist.{Name, Netlist, Component}
use Rattle.eco_order_file.specs.Orders.{Order, IsInForm}
use Rattle.eco_order.specs.Broken.{FirstBroken}
use Rattle.eco_order.specs.Insert.{patch, patched}
use Rattle.eco_patch_laws.specs.Rules.{KeepsRules}

-- The netlist is the base without its stock, bare, with orders inserted: the names of the stock stay reserved, and each
-- component whose name has no blank is one of the base, with its pins.
pub record IsOver (bare N : Netlist) : Type 0 where
  pub reserved : N.reserved ≡ bare.reserved
  pub comps : (c : Name) (x : Component) → get N.comps c ≡ Some x → (HasBlank c → ⊥) → (y : Component) × (get bare.comps c ≡ Some y) × (y.kind ≡ x.kind)

-- An order that breaks no rule keeps the rules that the laws of patches ask for.
abbrev pub UnbrokenKeepsRules : Type 0
UnbrokenKeepsRules = (bare N : Netlist) (o : Order) → IsOver bare N → IsInForm o → FirstBroken N o None → KeepsRules bare N (patched N o) (patch o)
