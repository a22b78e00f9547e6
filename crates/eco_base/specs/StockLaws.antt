-- Laws of tie nets and of stock.
use Rattle.std.specs.Prelude.{◌≡◌, ◌↔◌, Bool, true, List, Some}
use Rattle.std.specs.FinMap.{get}
use Rattle.eco_net.specs.Netlist.{Name, Netlist, Component, IsWellFormed}
use Rattle.eco_net.specs.Bases.{IsConstant, IsSpare, IsWithout}
use Rattle.eco_desk_file.specs.Desk.{Desk}
use Rattle.eco_base.specs.Ties.{IsTieNet}
use Rattle.eco_base.specs.Stock.{is_stock, IsStock}

-- A tie net has its value in the netlist.
abbrev pub TieNetsAreConstant : Type 0
TieNetsAreConstant = (prefixes : List Name) (N : Netlist) (n : Name) (b : Bool) → IsTieNet prefixes N n b → IsConstant N n b

-- A tie net has its value in the netlist without any components that drive nothing.
abbrev pub TieNetsStayConstant : Type 0
TieNetsStayConstant =
    (prefixes : List Name) (M N : Netlist) (n : Name) (b : Bool) → IsWithout M N → IsTieNet prefixes M n b → IsConstant N n b

-- Stock is a gate whose outputs are unconnected.
abbrev pub StockIsSpare : Type 0
StockIsSpare = (desk : Desk) (c : Name) (x : Component) → is_stock desk c x ≡ true → IsSpare x

-- The test for stock passes exactly for what the words say.
abbrev pub StockInWords : Type 0
StockInWords = (desk : Desk) (N : Netlist) → IsWellFormed N → (c : Name) (x : Component) → get N.comps c ≡ Some x → is_stock desk c x ≡ true ↔ IsStock desk c x
