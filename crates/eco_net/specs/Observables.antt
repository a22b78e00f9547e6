-- Where values are seen from outside: the chip's outputs, what boxes (registers among them) read, and gate outputs on
-- free nets.
use Rattle.std.specs.Prelude.{◌≢◌, Bool, false, List, map, Option, Some, None}
use Rattle.std.specs.FinMap.{get}
use Rattle.eco_common.specs.declared.geometry.Dir.TheVariants.{Input, Output, Inout}
use Rattle.eco_net.specs.Netlist.{Name, Netlist, Component, Top, Pin, TopPin, CompPin, Role, GateInput, GateOutput, BoxedPin, role_of, input_nets}
use Rattle.eco_net.specs.Drivers.{IsFree}
use Rattle.eco_net.specs.Valuation.{Valuation, table_value, read}

-- a component's pin by its role and its net
abbrev pub ObservedRole : Netlist → Option Role → Option Name → Type 0
ObservedRole N None n = ⊥
ObservedRole N (Some GateInput) n = ⊥
ObservedRole N (Some (GateOutput t)) None = ⊥
ObservedRole N (Some (GateOutput t)) (Some n) = IsFree N n
ObservedRole N (Some (BoxedPin Input)) n = Unit {0}
ObservedRole N (Some (BoxedPin Output)) n = ⊥
ObservedRole N (Some (BoxedPin Inout)) n = Unit {0}

abbrev pub ObservedTop : Option Top → Type 0
ObservedTop None = ⊥
ObservedTop (Some t) = t.dir ≢ Input

abbrev pub ObservedAt : Netlist → Option Component → Name → Type 0
ObservedAt N None p = ⊥
ObservedAt N (Some x) p = ObservedRole N (role_of x p) (get x.joined p)

-- top OUTPUT and INOUT pins, INPUT and INOUT pins of boxes, and gate outputs on free nets
abbrev pub IsObservable : Netlist → Pin → Type 0
IsObservable N (TopPin t) = ObservedTop (get N.tops t)
IsObservable N (CompPin c p) = ObservedAt N (get N.comps c) p

abbrev pub value_by_role : Valuation → Option Role → Option Name → List (Option Name) → Bool
value_by_role v (Some (GateOutput table)) n inputs = table_value table (map (read v) inputs)
value_by_role v (Some GateInput) n inputs = read v n
value_by_role v (Some (BoxedPin d)) n inputs = read v n
value_by_role v None n inputs = false

abbrev pub value_top : Valuation → Option Top → Bool
value_top v None = false
value_top v (Some t) = read v (Some t.net)

abbrev pub pin_value : Valuation → Option Component → Name → Bool
pin_value v None p = false
pin_value v (Some x) p = value_by_role v (role_of x p) (get x.joined p) (input_nets x)

-- An observable's value: that of its net, and 0 where it is unconnected; of a gate output on a free net, what the gate computes.
abbrev pub observed : Netlist → Valuation → Pin → Bool
observed N v (TopPin t) = value_top v (get N.tops t)
observed N v (CompPin c p) = pin_value v (get N.comps c) p
