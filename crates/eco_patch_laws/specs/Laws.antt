-- A patch gate and a spare in its place compute the same.
use Rattle.std.specs.Prelude.{◌≡◌, ◌≢◌, Bool, List, [], ◌∷◌, map, Option, Some, None, ◌↔◌}
use Rattle.std.specs.Option.{option_map}
use Rattle.std.specs.List.{Contains, IsDistinct, zip}
use Rattle.std.specs.Ordering.{eq_by_cmp}
use Rattle.std.specs.FinMap.{get}
use Rattle.eco_common.specs.declared.geometry.Point.{Point}
use Rattle.eco_net.specs.Netlist.{Name, name_cmp, Netlist, Component, GateOutput, role_of, Pin, CompPin}
use Rattle.eco_net.specs.Drivers.{Computed, net_of}
use Rattle.eco_net.specs.CutKeys.{CutBits}
use Rattle.eco_net.specs.Valuation.{Valuation, IsValuation}
use Rattle.eco_net.specs.Walks.{IsLoopFree}
use Rattle.eco_patch_laws.specs.Orders.{PatchGate, Move, Order, Placement}
use Rattle.eco_common.specs.Joints.{NewJoint}
use Rattle.eco_net.specs.Joints.{with_joints, frame, first_each, CanTake}
use Rattle.eco_patch_laws.specs.Insertion.{inserted}
use Rattle.eco_patch_laws.specs.Realisation.{feed_net, patch_joints, realised}
use Rattle.eco_net.specs.Bases.{Base, IsBase, IsWithout, bare}
use Rattle.eco_patch_laws.specs.Rules.{NoneStandsTwice, PinsAreKnown}
use Rattle.eco_patch_laws.specs.Mappings.{spares_of}
use Rattle.eco_patch_laws.specs.Patches.{IsPatch}
use Rattle.eco_patch_laws.specs.Meaning.{SameMeaning}
use Rattle.eco_patch_laws.specs.Lone.{lone_order, IsLone}
use Rattle.eco_patch_laws.specs.Live.{Commit, AreLive, live_joints, live_nets, abstract, concrete}

-- ---- pins put on nets

-- a pin with a joint is on the joint's net
abbrev pub JointsJoin : Type 0
JointsJoin = (N : Netlist) (joints : List NewJoint) (nets : List Name) → CanTake N nets joints → (j : NewJoint) → Contains joints j → net_of (with_joints N joints nets) (CompPin j.comp j.pin) ≡ Some j.net

-- a pin without one is where it was
abbrev pub OtherPinsStay : Type 0
OtherPinsStay = (N : Netlist) (joints : List NewJoint) (nets : List Name) (p : Pin) → ((j : NewJoint) → Contains joints j → p ≢ CompPin j.comp j.pin) → net_of (with_joints N joints nets) p ≡ net_of N p

-- of two joints of one pin the first counts
abbrev pub FirstCounts : Type 0
FirstCounts = (N : Netlist) (joints : List NewJoint) (nets : List Name) → with_joints N (first_each joints) nets ≡ with_joints N joints nets

-- no component is added, taken away, changed in kind or placed anew
abbrev pub ComponentsStay : Type 0
ComponentsStay = (N : Netlist) (joints : List NewJoint) (nets : List Name) (c : Name) → option_map frame (get (with_joints N joints nets).comps c) ≡ option_map frame (get N.comps c)

-- the new nets are added, and are no supplies
abbrev pub NetsJoin : Type 0
NetsJoin = (N : Netlist) (joints : List NewJoint) (nets : List Name) (n : Name) → Contains nets n → get (with_joints N joints nets).nets n ≡ Some None

abbrev pub OtherNetsStay : Type 0
OtherNetsStay = (N : Netlist) (joints : List NewJoint) (nets : List Name) (n : Name) → (Contains nets n → ⊥) → get (with_joints N joints nets).nets n ≡ get N.nets n

-- ---- one order

-- one gate on a new net, which one input pin goes to, on a spare of the stock, is a patch
abbrev pub LoneIsPatch : Type 0
LoneIsPatch =
    (base : Base) (label : Name) (place : Name → Option Point) (gate : PatchGate) (move : Move) (p : Placement) → IsLone base label place gate move p
    → IsPatch base label place (lone_order gate move) (p ∷ [])

-- a map from nets to bits is a valuation of the netlist with the gates exactly where it is one of the netlist with the spares
abbrev pub SameValuations : Type 0
SameValuations =
    (base : Base) (label : Name) (place : Name → Option Point) (order : Order) (placements : List Placement) → IsPatch base label place order placements
    → (cut : CutBits) (v : Valuation) → IsValuation (inserted label place (bare base) order) cut v ↔ IsValuation (realised base.low base.high base.full order placements) cut v

-- so it is with the gates inserted on the base with its stock in place
abbrev pub SameBesideStock : Type 0
SameBesideStock =
    (base : Base) (label : Name) (place : Name → Option Point) (order : Order) (placements : List Placement) → IsPatch base label place order placements
    → (cut : CutBits) (v : Valuation) → IsValuation (inserted label place base.full order) cut v ↔ IsValuation (realised base.low base.high base.full order placements) cut v

-- the two netlists mean the same
abbrev pub PatchMeansSame : Type 0
PatchMeansSame =
    (base : Base) (label : Name) (place : Name → Option Point) (order : Order) (placements : List Placement) → IsPatch base label place order placements
    → SameMeaning (inserted label place (bare base) order) (realised base.low base.high base.full order placements)

-- where the gates are inserted, a moved pin is on the net that it goes to
abbrev pub MovesArrive : Type 0
MovesArrive =
    (base : Base) (label : Name) (place : Name → Option Point) (order : Order) (placements : List Placement) → IsPatch base label place order placements
    → (m : Move) → Contains order.moves m → net_of (inserted label place (bare base) order) (CompPin m.comp m.pin) ≡ Some m.to

-- and any other pin where it was
abbrev pub OthersRemain : Type 0
OthersRemain =
    (base : Base) (label : Name) (place : Name → Option Point) (order : Order) (placements : List Placement) → IsPatch base label place order placements
    → (c : Name) (x : Component) (q : Name) → get (bare base).comps c ≡ Some x → ((m : Move) → Contains order.moves m → CompPin m.comp m.pin ≢ CompPin c q)
    → net_of (inserted label place (bare base) order) (CompPin c q) ≡ get x.joined q

-- where a gate is inserted, its output is computed by its table of its inputs
abbrev pub GatesCompute : Type 0
GatesCompute =
    (base : Base) (label : Name) (place : Name → Option Point) (order : Order) (placements : List Placement) → IsPatch base label place order placements
    → (g : PatchGate) → Contains order.gates g → Computed (inserted label place (bare base) order) g.output g.table (map Some g.inputs)

-- where it is realised, by the table of its spare's chosen output of what feeds the spare's inputs
abbrev pub SparesCompute : Type 0
SparesCompute =
    (base : Base) (label : Name) (place : Name → Option Point) (order : Order) (placements : List Placement) → IsPatch base label place order placements
    → (g : PatchGate) (p : Placement) (x : Component) → Contains (zip order.gates placements) (g, p) → get base.full.comps p.spare ≡ Some x
    → (chosen : List Bool) × (role_of x p.output ≡ Some (GateOutput chosen)) × Computed (realised base.low base.high base.full order placements) g.output chosen (map (feed_net base.low base.high g.inputs) p.feeds)

-- the stock stands beside the inserted gates, and drives nothing
abbrev pub StockIsBeside : Type 0
StockIsBeside =
    (base : Base) (label : Name) (place : Name → Option Point) (order : Order) → IsBase base → NoneStandsTwice order → PinsAreKnown (bare base) order
    → IsWithout (inserted label place base.full order) (inserted label place (bare base) order)

-- the joints that realise a patch are ones that the base can take
abbrev pub BaseTakesJoints : Type 0
BaseTakesJoints =
    (base : Base) (label : Name) (place : Name → Option Point) (order : Order) (placements : List Placement) → IsPatch base label place order placements
    → CanTake base.full order.nets (patch_joints base.low base.high base.full order placements)

-- ---- several live orders

-- the netlist with all live orders inserted means the same as the one with all realised
abbrev pub LiveMeansSame : Type 0
LiveMeansSame = (base : Base) (live : List Commit) → IsBase base → AreLive base live → SameMeaning (abstract base live) (concrete base live)

-- a stock component that no live order has stands as in the base, and with no live order all does
abbrev pub FreeStockRests : Type 0
FreeStockRests =
    (base : Base) (live : List Commit) → IsBase base → AreLive base live → (s : Name) → Contains base.stock s → ((c : Commit) → Contains live c → Contains (spares_of c.placements) s → ⊥)
    → get (concrete base live).comps s ≡ get base.full.comps s

abbrev pub NothingLive : Type 0
NothingLive = (base : Base) → concrete base [] ≡ base.full

-- the live orders' pins put on nets, all on the base
abbrev pub LiveJoints : Type 0
LiveJoints = (base : Base) (live : List Commit) → concrete base live ≡ with_joints base.full (live_joints base live) (live_nets live)

-- of each pin the last order's joint is one that the base can take
abbrev pub BaseTakesLive : Type 0
BaseTakesLive = (base : Base) (live : List Commit) → IsBase base → AreLive base live → CanTake base.full (live_nets live) (first_each (live_joints base live))

-- the live orders' new nets are distinct, and none is one of the base
abbrev pub LiveNetsAreNew : Type 0
LiveNetsAreNew =
    (base : Base) (live : List Commit) → IsBase base → AreLive base live
    → IsDistinct (eq_by_cmp name_cmp) (live_nets live) × ((n : Name) → Contains (live_nets live) n → get base.full.nets n ≡ None)

-- ---- less

-- taking away components that drive nothing makes no loop
abbrev pub WithoutIsLoopFree : Type 0
WithoutIsLoopFree = (M N : Netlist) → IsWithout M N → IsLoopFree M → IsLoopFree N

-- nor does putting them back
abbrev pub WithIsLoopFree : Type 0
WithIsLoopFree = (M N : Netlist) → IsWithout M N → IsLoopFree N → IsLoopFree M

-- taking them away changes nothing of what is computed
abbrev pub WithoutComputesSame : Type 0
WithoutComputesSame = (M N : Netlist) → IsWithout M N → (cut : CutBits) (v : Valuation) → IsValuation N cut v ↔ IsValuation M cut v
