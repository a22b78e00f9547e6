-- An order's patch gates as spares with their pins tied.
use Rattle.std.specs.Prelude.{List, [], ◌∷◌, ◌++◌, map, slice_get, Option, Some, None}
use Rattle.std.specs.Option.{option_map}
use Rattle.std.specs.List.{zip, filter_map}
use Rattle.std.specs.FinMap.{get}
use Rattle.eco_net.specs.Netlist.{Name, Netlist, Component, input_names}
use Rattle.eco_embed.specs.declared.feed.Feed.{Feed}
use Rattle.eco_embed.specs.declared.feed.Feed.TheVariants.{Zero, One, Input}
use Rattle.eco_patch_laws.specs.Orders.{PatchGate, Order, Placement}
use Rattle.eco_common.specs.Joints.{NewJoint}
use Rattle.eco_net.specs.Joints.{with_joints}
use Rattle.eco_patch_laws.specs.Insertion.{move_joint}

-- The low tie net for Zero, the high tie net for One, and one of the gate's input nets. There is none past its inputs
abbrev pub feed_net : Name → Name → List Name → Feed → Option Name
feed_net low high inputs Zero = Some low
feed_net low high inputs One = Some high
feed_net low high inputs (Input i) = slice_get inputs i

abbrev pub on_pin : Name → Name → Name → NewJoint
on_pin comp pin net = record { comp = comp; pin = pin; net = net }

-- each of the spare's input pins on the net of its feed
abbrev pub feed_joints : Name → Name → PatchGate → Name → List (Name × Feed) → List NewJoint
feed_joints low high g spare fed = filter_map (λ e. option_map (on_pin spare e.0) (feed_net low high g.inputs e.1)) fed

-- the chosen output on the gate's output net, and the input pins on the nets of their feeds
abbrev pub spare_joints : Name → Name → PatchGate → Placement → Option Component → List NewJoint
spare_joints low high g p None = []
spare_joints low high g p (Some x) = on_pin p.spare p.output g.output ∷ feed_joints low high g p.spare (zip (input_names x.kind) p.feeds)

abbrev pub all_spare_joints : Name → Name → Netlist → List (PatchGate × Placement) → List NewJoint
all_spare_joints low high N [] = []
all_spare_joints low high N (e ∷ es) = spare_joints low high e.0 e.1 (get N.comps e.1.spare) ++ all_spare_joints low high N es

-- the pins that the order's metal puts on other nets: those of its moves, and those of the spares in place of its gates
abbrev pub patch_joints : Name → Name → Netlist → Order → List Placement → List NewJoint
patch_joints low high N order placements = map move_joint order.moves ++ all_spare_joints low high N (zip order.gates placements)

-- The netlist with the order realised: the new nets, each moved pin on its `to` net, and for each patch gate its spare's
-- input pins on the tie nets and the gate's input nets, and the chosen output on the gate's output net. The tie nets' names
-- are the base's.
abbrev pub realised : Name → Name → Netlist → Order → List Placement → Netlist
realised low high N order placements = with_joints N (patch_joints low high N order placements) order.nets
