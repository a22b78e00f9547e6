-- Pins of components put on nets, some of them new (LEF/DEF 5.8, "Nets"). No component comes, goes or changes place.
use Rattle.std.specs.Prelude.{◌≡◌, Bool, not, ◌&&◌, ◌⊎◌, List, [], ◌∷◌, Option, Some, None}
use Rattle.std.specs.List.{Contains, IsDistinct, filter}
use Rattle.std.specs.Option.{option_map}
use Rattle.std.specs.Ordering.{eq_by_cmp}
use Rattle.std.specs.FinMap.{FinMap, get, insert}
use Rattle.eco_common.specs.declared.geometry.Point.{Point}
use Rattle.eco_common.specs.Joints.{NewJoint}
use Rattle.eco_net.specs.Netlist.{Name, name_cmp, Netlist, Kind, Component, CompPin, IsNet, IsPin}
use Rattle.eco_net.specs.Drivers.{net_of}

-- with new nets, which are no supplies
abbrev pub with_nets : FinMap name_cmp (Option Bool) → List Name → FinMap name_cmp (Option Bool)
with_nets m [] = m
with_nets m (n ∷ ns) = insert (with_nets m ns) n None

abbrev pub put_on : FinMap name_cmp Component → NewJoint → Option Component → FinMap name_cmp Component
put_on m j None = m
put_on m j (Some x) = insert m j.comp (record x { joined = insert x.joined j.pin j.net })

-- each of these pins on its net. Of two joints of one pin the first counts
abbrev pub put_joints : FinMap name_cmp Component → List NewJoint → FinMap name_cmp Component
put_joints m [] = m
put_joints m (j ∷ js) = put_on (put_joints m js) j (get (put_joints m js) j.comp)

-- The netlist with these new nets and with these pins on their nets. IsRewired says the same in words.
abbrev pub with_joints : Netlist → List NewJoint → List Name → Netlist
with_joints N joints nets = record N { nets = with_nets N.nets nets; comps = put_joints N.comps joints }

-- what no joint changes of a component
abbrev pub frame : Component → Kind × Option Point
frame x = (x.kind, x.place)

-- M is N with these new nets, which are no supplies, and with these pins on their nets; all else is as it was: the other nets
-- and pins, the components, their kinds and places, the top pins and the tie nets.
pub record IsRewired (N : Netlist) (joints : List NewJoint) (new : List Name) (M : Netlist) : Type 0 where
  pub new_nets : (n : Name) → Contains new n → get M.nets n ≡ Some None
  pub old_nets : (n : Name) → (Contains new n → ⊥) → get M.nets n ≡ get N.nets n
  pub put : (j : NewJoint) → Contains joints j → net_of M (CompPin j.comp j.pin) ≡ Some j.net
  pub kept : (c p : Name) → ((j : NewJoint) → Contains joints j → j.comp ≡ c → j.pin ≡ p → ⊥) → net_of M (CompPin c p) ≡ net_of N (CompPin c p)
  pub frames : (c : Name) → option_map frame (get M.comps c) ≡ option_map frame (get N.comps c)
  pub tops : M.tops ≡ N.tops
  pub ties : M.ties ≡ N.ties
  pub reserved : M.reserved ≡ N.reserved

-- no pin is put on two nets
abbrev pub OneNetEach : List NewJoint → Type 0
OneNetEach joints = (j k : NewJoint) → Contains joints j → Contains joints k → j.comp ≡ k.comp → j.pin ≡ k.pin → j.net ≡ k.net

-- the joints are of one pin
abbrev pub same_pin : NewJoint → NewJoint → Bool
same_pin j k = eq_by_cmp name_cmp j.comp k.comp && eq_by_cmp name_cmp j.pin k.pin

-- of each pin the first joint, which is the one that counts
abbrev pub first_each : List NewJoint → List NewJoint
first_each [] = []
first_each (j ∷ js) = j ∷ filter (λ k. not (same_pin j k)) (first_each js)

-- Joints that a netlist can take beside these new nets: each is of another pin, its component has the pin, and its net is one
-- of the netlist or a new one.
pub record CanTake (N : Netlist) (nets : List Name) (joints : List NewJoint) : Type 0 where
  pub once : IsDistinct same_pin joints
  pub pins : (j : NewJoint) → Contains joints j → (x : Component) × (get N.comps j.comp ≡ Some x) × IsPin x j.pin
  pub nets_known : (j : NewJoint) → Contains joints j → IsNet N j.net ⊎ Contains nets j.net
