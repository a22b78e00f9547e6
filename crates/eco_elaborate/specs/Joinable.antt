-- Which pins can be put on nets in the netlist of a design.
use Rattle.std.specs.Prelude.{◌≡◌, false, List, Some, None, ◌⊎◌}
use Rattle.std.specs.List.{Contains}
use Rattle.std.specs.FinMap.{get}
use Rattle.eco_common.specs.Joints.{NewJoint}
use Rattle.eco_issued_laws.specs.Changes.{is_no_component}
use Rattle.eco_net.specs.Netlist.{Name, Component, Netlist, IsNet, IsPin}
use Rattle.eco_net.specs.Joints.{OneNetEach}

-- The pins are those of components, PIN and * aside, and none is put on two nets. Each net is one of the netlist or new, and
-- the new ones aren't in it.
pub record CanJoin (N : Netlist) (joints : List NewJoint) (new : List Name) : Type 0 where
  pub pins : (j : NewJoint) → Contains joints j → (x : Component) × (get N.comps j.comp ≡ Some x) × IsPin x j.pin
  pub named : (j : NewJoint) → Contains joints j → is_no_component j.comp ≡ false
  pub one_net : OneNetEach joints
  pub known : (j : NewJoint) → Contains joints j → IsNet N j.net ⊎ Contains new j.net
  pub unknown : (n : Name) → Contains new n → get N.nets n ≡ None
