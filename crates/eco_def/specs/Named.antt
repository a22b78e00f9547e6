-- A design by its names, wherever they stand.
use Rattle.std.specs.Prelude.{ℕ, Bool, List, map, Option}
use Rattle.std.specs.Option.{option_map}
use Rattle.eco_common.specs.declared.geometry.Dir.{Dir}
use Rattle.eco_def.specs.declared.place.Place.{Place}
use Rattle.eco_def.specs.Design.{Comp, TopPin, Joint, Net, Design}

pub record NamedComp : Type 0 where
  pub name : List ℕ
  pub model : List ℕ
  pub place : Option Place

pub record NamedPin : Type 0 where
  pub name : List ℕ
  pub net : List ℕ
  pub dir : Dir
  pub supply : Bool

pub record NamedJoint : Type 0 where
  pub comp : List ℕ
  pub pin : List ℕ

pub record NamedNet : Type 0 where
  pub name : List ℕ
  pub usage : Option (List ℕ)
  pub joints : List NamedJoint

pub record NamedDesign : Type 0 where
  pub units : ℕ
  pub comps : List NamedComp
  pub pins : List NamedPin
  pub special : List NamedNet
  pub nets : List NamedNet

abbrev pub comp_names : Comp → NamedComp
comp_names c = record { name = c.name.bytes; model = c.model.bytes; place = c.place }

abbrev pub pin_names : TopPin → NamedPin
pin_names p = record { name = p.name.bytes; net = p.net.bytes; dir = p.dir; supply = p.supply }

abbrev pub joint_names : Joint → NamedJoint
joint_names j = record { comp = j.comp.bytes; pin = j.pin.bytes }

abbrev pub net_names : Net → NamedNet
net_names s = record { name = s.name.bytes; usage = option_map (λ w. w.bytes) s.usage; joints = map joint_names s.joints }

abbrev pub names_of : Design → NamedDesign
names_of d = record { units = d.units; comps = map comp_names d.comps; pins = map pin_names d.pins; special = map net_names d.special; nets = map net_names d.nets.nets }
