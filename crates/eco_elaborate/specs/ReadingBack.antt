-- The issued text for a netlist, and the netlist that is read back from an issued text.
use Rattle.std.specs.Prelude.{◌≡◌, ℕ, Bool, true, false, not, List, map, Option, Some, None, is_none, Ok, codes}
use Rattle.std.specs.List.{Contains, IsDistinct, filter, flat_map}
use Rattle.std.specs.Str.{bytes_eq}
use Rattle.std.specs.FinMap.{entries, keys, get}
use Rattle.eco_text.specs.Tokens.{can_name}
use Rattle.eco_def.specs.Design.{Design}
use Rattle.eco_def.specs.Grammar.{design_of}
use Rattle.eco_def.specs.Named.{NamedPin, NamedDesign, names_of}
use Rattle.eco_common.specs.Joints.{NewJoint}
use Rattle.eco_issued_laws.specs.Issued.{issued_text}
use Rattle.eco_issued_laws.specs.NewNets.{can_be_new}
use Rattle.eco_net.specs.Netlist.{Name, Component, Netlist, CompPin}
use Rattle.eco_net.specs.Drivers.{net_of}
use Rattle.eco_elaborate.specs.Netlists.{Kinds, netlist_of}
use Rattle.eco_net.specs.Joints.{with_joints}
use Rattle.eco_elaborate.specs.Joinable.{CanJoin}

-- ---- the issued text for a netlist

abbrev pub is_named_net : Option Name → Name → Bool
is_named_net None n = false
is_named_net (Some m) n = bytes_eq m n

-- the pin is on that net
abbrev pub is_joined : Netlist → NewJoint → Bool
is_joined N j = is_named_net (net_of N (CompPin j.comp j.pin)) j.net

-- the pins of a component that are on nets
abbrev pub pins_of_comp : Name × Component → List NewJoint
pins_of_comp c = map (λ e. record { comp = c.0; pin = e.0; net = e.1 }) (entries c.1.joined)

-- the pins that are on other nets than in the base, each with its net
abbrev pub moved_pins : Netlist → Netlist → List NewJoint
moved_pins base N = filter (λ j. not (is_joined base j)) (flat_map pins_of_comp (entries N.comps))

-- the nets that the base hasn't
abbrev pub new_nets : Netlist → Netlist → List Name
new_nets base N = filter (λ n. is_none (get base.nets n)) (keys N.nets)

-- The text of a design issued for a netlist: the pins whose nets differ from those of the design's netlist are put on their nets,
-- and the nets that it hasn't are added.
abbrev pub issued_for : Kinds → List Name → List ℕ → Design → Netlist → List ℕ
issued_for kinds ties text d N = issued_text text d (moved_pins (netlist_of kinds ties (names_of d)) N) (new_nets (netlist_of kinds ties (names_of d)) N)

-- A law: issued for the netlist of its own design, a text stays as it is.
abbrev pub OwnText : Type 0
OwnText = (kinds : Kinds) (ties : List Name) (text : List ℕ) (d : Design) → design_of text ≡ Ok d → issued_for kinds ties text d (netlist_of kinds ties (names_of d)) ≡ text

-- ---- reading back

-- The count word of NETS isn't a quoted word, which would run into what follows where it is replaced. No top pin is on a net
-- MUSTJOIN, which begins another kind of statement.
pub record CanReadBack (d : Design) : Type 0 where
  pub count : d.nets.count.quoted ≡ false
  pub tops : (p : NamedPin) → Contains (names_of d).pins p → bytes_eq p.net (codes "MUSTJOIN") ≡ false

-- Pins that a netlist can take on nets, the pins' names of a name's form, and new nets of good form, each once.
pub record CanIssue (N : Netlist) (joints : List NewJoint) (nets : List Name) : Type 0 where
  pub joined : CanJoin N joints nets
  pub pins : (j : NewJoint) → Contains joints j → can_name j.pin ≡ true
  pub forms : (n : Name) → Contains nets n → can_be_new n ≡ true
  pub distinct : IsDistinct bytes_eq nets

-- The issued text has this design. Its netlist is that of the text's design with these pins on their nets and these new nets; units,
-- components with their macros and places, and top pins are the text's, in their order.
pub record ReadsAs (kinds : Kinds) (ties : List Name) (text : List ℕ) (d : Design) (joints : List NewJoint) (nets : List Name) (again : Design) : Type 0 where
  pub read : design_of (issued_text text d joints nets) ≡ Ok again
  pub netlist : netlist_of kinds ties (names_of again) ≡ with_joints (netlist_of kinds ties (names_of d)) joints nets
  pub units : again.units ≡ d.units
  pub comps : (names_of again).comps ≡ (names_of d).comps
  pub tops : (names_of again).pins ≡ (names_of d).pins

-- A law: an issued text reads back to the netlist that it was issued for.
abbrev pub IssuedReadsBack : Type 0
IssuedReadsBack = (kinds : Kinds) (ties : List Name) (text : List ℕ) (d : Design) (joints : List NewJoint) (nets : List Name) → design_of text ≡ Ok d → CanReadBack d → CanIssue (netlist_of kinds ties (names_of d)) joints nets →
    (again : Design) × ReadsAs kinds ties text d joints nets again
