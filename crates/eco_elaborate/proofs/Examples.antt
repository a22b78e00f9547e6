-- The netlist of a small design, and of the design where one of its spares has become a gate, by computing the definitions.
use Rattle.std.proofs.Common.{◌≡◌, Bool, true, false, not, ◌&&◌, ◌||◌, map, List, [], ◌∷◌, Option, Some, None, refl, sym, ap, ◌∙◌, subst, inl, inr, ⊎_elim, ◌⊎◌, codes, pos, neg_ℤ, if◌then◌else◌, true≢false}
use Rattle.std.specs.List.{list_all, list_any, Contains}
use Rattle.std.specs.Str.{bytes_eq}
use Rattle.std.specs.FinMap.{get, from_entries}
use Rattle.std.specs.FinSet.{from_list, empty}
use Rattle.std.proofs.lemmas.Bool.{and_parts, and_from, or_cases}
use Rattle.eco_common.specs.declared.geometry.Size.{Size}
use Rattle.eco_common.specs.declared.geometry.Dir.{Dir}
use Rattle.eco_common.specs.declared.geometry.Dir.TheVariants.{Input, Output, Inout}
use Rattle.eco_common.specs.declared.geometry.Point.{Point}
use Rattle.eco_def.specs.declared.orient.Orient.TheVariants.{N, FS, FE}
use Rattle.eco_def.specs.Named.{NamedComp, NamedPin, NamedJoint, NamedNet, NamedDesign}
use Rattle.eco_common.specs.Joints.{NewJoint}
use Rattle.eco_issued_laws.specs.Changes.{is_no_component, changes_of, statements}
use Rattle.eco_issued_laws.specs.Issued.{issued_design}
use Rattle.eco_net.specs.Netlist.{Name, Kind, Gate, Boxed, Component, Netlist, Role, GateInput, GateOutput, role_of, IsNet, IsPin}
use Rattle.eco_net.proofs.Basics.{Has, contains_from_has, has_from_contains, has_map, same_Some}
use Rattle.eco_elaborate.specs.Centres.{doubled_centre}
use Rattle.eco_elaborate.specs.Netlists.{Kinds, names_pin, supply_by, netlist_of}
use Rattle.eco_elaborate.specs.Described.{IsOn, IsSupply, IsConsistent}
use Rattle.eco_net.specs.Joints.{with_joints, OneNetEach}
use Rattle.eco_elaborate.specs.Joinable.{CanJoin}
use Rattle.eco_elaborate.proofs.Names.{same_name, is_name}
use Rattle.eco_elaborate.proofs.Members.{all_has, any_has, has_any}
use Rattle.eco_elaborate.proofs.Statements.{names_parts}
use Rattle.eco_elaborate.proofs.Found.{on_statement}
use Rattle.eco_elaborate.proofs.Lookups.{comp_is, net_is}
use Rattle.eco_elaborate.proofs.Nets.{known_net}
use Rattle.eco_elaborate.proofs.Issuing.{issued_is}

-- ---- shorter words

abbrev joint : Name → Name → NamedJoint
joint comp pin = record { comp = comp; pin = pin }

abbrev net : Name → Option Name → List NamedJoint → NamedNet
net name usage joints = record { name = name; usage = usage; joints = joints }

abbrev on : Name → Name → Name → NewJoint
on comp pin net = record { comp = comp; pin = pin; net = net }

abbrev point : Option Point
point = Some (record { x = pos 3200; y = pos 6801 })

abbrev placed : Name → Name → NamedComp
placed name model = record { name = name; model = model; place = Some (record { point = record { x = pos 1000; y = pos 2000 }; orient = N }) }

abbrev component : Kind → List (Name × Name) → Component
component kind joined = record { kind = kind; place = point; joined = from_entries joined }

-- ---- three gates, one of them a spare

abbrev nand2 : Kind
nand2 = Gate (codes "A" ∷ codes "B" ∷ []) ((codes "Y", true ∷ true ∷ true ∷ false ∷ []) ∷ [])

abbrev inv : Kind
inv = Gate (codes "A" ∷ []) ((codes "Y", true ∷ false ∷ []) ∷ [])

-- 1.2 microns by 2.8015; the last digits are no whole unit
abbrev size : Size
size = record { width = 1200000; height = 2801500 }

-- the corner of a box at 1000 2000, which lies as it is drawn and on its side, and its doubled centre
upright : doubled_centre 1000 size (record { point = record { x = pos 1000; y = pos 2000 }; orient = FS }) ≡ record { x = pos 3200; y = pos 6801 }
upright = refl

on_its_side : doubled_centre 1000 size (record { point = record { x = pos 1000; y = neg_ℤ (pos 2000) }; orient = FE }) ≡ record { x = pos 4801; y = neg_ℤ (pos 2800) }
on_its_side = refl

abbrev kinds : Kinds
kinds = record { kind = λ model. if bytes_eq model (codes "NAND2") then Some nand2 else (if bytes_eq model (codes "INV") then Some inv else None); size = λ model. size }

abbrev ties : List Name
ties = codes "VDD" ∷ codes "VSS" ∷ []

abbrev d : NamedDesign
d = record {
  units = 1000;
  comps = placed (codes "u1") (codes "NAND2") ∷ placed (codes "u2") (codes "INV") ∷ placed (codes "SP_1") (codes "NAND2") ∷ [];
  pins = [];
  special = [];
  nets =
      net (codes "VDD") (Some (codes "POWER")) []
      ∷ net (codes "VSS") (Some (codes "GROUND")) (joint (codes "SP_1") (codes "A") ∷ joint (codes "SP_1") (codes "B") ∷ [])
      ∷ net (codes "a") None (joint (codes "u1") (codes "A") ∷ [])
      ∷ net (codes "b") None (joint (codes "u1") (codes "B") ∷ [])
      ∷ net (codes "n1") None (joint (codes "u1") (codes "Y") ∷ joint (codes "u2") (codes "A") ∷ [])
      ∷ net (codes "n2") None (joint (codes "u2") (codes "Y") ∷ [])
      ∷ [];
}

-- its netlist: u1 is a NAND of a and b, u2 an inverter after it, and the spare's inputs are tied low
base_netlist : netlist_of kinds ties d ≡ record {
  nets = from_entries ((codes "VDD", Some true) ∷ (codes "VSS", Some false) ∷ (codes "a", None) ∷ (codes "b", None) ∷ (codes "n1", None) ∷ (codes "n2", None) ∷ []);
  comps = from_entries (
      (codes "u1", component nand2 ((codes "A", codes "a") ∷ (codes "B", codes "b") ∷ (codes "Y", codes "n1") ∷ []))
      ∷ (codes "u2", component inv ((codes "A", codes "n1") ∷ (codes "Y", codes "n2") ∷ []))
      ∷ (codes "SP_1", component nand2 ((codes "A", codes "VSS") ∷ (codes "B", codes "VSS") ∷ []))
      ∷ []
      );
  tops = from_entries [];
  ties = from_list (codes "VDD" ∷ codes "VSS" ∷ []);
  reserved = empty;
}
base_netlist = refl

-- ---- the spare becomes an inverter of a, whose output u2 reads

abbrev joints : List NewJoint
joints = on (codes "SP_1") (codes "A") (codes "VDD") ∷ on (codes "SP_1") (codes "B") (codes "a") ∷ on (codes "SP_1") (codes "Y") (codes "m1") ∷ on (codes "u2") (codes "A") (codes "m1") ∷ []

abbrev new : List Name
new = codes "m1" ∷ []

-- the statements that are issued
issued_statements : (issued_design (changes_of d joints new) d).nets ≡
    net (codes "VDD") (Some (codes "POWER")) (joint (codes "SP_1") (codes "A") ∷ [])
    ∷ net (codes "VSS") (Some (codes "GROUND")) []
    ∷ net (codes "a") None (joint (codes "u1") (codes "A") ∷ joint (codes "SP_1") (codes "B") ∷ [])
    ∷ net (codes "b") None (joint (codes "u1") (codes "B") ∷ [])
    ∷ net (codes "n1") None (joint (codes "u1") (codes "Y") ∷ [])
    ∷ net (codes "n2") None (joint (codes "u2") (codes "Y") ∷ [])
    ∷ net (codes "m1") None (joint (codes "SP_1") (codes "Y") ∷ joint (codes "u2") (codes "A") ∷ [])
    ∷ []
issued_statements = refl

-- their netlist
abbrev expected : Netlist
expected = record {
  nets = from_entries ((codes "VDD", Some true) ∷ (codes "VSS", Some false) ∷ (codes "a", None) ∷ (codes "b", None) ∷ (codes "n1", None) ∷ (codes "n2", None) ∷ (codes "m1", None) ∷ []);
  comps = from_entries (
      (codes "u1", component nand2 ((codes "A", codes "a") ∷ (codes "B", codes "b") ∷ (codes "Y", codes "n1") ∷ []))
      ∷ (codes "u2", component inv ((codes "A", codes "m1") ∷ (codes "Y", codes "n2") ∷ []))
      ∷ (codes "SP_1", component nand2 ((codes "A", codes "VDD") ∷ (codes "B", codes "a") ∷ (codes "Y", codes "m1") ∷ []))
      ∷ []
      );
  tops = from_entries [];
  ties = from_list (codes "VDD" ∷ codes "VSS" ∷ []);
  reserved = empty;
}

issued_netlist : netlist_of kinds ties (issued_design (changes_of d joints new) d) ≡ expected
issued_netlist = refl

-- ---- what the law asks of the joints, and what it gives

-- a test of the joints, two by two
abbrev one_net : List NewJoint → Bool
one_net js = list_all (λ j. list_all (λ k. not (bytes_eq j.comp k.comp && bytes_eq j.pin k.pin) || bytes_eq j.net k.net) js) js

one_net_each : (js : List NewJoint) → one_net js ≡ true → OneNetEach js
one_net_each js e j k h i f g =
    let row = all_has (λ j. list_all (λ k. not (bytes_eq j.comp k.comp && bytes_eq j.pin k.pin) || bytes_eq j.net k.net) js) js j e (has_from_contains js j h) in
    let cell = all_has (λ k. not (bytes_eq j.comp k.comp && bytes_eq j.pin k.pin) || bytes_eq j.net k.net) js k row (has_from_contains js k i) in
    ⊎_elim
    (λ a. absurd (true≢false (sym a ∙ ap not (and_from (bytes_eq j.comp k.comp) (bytes_eq j.pin k.pin) (is_name j.comp k.comp f) (is_name j.pin k.pin g)))))
    (λ b. same_name j.net k.net b)
    (or_cases (not (bytes_eq j.comp k.comp && bytes_eq j.pin k.pin)) (bytes_eq j.net k.net) cell)

abbrev HasPin : NewJoint → Type 0
HasPin j = (x : Component) × (get (netlist_of kinds ties d).comps j.comp ≡ Some x) × IsPin x j.pin

spare_pin : (r : Role) (p n : Name) → role_of (component nand2 ((codes "A", codes "VSS") ∷ (codes "B", codes "VSS") ∷ [])) p ≡ Some r → HasPin (on (codes "SP_1") p n)
spare_pin r p n e = (component nand2 ((codes "A", codes "VSS") ∷ (codes "B", codes "VSS") ∷ []), comp_is kinds ties d (codes "SP_1"), (r, e))

reader_pin : HasPin (on (codes "u2") (codes "A") (codes "m1"))
reader_pin = (component inv ((codes "A", codes "n1") ∷ (codes "Y", codes "n2") ∷ []), comp_is kinds ties d (codes "u2"), (GateInput, refl))

each_pin : (j : NewJoint) → Has joints j → HasPin j
each_pin j (inl e) = subst HasPin e (spare_pin GateInput (codes "A") (codes "VDD") refl)
each_pin j (inr (inl e)) = subst HasPin e (spare_pin GateInput (codes "B") (codes "a") refl)
each_pin j (inr (inr (inl e))) = subst HasPin e (spare_pin (GateOutput (true ∷ true ∷ true ∷ false ∷ [])) (codes "Y") (codes "m1") refl)
each_pin j (inr (inr (inr (inl e)))) = subst HasPin e reader_pin
each_pin j (inr (inr (inr (inr h)))) = absurd h

each_known : (j : NewJoint) → Has joints j → IsNet (netlist_of kinds ties d) j.net ⊎ Contains new j.net
each_known j (inl e) = inl (subst (λ k. IsNet (netlist_of kinds ties d) k.net) e (known_net kinds ties d (codes "VDD") refl))
each_known j (inr (inl e)) = inl (subst (λ k. IsNet (netlist_of kinds ties d) k.net) e (known_net kinds ties d (codes "a") refl))
each_known j (inr (inr (inl e))) = inr (subst (λ k. Contains new k.net) e (contains_from_has new (codes "m1") (inl refl)))
each_known j (inr (inr (inr (inl e)))) = inr (subst (λ k. Contains new k.net) e (contains_from_has new (codes "m1") (inl refl)))
each_known j (inr (inr (inr (inr h)))) = absurd h

each_named : (j : NewJoint) → Has joints j → is_no_component j.comp ≡ false
each_named j (inl e) = ap (λ k. is_no_component k.comp) (sym e)
each_named j (inr (inl e)) = ap (λ k. is_no_component k.comp) (sym e)
each_named j (inr (inr (inl e))) = ap (λ k. is_no_component k.comp) (sym e)
each_named j (inr (inr (inr (inl e)))) = ap (λ k. is_no_component k.comp) (sym e)
each_named j (inr (inr (inr (inr h)))) = absurd h

each_unknown : (n : Name) → Has new n → get (netlist_of kinds ties d).nets n ≡ None
each_unknown n (inl e) = ap (get (netlist_of kinds ties d).nets) (sym e) ∙ net_is kinds ties d (codes "m1")
each_unknown n (inr h) = absurd h

can_join : CanJoin (netlist_of kinds ties d) joints new
can_join = record {
  pins = λ j h. each_pin j (has_from_contains joints j h);
  named = λ j h. each_named j (has_from_contains joints j h);
  one_net = one_net_each joints refl;
  known = λ j h. each_known j (has_from_contains joints j h);
  unknown = λ n h. each_unknown n (has_from_contains new n h);
}

-- the pins on their nets, in the netlist of the base
rewired : with_joints (netlist_of kinds ties d) joints new ≡ expected
rewired = sym (issued_is kinds ties d joints new can_join)

-- ---- a register, supply nets in both sections, top pins, and a net that only a top pin names

abbrev register : Kind
register = Boxed ((codes "D", Input) ∷ (codes "CK", Input) ∷ (codes "Q", Output) ∷ [])

abbrev more_kinds : Kinds
more_kinds = record { kind = λ model. if bytes_eq model (codes "DFF") then Some register else kinds.kind model; size = λ model. size }

abbrev top : Name → Name → Dir → Bool → NamedPin
top name net dir supply = record { name = name; net = net; dir = dir; supply = supply }

-- r1 is a register and u1 an inverter whose input is unconnected; a component of a name that is no macro's is in no netlist
abbrev r : NamedDesign
r = record {
  units = 1000;
  comps = placed (codes "r1") (codes "DFF") ∷ placed (codes "fill") (codes "FILL1") ∷ placed (codes "u1") (codes "INV") ∷ [];
  pins = top (codes "in") (codes "a") Input false ∷ top (codes "q") (codes "q") Output false ∷ top (codes "VDD") (codes "VDD") Inout true ∷ [];
  special =
      net (codes "VDD") (Some (codes "POWER")) (joint (codes "*") (codes "VDD") ∷ joint (codes "PIN") (codes "VDD") ∷ [])
      ∷ net (codes "VSS") (Some (codes "GROUND")) (joint (codes "*") (codes "VSS") ∷ joint (codes "r1") (codes "CK") ∷ [])
      ∷ [];
  nets = net (codes "VDD") None [] ∷ net (codes "q") (Some (codes "SIGNAL")) (joint (codes "PIN") (codes "q") ∷ joint (codes "r1") (codes "Q") ∷ []) ∷ net (codes "n1") None (joint (codes "u1") (codes "Y") ∷ joint (codes "r1") (codes "D") ∷ []) ∷ [];
}

register_netlist : netlist_of more_kinds ties r ≡ record {
  nets = from_entries (
      (codes "VDD", Some true) ∷ (codes "VSS", Some false) ∷ (codes "VDD", Some true) ∷ (codes "q", None) ∷ (codes "n1", None)
      ∷ (codes "a", None) ∷ (codes "q", None) ∷ (codes "VDD", Some true) ∷ []
      );
  comps = from_entries (
      (codes "r1", component register ((codes "D", codes "n1") ∷ (codes "CK", codes "VSS") ∷ (codes "Q", codes "q") ∷ []))
      ∷ (codes "u1", component inv ((codes "Y", codes "n1") ∷ []))
      ∷ []
      );
  tops = from_entries ((codes "in", record { dir = Input; net = codes "a" }) ∷ (codes "q", record { dir = Output; net = codes "q" }) ∷ []);
  ties = from_list ties;
  reserved = empty;
}
register_netlist = refl

-- the clock pin leaves SPECIALNETS for NETS, and the net that only a top pin names gets its first statement
register_joints : issued_design (changes_of r (on (codes "r1") (codes "CK") (codes "VDD") ∷ on (codes "u1") (codes "A") (codes "a") ∷ []) []) r ≡ record r {
  special =
      net (codes "VDD") (Some (codes "POWER")) (joint (codes "*") (codes "VDD") ∷ joint (codes "PIN") (codes "VDD") ∷ [])
      ∷ net (codes "VSS") (Some (codes "GROUND")) (joint (codes "*") (codes "VSS") ∷ [])
      ∷ [];
  nets =
      net (codes "VDD") None (joint (codes "r1") (codes "CK") ∷ [])
      ∷ net (codes "q") (Some (codes "SIGNAL")) (joint (codes "PIN") (codes "q") ∷ joint (codes "r1") (codes "Q") ∷ [])
      ∷ net (codes "n1") None (joint (codes "u1") (codes "Y") ∷ joint (codes "r1") (codes "D") ∷ [])
      ∷ net (codes "a") None (joint (codes "u1") (codes "A") ∷ [])
      ∷ [];
}
register_joints = refl

-- ---- the first design is consistent

-- names that a test finds once stand once
abbrev once : List Name → Bool
once [] = true
once (n ∷ ns) = not (list_any (λ m. bytes_eq n m) ns) && once ns

once_each : {A : Type 0} (name : A → Name) (xs : List A) → once (map name xs) ≡ true → (a b : A) → Has xs a → Has xs b → name a ≡ name b → a ≡ b
once_each name [] e a b h i s = absurd h
once_each name (x ∷ xs) e a b h i s =
    let r = and_parts (not (list_any (λ m. bytes_eq (name x) m) (map name xs))) (once (map name xs)) e in
    ⊎_elim
    (λ p. ⊎_elim (λ q. sym p ∙ q) (λ q. absurd (other b q (ap name p ∙ s) r.0)) i)
    (λ p. ⊎_elim (λ q. absurd (other a p (ap name q ∙ sym s) r.0)) (λ q. once_each name xs r.1 a b p q s) i)
    h
  where
    other : (y : _) → Has xs y → name x ≡ name y → not (list_any (λ m. bytes_eq (name x) m) (map name xs)) ≡ true → ⊥
    other y h f g = true≢false (sym g ∙ ap not (has_any (λ m. bytes_eq (name x) m) (map name xs) (name y) (has_map name xs y h) (is_name (name x) (name y) f)))

-- of each two statements that have a joint of one pin, or a use that makes a supply, the nets and values are one
abbrev same_joint : NamedJoint → NamedJoint → Bool
same_joint j k = bytes_eq j.comp k.comp && bytes_eq j.pin k.pin

abbrev joints_apart : NamedNet → NamedNet → Bool
joints_apart s t = list_all (λ j. list_all (λ k. not (same_joint j k) || bytes_eq s.name t.name) t.joints) s.joints

abbrev all_apart : List NamedNet → Bool
all_apart ss = list_all (λ s. list_all (joints_apart s) ss) ss

one_net_in : (d : NamedDesign) → all_apart (statements d) ≡ true → (c p n m : Name) → IsOn d c p n → IsOn d c p m → n ≡ m
one_net_in d e c p n m on also =
    let s = on_statement d c p n on in
    let t = on_statement d c p m also in
    let j = any_has (names_pin c p) s.0.joints s.3 in
    let k = any_has (names_pin c p) t.0.joints t.3 in
    let a = names_parts c p j.0 j.2 in
    let b = names_parts c p k.0 k.2 in
    let row = all_has (λ s. list_all (joints_apart s) (statements d)) (statements d) s.0 e s.1 in
    let pair = all_has (joints_apart s.0) (statements d) t.0 row t.1 in
    let here = all_has (λ j. list_all (λ k. not (same_joint j k) || bytes_eq s.0.name t.0.name) t.0.joints) s.0.joints j.0 pair j.1 in
    let cell = all_has (λ k. not (same_joint j.0 k) || bytes_eq s.0.name t.0.name) t.0.joints k.0 here k.1 in
    let same : same_joint j.0 k.0 ≡ true = and_from (bytes_eq j.0.comp k.0.comp) (bytes_eq j.0.pin k.0.pin) (is_name j.0.comp k.0.comp (sym a.1 ∙ b.1)) (is_name j.0.pin k.0.pin (sym a.2 ∙ b.2)) in
    sym s.2
    ∙ ⊎_elim (λ f. absurd (true≢false (sym f ∙ ap not same))) (λ f. same_name s.0.name t.0.name f) (or_cases (not (same_joint j.0 k.0)) (bytes_eq s.0.name t.0.name) cell)
    ∙ t.2

-- a net that has one statement has one value
one_value : (d : NamedDesign) → once (map (λ s. s.name) (statements d)) ≡ true → (n : Name) (a b : Bool) → IsSupply d n a → IsSupply d n b → a ≡ b
one_value d e n a b s t =
    let one : s.0 ≡ t.0 = once_each (λ s. s.name) (statements d) e s.0 t.0 (has_from_contains (statements d) s.0 s.1) (has_from_contains (statements d) t.0 t.1) (s.2 ∙ sym t.2) in
    same_Some (sym s.3 ∙ ap (λ z. supply_by z.usage) one ∙ t.3)

consistent : IsConsistent kinds d
consistent = record {
  once = record {
    comps = λ a b h i s. once_each (λ c. c.name) d.comps refl a b (has_from_contains d.comps a h) (has_from_contains d.comps b i) s;
    tops = λ p q h i s. once_each (λ p. p.name) d.pins refl p q (has_from_contains d.pins p h) (has_from_contains d.pins q i) s;
  };
  one_net = λ a k p n m h known pin on also. one_net_in d refl a.name p n m on also;
  supplies = one_value d refl;
}
