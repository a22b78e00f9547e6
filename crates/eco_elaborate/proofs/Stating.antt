-- The statements of a design in the order of its text, and the pins that they put on nets.
use Rattle.std.proofs.Common.{◌≡◌, ℕ, Bool, true, false, not, ◌&&◌, List, [], ◌∷◌, map, refl, sym, ap, ◌∙◌, subst, inl, inr, ⊎_elim, filter}
use Rattle.std.specs.List.{list_any, flat_map}
use Rattle.std.specs.Str.{bytes_eq}
use Rattle.std.proofs.lemmas.Bool.{cases_Bool, and_parts, and_from}
use Rattle.eco_def.specs.declared.design.NetStatement.{NetStatement}
use Rattle.eco_def.specs.declared.design.Design.{Design}
use Rattle.eco_def.specs.Named.{NamedJoint, NamedNet, net_names, names_of}
use Rattle.eco_def.specs.View.{net_in, design_in}
use Rattle.eco_common.specs.Joints.{NewJoint}
use Rattle.eco_issued_laws.specs.Changes.{is_no_component, is_joint_of, stands, statements}
use Rattle.eco_net.proofs.Basics.{Has, has_map, has_of_map, has_append_left, has_append_right}
use Rattle.eco_elaborate.specs.Stated.{named_net, named_nets, joint_on_net, stated_pins, all_pins_on}
use Rattle.eco_elaborate.proofs.Names.{same_name, is_name}
use Rattle.eco_elaborate.proofs.Members.{has_of_append, any_has, has_any, of_filter, in_filter}
use Rattle.eco_elaborate.proofs.Statements.{names_parts}

-- ---- both sections

of_section : (text : List ℕ) (test : NetStatement → Bool) (ss : List NetStatement) (z : NamedNet) → Has (map net_names (map (net_in text) (filter test ss))) z → Has (named_nets text ss) z
of_section text test ss z h =
    let m = has_of_map net_names (map (net_in text) (filter test ss)) z h in
    let s = has_of_map (net_in text) (filter test ss) m.0 m.1 in
    subst (Has (named_nets text ss)) (ap net_names s.2 ∙ m.2) (has_map (named_net text) ss s.0 (of_filter test ss s.0 s.1).0)

in_section : (text : List ℕ) (test : NetStatement → Bool) (ss : List NetStatement) (s : NetStatement) → Has ss s → test s ≡ true → Has (map net_names (map (net_in text) (filter test ss))) (named_net text s)
in_section text test ss s h e = has_map net_names (map (net_in text) (filter test ss)) (net_in text s) (has_map (net_in text) (filter test ss) s (in_filter test ss s h e))

module _ (text : List ℕ) (d : Design) where
  abbrev special : List NamedNet
  special = (names_of (design_in text d)).special

  abbrev ordinary : List NamedNet
  ordinary = (names_of (design_in text d)).nets

  pub to_text : (z : NamedNet) → Has (statements (names_of (design_in text d))) z → Has (named_nets text d.nets) z
  to_text z h = ⊎_elim (λ i. of_section text (λ s. s.special) d.nets z i) (λ i. of_section text (λ s. not s.special) d.nets z i) (has_of_append special ordinary z h)

  pub from_text : (z : NamedNet) → Has (named_nets text d.nets) z → Has (statements (names_of (design_in text d))) z
  from_text z h =
      let s = has_of_map (named_net text) d.nets z h in
      subst (Has (statements (names_of (design_in text d)))) s.2 (⊎_elim
      (λ t. has_append_left special ordinary (named_net text s.0) (in_section text (λ s. s.special) d.nets s.0 s.1 t))
      (λ f. has_append_right special ordinary (named_net text s.0) (in_section text (λ s. not s.special) d.nets s.0 s.1 (ap not f)))
      (cases_Bool s.0.special))

-- ---- lists made of lists

pub of_flat_map : {A B : Type 0} (f : A → List B) (xs : List A) (y : B) → Has (flat_map f xs) y → (x : A) × Has xs x × Has (f x) y
of_flat_map f [] y h = absurd h
of_flat_map f (x ∷ xs) y h = ⊎_elim (λ i. (x, inl refl, i)) (λ i. let r = of_flat_map f xs y i in (r.0, inr r.1, r.2)) (has_of_append (f x) (flat_map f xs) y h)

pub in_flat_map : {A B : Type 0} (f : A → List B) (xs : List A) (x : A) (y : B) → Has xs x → Has (f x) y → Has (flat_map f xs) y
in_flat_map f [] x y h i = absurd h
in_flat_map f (z ∷ zs) x y (inl e) i = has_append_left (f z) (flat_map f zs) y (subst (λ w. Has (f w) y) (sym e) i)
in_flat_map f (z ∷ zs) x y (inr h) i = has_append_right (f z) (flat_map f zs) y (in_flat_map f zs x y h i)

-- ---- pins on nets

-- a joint of a component's pin
pub of_pins : (s : NamedNet) (n : NewJoint) → Has (stated_pins s) n → (j : NamedJoint) × Has s.joints j × (is_no_component j.comp ≡ false) × (joint_on_net s.name j ≡ n)
of_pins s n h =
    let r = has_of_map (joint_on_net s.name) (filter (λ j. not (is_no_component j.comp)) s.joints) n h in
    let f = of_filter (λ j. not (is_no_component j.comp)) s.joints r.0 r.1 in
    (r.0, f.0, flip (is_no_component r.0.comp) f.1, r.2)
  where
    flip : (b : Bool) → not b ≡ true → b ≡ false
    flip true e = sym e
    flip false e = refl

pub in_pins : (s : NamedNet) (j : NamedJoint) → Has s.joints j → is_no_component j.comp ≡ false → Has (stated_pins s) (joint_on_net s.name j)
in_pins s j h e = has_map (joint_on_net s.name) (filter (λ j. not (is_no_component j.comp)) s.joints) j (in_filter (λ j. not (is_no_component j.comp)) s.joints j h (ap not e))

-- the pins that stand on their nets are those of the statements
pub pin_of_stands : (ss : List NamedNet) (n : NewJoint) → stands ss n ≡ true → Has (all_pins_on ss) n
pin_of_stands ss n e =
    let s = any_has (λ s. bytes_eq s.name n.net && list_any (is_joint_of n) s.joints) ss e in
    let a = and_parts (bytes_eq s.0.name n.net) (list_any (is_joint_of n) s.0.joints) s.2 in
    let j = any_has (is_joint_of n) s.0.joints a.1 in
    let b = names_parts n.comp n.pin j.0 j.2 in
    let net : s.0.name ≡ n.net = same_name s.0.name n.net a.0 in
    let same : joint_on_net s.0.name j.0 ≡ n = λ i. record { comp = sym b.1 i; pin = sym b.2 i; net = net i } in
    subst (Has (all_pins_on ss)) same (in_flat_map stated_pins ss s.0 (joint_on_net s.0.name j.0) s.1 (in_pins s.0 j.0 j.1 b.0))

pub stands_of_pin : (ss : List NamedNet) (n : NewJoint) → Has (all_pins_on ss) n → stands ss n ≡ true
stands_of_pin ss n h =
    let s = of_flat_map stated_pins ss n h in
    let j = of_pins s.0 n s.2 in
    subst (λ m. stands ss m ≡ true) j.3
    (has_any (λ t. bytes_eq t.name s.0.name && list_any (is_joint_of (joint_on_net s.0.name j.0)) t.joints) ss s.0 s.1
    (and_from (bytes_eq s.0.name s.0.name) (list_any (is_joint_of (joint_on_net s.0.name j.0)) s.0.joints) (is_name s.0.name s.0.name refl)
    (has_any (is_joint_of (joint_on_net s.0.name j.0)) s.0.joints j.0 j.1
    (and_from (not (is_no_component j.0.comp)) (bytes_eq j.0.comp j.0.comp && bytes_eq j.0.pin j.0.pin) (ap not j.2)
    (and_from (bytes_eq j.0.comp j.0.comp) (bytes_eq j.0.pin j.0.pin) (is_name j.0.comp j.0.comp refl) (is_name j.0.pin j.0.pin refl))))))

-- the same pins stand on nets by the same statements
pub same_pins : (ss ts : List NamedNet) → ((z : NamedNet) → Has ss z → Has ts z) → (n : NewJoint) → Has (all_pins_on ss) n → Has (all_pins_on ts) n
same_pins ss ts to n h = let s = of_flat_map stated_pins ss n h in in_flat_map stated_pins ts s.0 n (to s.0 s.1) s.2
