-- Which joints the statements of an issued design have.
use Rattle.std.proofs.Common.{◌≡◌, true, false, not, ◌&&◌, List, ◌++◌, map, sym, ap, ◌∙◌, filter}
use Rattle.std.specs.List.{list_any}
use Rattle.std.specs.Str.{bytes_eq}
use Rattle.std.proofs.lemmas.Bool.{and_parts, and_from, not-true, false_from_ne_true}
use Rattle.eco_def.specs.Named.{NamedJoint, NamedDesign}
use Rattle.eco_common.specs.Joints.{NewJoint}
use Rattle.eco_issued_laws.specs.Changes.{is_no_component, is_joint_of, stands, new_pins, pin_joint, pin_precedes}
use Rattle.eco_net.specs.Netlist.{Name}
use Rattle.eco_net.proofs.Basics.{Has, has_map, has_of_map}
use Rattle.eco_elaborate.specs.Netlists.{names_pin}
use Rattle.eco_elaborate.proofs.Names.{same_name, is_name}
use Rattle.eco_elaborate.proofs.Members.{any_has, of_filter, in_filter, of_order, to_order}
use Rattle.eco_elaborate.proofs.Joining.{IsFor}

-- ---- a joint that names a pin

pub names_parts : (c p : Name) (j : NamedJoint) → names_pin c p j ≡ true → (is_no_component j.comp ≡ false) × (c ≡ j.comp) × (p ≡ j.pin)
names_parts c p j e =
    let a = and_parts (not (is_no_component j.comp)) (bytes_eq c j.comp && bytes_eq p j.pin) e in
    let b = and_parts (bytes_eq c j.comp) (bytes_eq p j.pin) a.1 in
    (not-true (is_no_component j.comp) a.0, same_name c j.comp b.0, same_name p j.pin b.1)

-- a new joint that is of the pin names it, unless PIN or * stands in the component's place
pub names_new : (n : NewJoint) (c p : Name) → IsFor n c p → is_no_component n.comp ≡ false → names_pin c p (pin_joint n) ≡ true
names_new n c p f e =
    and_from (not (is_no_component n.comp)) (bytes_eq c n.comp && bytes_eq p n.pin) (ap not e) (and_from (bytes_eq c n.comp) (bytes_eq p n.pin) (is_name c n.comp (sym f.0)) (is_name p n.pin (sym f.1)))

-- the joints that are of a pin are those that name it
pub same_test : (n : NewJoint) (c p : Name) (j : NamedJoint) → IsFor n c p → is_joint_of n j ≡ names_pin c p j
same_test n c p j f = ap (λ z. not (is_no_component j.comp) && (bytes_eq z j.comp && bytes_eq n.pin j.pin)) f.0 ∙ ap (λ z. not (is_no_component j.comp) && (bytes_eq c j.comp && bytes_eq z j.pin)) f.1

-- where a joint is of what a new joint is of, the two are of one pin
pub of_both : (n : NewJoint) (c p : Name) (j : NamedJoint) → names_pin c p j ≡ true → is_joint_of n j ≡ true → IsFor n c p
of_both n c p j e f =
    let a = names_parts c p j e in
    let b = names_parts n.comp n.pin j f in
    (b.1 ∙ sym a.1, b.2 ∙ sym a.2)

-- ---- new pins

module _ (d : NamedDesign) (joints : List NewJoint) where
  of_new : (net : Name) (k : NamedJoint) → Has (new_pins d joints net) k → (n : NewJoint) × Has joints n × (pin_joint n ≡ k) × (n.net ≡ net)
  of_new net k h =
      let chosen = filter (λ n. bytes_eq n.net net && not (stands (d.special ++ d.nets) n)) joints in
      let r = has_of_map pin_joint chosen k (of_order pin_precedes (map pin_joint chosen) k h) in
      let s = of_filter (λ n. bytes_eq n.net net && not (stands (d.special ++ d.nets) n)) joints r.0 r.1 in
      (r.0, s.0, r.2, same_name r.0.net net (and_parts (bytes_eq r.0.net net) (not (stands (d.special ++ d.nets) r.0)) s.1).0)

  pub in_new : (net : Name) (n : NewJoint) → Has joints n → n.net ≡ net → stands (d.special ++ d.nets) n ≡ false → Has (new_pins d joints net) (pin_joint n)
  in_new net n h e f =
      let chosen = filter (λ n. bytes_eq n.net net && not (stands (d.special ++ d.nets) n)) joints in
      to_order pin_precedes (map pin_joint chosen) (pin_joint n)
      (has_map pin_joint chosen n (in_filter (λ n. bytes_eq n.net net && not (stands (d.special ++ d.nets) n)) joints n h (and_from (bytes_eq n.net net) (not (stands (d.special ++ d.nets) n)) (is_name n.net net e) (ap not f))))

  -- a pin is new to a net only by a joint that is of it
  pub of_new_named : (net c p : Name) → list_any (names_pin c p) (new_pins d joints net) ≡ true → (n : NewJoint) × Has joints n × (n.comp ≡ c) × (n.pin ≡ p) × (n.net ≡ net)
  of_new_named net c p e =
      let r = any_has (names_pin c p) (new_pins d joints net) e in
      let n = of_new net r.0 r.1 in
      let a = names_parts c p r.0 r.2 in
      (n.0, n.1, ap (λ z. z.comp) n.2 ∙ sym a.1, ap (λ z. z.pin) n.2 ∙ sym a.2, n.3)

  pub none_new : (net c p : Name) → ((n : NewJoint) → Has joints n → IsFor n c p → ⊥) → list_any (names_pin c p) (new_pins d joints net) ≡ false
  none_new net c p none = false_from_ne_true _ (λ e. let r = of_new_named net c p e in none r.0 r.1 (r.2, r.3))
