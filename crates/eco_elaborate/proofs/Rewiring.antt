-- What with_joints gives, and that nothing else is.
use Rattle.std.proofs.Common.{Bool, ◌∷◌, [], ◌≡◌, true, false, cond, ◌&&◌, List, Option, Some, None, refl, sym, ap, ◌∙◌, subst, inl, inr, ⊎_elim, ◌⊎◌, true≢false}
use Rattle.std.specs.List.{list_any, Contains, IsDistinct, AllByRecursion}
use Rattle.std.specs.Option.{option_map}
use Rattle.std.specs.Str.{bytes_eq}
use Rattle.std.specs.Cmp.Lexicographic.{nat_list_cmp_total}
use Rattle.std.specs.FinMap.{get, same_map}
use Rattle.std.proofs.lemmas.Bool.{cases_Bool, and_from, false_from_ne_true}
use Rattle.std.proofs.lemmas.Map.Lookups.{exact_bytes}
use Rattle.eco_common.specs.Joints.{NewJoint}
use Rattle.eco_net.specs.Netlist.{Name, Component, Netlist, CompPin}
use Rattle.eco_net.specs.Drivers.{net_of, joined_at}
use Rattle.eco_net.proofs.Basics.{Has, contains_from_has, has_from_contains, same_Some, not_None}
use Rattle.eco_net.specs.Joints.{with_joints, frame, IsRewired, OneNetEach}
use Rattle.eco_elaborate.specs.Laws.{ApartIs, RewiredIs}
use Rattle.eco_elaborate.proofs.Names.{same_name, is_name}
use Rattle.eco_elaborate.proofs.Members.{any_has, has_any}
use Rattle.eco_elaborate.proofs.Lookups.{same_netlist}
use Rattle.eco_elaborate.proofs.Joining.{for_some, new_nets, each_pin, with_pins, gets_joined, stays_joined}

-- whether a name is among these
pub among : (ns : List Name) (n : Name) → (Has ns n × (list_any (λ m. bytes_eq m n) ns ≡ true)) ⊎ ((Has ns n → ⊥) × (list_any (λ m. bytes_eq m n) ns ≡ false))
among ns n = ⊎_elim
    (λ t. let r = any_has (λ m. bytes_eq m n) ns t in inl (subst (Has ns) (same_name r.0 n r.2) r.1, t))
    (λ f. inr (λ h. true≢false (sym (has_any (λ m. bytes_eq m n) ns n h (is_name n n refl)) ∙ f), f))
    (cases_Bool (list_any (λ m. bytes_eq m n) ns))

module _ (N : Netlist) (joints : List NewJoint) (new : List Name) (one : OneNetEach joints) where
  one_net : (j k : NewJoint) → Has joints j → Has joints k → j.comp ≡ k.comp → j.pin ≡ k.pin → j.net ≡ k.net
  one_net j k h i e f = one j k (contains_from_has joints j h) (contains_from_has joints k i) e f

  -- ---- with_joints gives what it says

  module _ (on_comps : (j : NewJoint) → Contains joints j → (x : Component) × (get N.comps j.comp ≡ Some x)) where
    its_net : (j : NewJoint) → Contains joints j → net_of (with_joints N joints new) (CompPin j.comp j.pin) ≡ Some j.net
    its_net j h =
        let x = on_comps j h in
        ap (λ o. joined_at o j.pin) (each_pin N.comps joints j.comp ∙ ap (option_map (with_pins joints j.comp)) x.1)
        ∙ gets_joined joints x.0.joined j.comp j.pin j.net (λ k i f. one_net k j i (has_from_contains joints j h) f.0 f.1) j (has_from_contains joints j h) (refl, refl)

    its_kept : (c p : Name) → ((j : NewJoint) → Contains joints j → j.comp ≡ c → j.pin ≡ p → ⊥) → net_of (with_joints N joints new) (CompPin c p) ≡ net_of N (CompPin c p)
    its_kept c p none = ap (λ o. joined_at o p) (each_pin N.comps joints c) ∙ go (get N.comps c)
      where
        go : (o : Option Component) → joined_at (option_map (with_pins joints c) o) p ≡ joined_at o p
        go None = refl
        go (Some x) = stays_joined joints x.joined c p (λ j h f. none j (contains_from_has joints j h) f.0 f.1)

    its_frames : (c : Name) → option_map frame (get (with_joints N joints new).comps c) ≡ option_map frame (get N.comps c)
    its_frames c = ap (option_map frame) (each_pin N.comps joints c) ∙ go (get N.comps c)
      where
        go : (o : Option Component) → option_map frame (option_map (with_pins joints c) o) ≡ option_map frame o
        go None = refl
        go (Some x) = refl

    pub its_wires : IsRewired N joints new (with_joints N joints new)
    its_wires = record {
      new_nets = λ n h.
          new_nets N.nets new n ∙ ap (λ b. cond b (Some None) (get N.nets n)) (has_any (λ m. bytes_eq m n) new n (has_from_contains new n h) (is_name n n refl));
      old_nets = λ n none.
          new_nets N.nets new n ∙ ap (λ b. cond b (Some None) (get N.nets n)) (false_from_ne_true _ (λ t. let r = any_has (λ m. bytes_eq m n) new t in none (contains_from_has new n (subst (Has new) (same_name r.0 n r.2) r.1))));
      put = its_net;
      kept = its_kept;
      frames = its_frames;
      tops = refl;
      ties = refl;
      reserved = refl;
    }

  -- ---- and nothing else is

  module _ (L M : Netlist) (l : IsRewired N joints new L) (m : IsRewired N joints new M) where
    nets_alike : (n : Name) → get L.nets n ≡ get M.nets n
    nets_alike n = ⊎_elim
        (λ r. let h = contains_from_has new n r.0 in l.new_nets n h ∙ sym (m.new_nets n h))
        (λ r. let none : Contains new n → ⊥ = λ h. r.0 (has_from_contains new n h) in l.old_nets n none ∙ sym (m.old_nets n none))
        (among new n)

    pins_alike : (c p : Name) → net_of L (CompPin c p) ≡ net_of M (CompPin c p)
    pins_alike c p = ⊎_elim
        (λ r.
        let h = contains_from_has joints r.0 r.1 in
        let at : net_of L (CompPin r.0.comp r.0.pin) ≡ net_of M (CompPin r.0.comp r.0.pin) = l.put r.0 h ∙ sym (m.put r.0 h) in
        subst (λ z. net_of L (CompPin z p) ≡ net_of M (CompPin z p)) r.2 (subst (λ z. net_of L (CompPin r.0.comp z) ≡ net_of M (CompPin r.0.comp z)) r.3 at))
        (λ none.
        let apart : (j : NewJoint) → Contains joints j → j.comp ≡ c → j.pin ≡ p → ⊥ = λ j h e f. none j (has_from_contains joints j h) (e, f) in
        l.kept c p apart ∙ sym (m.kept c p apart))
        (for_some joints c p)

    comps_alike : (c : Name) → get L.comps c ≡ get M.comps c
    comps_alike c = go (get L.comps c) (get M.comps c) (l.frames c ∙ sym (m.frames c)) (pins_alike c)
      where
        go : (o p : Option Component) → option_map frame o ≡ option_map frame p → ((q : Name) → joined_at o q ≡ joined_at p q) → o ≡ p
        go None None e f = refl
        go None (Some y) e f = absurd (not_None (sym e))
        go (Some x) None e f = absurd (not_None e)
        go (Some x) (Some y) e f =
            let both = same_Some e in
            let joined : x.joined ≡ y.joined = same_map nat_list_cmp_total exact_bytes _ _ f in
            λ i. Some (record { kind = (both i).0; place = (both i).1; joined = joined i })

    pub wires_alike : L ≡ M
    wires_alike = same_netlist L M nets_alike comps_alike (λ t. ap (λ z. get z t) (l.tops ∙ sym m.tops)) (l.ties ∙ sym m.ties) (l.reserved ∙ sym m.reserved)

pub rewired_is : RewiredIs
rewired_is N joints new on_comps one M =
    let w = its_wires N joints new one on_comps in
    (λ m. wires_alike N joints new one M (with_joints N joints new) m w, λ e. subst (IsRewired N joints new) (sym e) w)

-- ---- joints of distinct pins

abbrev same_pin : NewJoint → NewJoint → Bool
same_pin j k = bytes_eq j.comp k.comp && bytes_eq j.pin k.pin

none_after : (j : NewJoint) (ks : List NewJoint) (k : NewJoint) → AllByRecursion (λ k. same_pin j k ≡ false) ks → Has ks k → same_pin j k ≡ false
none_after j (y ∷ ks) k all (inl s) = ap (same_pin j) (sym s) ∙ all.0
none_after j (y ∷ ks) k all (inr h) = none_after j ks k all.1 h
none_after j [] k all h = absurd h

one_joint : (js : List NewJoint) → IsDistinct same_pin js → (j k : NewJoint) → Has js j → Has js k → j.comp ≡ k.comp → j.pin ≡ k.pin → j ≡ k
unfolding IsDistinct
one_joint [] apart j k h i e f = absurd h
one_joint (x ∷ js) apart j k (inl s) (inl t) e f = sym s ∙ t
one_joint (x ∷ js) apart j k (inl s) (inr i) e f = absurd (true≢false (sym (and_from (bytes_eq x.comp k.comp) (bytes_eq x.pin k.pin) (is_name x.comp k.comp (ap (λ z. z.comp) s ∙ e)) (is_name x.pin k.pin (ap (λ z. z.pin) s ∙ f))) ∙ none_after x js k apart.0 i))
one_joint (x ∷ js) apart j k (inr h) (inl t) e f = absurd (true≢false (sym (and_from (bytes_eq x.comp j.comp) (bytes_eq x.pin j.pin) (is_name x.comp j.comp (ap (λ z. z.comp) t ∙ sym e)) (is_name x.pin j.pin (ap (λ z. z.pin) t ∙ sym f))) ∙ none_after x js j apart.0 h))
one_joint (x ∷ js) apart j k (inr h) (inr i) e f = one_joint js apart.1 j k h i e f

pub apart_is : ApartIs
apart_is joints apart j k h i e f = ap (λ z. z.net) (one_joint joints apart j k (has_from_contains joints j h) (has_from_contains joints k i) e f)
