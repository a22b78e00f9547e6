-- Where pins are after joints, and joints after joints
use Rattle.std.proofs.Common.{◌≡◌, ◌≢◌, Bool, true, false, ◌&&◌, List, [], ◌∷◌, ◌++◌, map, Option, Some, None, refl, sym, ap, ap₂, ◌∙◌, subst, inl, inr, ⊎_elim, true≢false, append_assoc, append-nil}
use Rattle.std.specs.Option.{option_map}
use Rattle.std.specs.List.{Contains, IsDistinct, AllByRecursion, zip}
use Rattle.std.specs.Ordering.{eq_by_cmp}
use Rattle.std.specs.FinMap.{FinMap, get, insert}
use Rattle.eco_net.specs.Netlist.{Name, name_cmp, Netlist, Component, Pin, TopPin, CompPin}
use Rattle.eco_net.specs.Drivers.{net_of, joined_at}
use Rattle.eco_net.proofs.Basics.{Has, same_Some, same_name, cmp_itself, get_same, get_other, contains_from_has, has_from_contains}
use Rattle.eco_patch_laws.specs.Orders.{PatchGate, Placement}
use Rattle.eco_common.specs.Joints.{NewJoint}
use Rattle.eco_net.specs.Joints.{put_on, put_joints, with_nets, with_joints, frame, same_pin, CanTake}
use Rattle.eco_patch_laws.specs.Insertion.{move_joint}
use Rattle.eco_patch_laws.specs.Realisation.{spare_joints, all_spare_joints, patch_joints, realised}
use Rattle.eco_net.specs.Bases.{Base}
use Rattle.eco_patch_laws.specs.Live.{Commit, live_joints, live_nets, realised_all, concrete}
use Rattle.eco_patch_laws.proofs.Joining.{rejoin, rejoined, rejoined_here, rejoined_there, joined_old, comps_joined, joined_some, nets_new, nets_other}

-- ---- pins

same_as : (j k : NewJoint) → j.comp ≡ k.comp → j.pin ≡ k.pin → same_pin j k ≡ true
same_as j k c p = ap₂ (λ a b. a && b) (ap (eq_by_cmp name_cmp j.comp) (sym c) ∙ cmp_itself j.comp) (ap (eq_by_cmp name_cmp j.pin) (sym p) ∙ cmp_itself j.pin)

not_again : (k j : NewJoint) (js : List NewJoint) → AllByRecursion (λ i. same_pin k i ≡ false) js → Has js j → same_pin k j ≡ false
not_again k j [] a h = absurd h
not_again k j (i ∷ js) a (inl e) = subst (λ z. same_pin k z ≡ false) e a.0
not_again k j (i ∷ js) a (inr h) = not_again k j js a.1 h

pub its_net : (js : List NewJoint) (m : FinMap name_cmp Name) (j : NewJoint) → IsDistinct same_pin js → Has js j → get (rejoined js j.comp m) j.pin ≡ Some j.net
unfolding IsDistinct
its_net [] m j d h = absurd h
its_net (k ∷ js) m j d (inl e) =
    subst (λ z. get (rejoined (k ∷ js) z.comp m) z.pin ≡ Some z.net) e
    (ap (λ r. get r k.pin) (rejoined_here k js k.comp m refl) ∙ get_same (rejoined js k.comp m) k.pin k.net)
its_net (k ∷ js) m j d (inr h) =
    ⊎_elim
    (λ s.
    ap (λ r. get r j.pin) (rejoined_here k js j.comp m s)
    ∙ get_other (rejoined js j.comp m) k.pin k.net j.pin (λ t. true≢false (sym (same_as k j (sym s) (sym t)) ∙ not_again k j js d.0 h))
    ∙ its_net js m j d.1 h)
    (λ n. ap (λ r. get r j.pin) (rejoined_there k js j.comp m n) ∙ its_net js m j d.1 h)
    (same_name j.comp k.comp)

pub joints_join : (N : Netlist) (joints : List NewJoint) (nets : List Name) → CanTake N nets joints → (j : NewJoint) → Contains joints j → net_of (with_joints N joints nets) (CompPin j.comp j.pin) ≡ Some j.net
joints_join N joints nets t j c =
    let x = t.pins j c in
    ap (λ o. joined_at o j.pin) (joined_some N.comps joints j.comp x.0 x.1) ∙ its_net joints x.0.joined j t.once (has_from_contains joints j c)

pub other_pins_stay : (N : Netlist) (joints : List NewJoint) (nets : List Name) (p : Pin) → ((j : NewJoint) → Contains joints j → p ≢ CompPin j.comp j.pin) → net_of (with_joints N joints nets) p ≡ net_of N p
other_pins_stay N joints nets (TopPin t) h = refl
other_pins_stay N joints nets (CompPin c p) h = ap (λ o. joined_at o p) (comps_joined N.comps joints c) ∙ go (get N.comps c)
  where
    go : (o : Option Component) → joined_at (option_map (rejoin joints c) o) p ≡ joined_at o p
    go None = refl
    go (Some x) = ⊎_elim (λ e. e) (λ j. absurd (h j.0 (contains_from_has joints j.0 j.1) (ap₂ CompPin (sym j.2) (sym j.3)))) (joined_old joints c x.joined p)

pub components_stay : (N : Netlist) (joints : List NewJoint) (nets : List Name) (c : Name) → option_map frame (get (with_joints N joints nets).comps c) ≡ option_map frame (get N.comps c)
components_stay N joints nets c = ap (option_map frame) (comps_joined N.comps joints c) ∙ go (get N.comps c)
  where
    go : (o : Option Component) → option_map frame (option_map (rejoin joints c) o) ≡ option_map frame o
    go None = refl
    go (Some x) = refl

pub nets_join : (N : Netlist) (joints : List NewJoint) (nets : List Name) (n : Name) → Contains nets n → get (with_joints N joints nets).nets n ≡ Some None
nets_join N joints nets n c = nets_new N.nets nets n (has_from_contains nets n c)

pub other_nets_stay : (N : Netlist) (joints : List NewJoint) (nets : List Name) (n : Name) → (Contains nets n → ⊥) → get (with_joints N joints nets).nets n ≡ get N.nets n
other_nets_stay N joints nets n h = nets_other N.nets nets n (λ i. h (contains_from_has nets n i))

-- ---- joints after joints

put_twice : (A : FinMap name_cmp Component) (js ks : List NewJoint) → put_joints (put_joints A ks) js ≡ put_joints A (js ++ ks)
put_twice A [] ks = refl
put_twice A (j ∷ js) ks = ap (λ m. put_on m j (get m j.comp)) (put_twice A js ks)

pub add_twice : (m : FinMap name_cmp (Option Bool)) (ns ms : List Name) → with_nets (with_nets m ms) ns ≡ with_nets m (ns ++ ms)
add_twice m [] ms = refl
add_twice m (n ∷ ns) ms = ap (λ z. insert z n None) (add_twice m ns ms)

joints_twice : (N : Netlist) (js ks : List NewJoint) (ns ms : List Name) → with_joints (with_joints N ks ms) js ns ≡ with_joints N (js ++ ks) (ns ++ ms)
joints_twice N js ks ns ms = λ i. record N { nets = add_twice N.nets ns ms i; comps = put_twice N.comps js ks i }

-- a spare's joints rest on its kind alone
kind_joints : (low high : Name) (g : PatchGate) (p : Placement) (o q : Option Component) → option_map frame o ≡ option_map frame q → spare_joints low high g p o ≡ spare_joints low high g p q
kind_joints low high g p None None e = refl
kind_joints low high g p None (Some y) e = cc
kind_joints low high g p (Some x) None e = cc
kind_joints low high g p (Some x) (Some y) e = ap (λ k. spare_joints low high g p (Some (record x { kind = k }))) (same_kind e)
  where
    same_kind : Some (frame x) ≡ Some (frame y) → x.kind ≡ y.kind
    same_kind e = ap (λ f. f.0) (same_Some e)

same_spares : (low high : Name) (N M : Netlist) → ((c : Name) → option_map frame (get M.comps c) ≡ option_map frame (get N.comps c)) → (es : List (PatchGate × Placement)) → all_spare_joints low high M es ≡ all_spare_joints low high N es
same_spares low high N M h [] = refl
same_spares low high N M h (e ∷ es) = ap₂ {C = List NewJoint} (λ xs ys. xs ++ ys) (kind_joints low high e.0 e.1 (get M.comps e.1.spare) (get N.comps e.1.spare) (h e.1.spare)) (same_spares low high N M h es)

module _ (base : Base) where
  one_more : (js : List NewJoint) (ns : List Name) (c : Commit) → realised base.low base.high (with_joints base.full js ns) c.order c.placements ≡ with_joints base.full (patch_joints base.low base.high base.full c.order c.placements ++ js) (c.order.nets ++ ns)
  one_more js ns c =
      ap (λ ks. with_joints (with_joints base.full js ns) (map move_joint c.order.moves ++ ks) c.order.nets)
      (same_spares base.low base.high base.full (with_joints base.full js ns) (components_stay base.full js ns) (zip c.order.gates c.placements))
      ∙ joints_twice base.full (patch_joints base.low base.high base.full c.order c.placements) js c.order.nets ns

  all_more : (live : List Commit) (js : List NewJoint) (ns : List Name) → realised_all base (with_joints base.full js ns) live ≡ with_joints base.full (live_joints base live ++ js) (live_nets live ++ ns)
  all_more [] js ns = refl
  all_more (c ∷ cs) js ns =
      ap (λ M. realised_all base M cs) (one_more js ns c)
      ∙ all_more cs (patch_joints base.low base.high base.full c.order c.placements ++ js) (c.order.nets ++ ns)
      ∙ ap₂ (with_joints base.full) (sym (append_assoc (live_joints base cs) (patch_joints base.low base.high base.full c.order c.placements) js)) (sym (append_assoc (live_nets cs) c.order.nets ns))

  pub concrete_is : (live : List Commit) → concrete base live ≡ with_joints base.full (live_joints base live) (live_nets live)
  concrete_is live = all_more live [] [] ∙ ap₂ (with_joints base.full) (append-nil (live_joints base live)) (append-nil (live_nets live))
