-- The nets and the joints of all live orders
use Rattle.std.proofs.Common.{◌≡◌, List, [], ◌∷◌, ◌++◌, Some, None, refl, sym, ap, ◌∙◌, subst, inl, inr, ⊎_elim, ◌⊎◌, append_assoc, append-nil}
use Rattle.std.specs.List.{Contains, IsDistinct}
use Rattle.std.specs.Ordering.{eq_by_cmp}
use Rattle.std.specs.FinMap.{get}
use Rattle.eco_net.specs.Netlist.{Name, name_cmp, Netlist, Component, IsNet, IsPin}
use Rattle.eco_net.proofs.Basics.{Has, not_None, same_name, cmp_apart, contains_from_has, has_from_contains, has_append_left, has_append_right}
use Rattle.eco_common.specs.Joints.{NewJoint}
use Rattle.eco_net.specs.Joints.{with_nets, first_each, CanTake}
use Rattle.eco_patch_laws.specs.Realisation.{patch_joints}
use Rattle.eco_net.specs.Bases.{Base, IsBase, bare}
use Rattle.eco_patch_laws.specs.Rules.{Names, PinsAreKnown}
use Rattle.eco_patch_laws.specs.Live.{Commit, with_commit, KeepInTurn, AreLive, live_joints, live_nets}
use Rattle.eco_patch_laws.proofs.Names.{has_of_append}
use Rattle.eco_patch_laws.proofs.Joining.{nets_new, nets_other}
use Rattle.eco_patch_laws.proofs.Pins.{add_twice}
use Rattle.eco_patch_laws.proofs.Firsts.{firsts_once, firsts_among}
use Rattle.eco_patch_laws.proofs.Taking.{distinct_append, all_taken, low_net, high_net}

-- whether a name stands in a list
has_name : (ns : List Name) (n : Name) → Has ns n ⊎ (Has ns n → ⊥)
has_name [] n = inr (λ h. h)
has_name (m ∷ ns) n = ⊎_elim (λ e. inl (inl e)) (λ a. ⊎_elim (λ h. inl (inr h)) (λ b. inr (λ h. ⊎_elim (λ e. a e) (λ i. b i) h)) (has_name ns n)) (same_name m n)

module _ (base : Base) where
  -- the nets of the base with these
  abbrev AreNets : Netlist → List Name → Type 0
  AreNets N ns = N.nets ≡ with_nets base.full.nets ns

  nets_after : (N : Netlist) (ns : List Name) (c : Commit) → AreNets N ns → AreNets (with_commit base N c) (c.order.nets ++ ns)
  nets_after N ns c e = ap (λ m. with_nets m c.order.nets) e ∙ add_twice base.full.nets c.order.nets ns

  -- what is no net after some orders is none of the base and no new one
  none_before : (N : Netlist) (ns : List Name) (n : Name) → AreNets N ns → get N.nets n ≡ None → (Has ns n → ⊥) × (get base.full.nets n ≡ None)
  none_before N ns n e f =
      let off : Has ns n → ⊥ = λ h. not_None (sym (nets_new base.full.nets ns n h) ∙ sym (ap (λ m. get m n) e) ∙ f) in
      (off, sym (nets_other base.full.nets ns n off) ∙ sym (ap (λ m. get m n) e) ∙ f)

  abbrev AreNew : List Name → Type 0
  AreNew ns = IsDistinct (eq_by_cmp name_cmp) ns × ((n : Name) → Has ns n → get base.full.nets n ≡ None)

  new_after : (live : List Commit) (N : Netlist) (ns : List Name) → AreNets N ns → KeepInTurn base N live → AreNew ns → AreNew (live_nets live ++ ns)
  new_after [] N ns e keep new = new
  new_after (c ∷ cs) N ns e keep new =
      let before : (n : Name) → Has c.order.nets n → (Has ns n → ⊥) × (get base.full.nets n ≡ None) = λ n h. none_before N ns n e (keep.0.nets_new n (contains_from_has c.order.nets n h)) in
      let both : AreNew (c.order.nets ++ ns) = (
        distinct_append (eq_by_cmp name_cmp) c.order.nets ns keep.0.once.nets new.0 (λ n m h i. cmp_apart n m (λ s. (before n h).0 (subst (Has ns) (sym s) i))),
        λ n h. ⊎_elim (λ i. (before n i).1) (λ i. new.1 n i) (has_of_append c.order.nets ns n h),
      ) in
      subst AreNew (sym (append_assoc (live_nets cs) c.order.nets ns)) (new_after cs (with_commit base N c) (c.order.nets ++ ns) (nets_after N ns c e) keep.1 both)

  pub live_nets_new : (live : List Commit) → AreLive base live → IsDistinct (eq_by_cmp name_cmp) (live_nets live) × ((n : Name) → Contains (live_nets live) n → get base.full.nets n ≡ None)
  unfolding IsDistinct
  live_nets_new live a =
      let r : AreNew (live_nets live) = subst AreNew (append-nil (live_nets live)) (new_after live (bare base) [] refl a.keep (tt, λ n h. absurd h)) in
      (r.0, λ n c. r.1 n (has_from_contains (live_nets live) n c))

  -- ---- names that orders use

  abbrev IsKnown : List Name → Name → Type 0
  IsKnown ns n = IsNet base.full n ⊎ Has ns n

  known_before : (N : Netlist) (ns : List Name) (n : Name) → AreNets N ns → IsNet N n → IsKnown ns n
  known_before N ns n e i = ⊎_elim
      (λ h. inr h)
      (λ a. inl (i.0, sym (nets_other base.full.nets ns n a) ∙ sym (ap (λ m. get m n) e) ∙ i.1))
      (has_name ns n)

  known_in : (live : List Commit) (N : Netlist) (ns : List Name) → AreNets N ns → KeepInTurn base N live → (c : Commit) → Has live c → ((n : Name) → Names c.order n → IsKnown (live_nets live ++ ns) n) × PinsAreKnown (bare base) c.order
  known_in [] N ns e keep c h = absurd h
  known_in (d ∷ cs) N ns e keep c (inl s) =
      subst (λ z. ((n : Name) → Names z.order n → IsKnown (live_nets (d ∷ cs) ++ ns) n) × PinsAreKnown (bare base) z.order) s (
        λ n u. ⊎_elim
            (λ i. ⊎_elim (λ k. inl k) (λ h. inr (has_append_right (live_nets (d ∷ cs)) ns n h)) (known_before N ns n e i))
            (λ k. inr (has_append_left (live_nets (d ∷ cs)) ns n (has_append_right (live_nets cs) d.order.nets n (has_from_contains d.order.nets n k))))
            (keep.0.nets_known n u),
        keep.0.pins_known,
      )
  known_in (d ∷ cs) N ns e keep c (inr h) =
      let r = known_in cs (with_commit base N d) (d.order.nets ++ ns) (nets_after N ns d e) keep.1 c h in
      (λ n u. subst (λ z. IsKnown z n) (sym (append_assoc (live_nets cs) d.order.nets ns)) (r.0 n u), r.1)

  -- ---- joints

  joint_of : (live : List Commit) (j : NewJoint) → Has (live_joints base live) j → (c : Commit) × Has live c × Has (patch_joints base.low base.high base.full c.order c.placements) j
  joint_of [] j h = absurd h
  joint_of (c ∷ cs) j h = ⊎_elim
      (λ i. let r = joint_of cs j i in (r.0, inr r.1, r.2))
      (λ i. (c, inl refl, i))
      (has_of_append (live_joints base cs) (patch_joints base.low base.high base.full c.order c.placements) j h)

  live_taken : (is : IsBase base) (live : List Commit) → AreLive base live → (j : NewJoint) → Has (live_joints base live) j → ((x : Component) × (get base.full.comps j.comp ≡ Some x) × IsPin x j.pin) × (IsNet base.full j.net ⊎ Contains (live_nets live) j.net)
  live_taken is live a j h =
      let r = joint_of live j h in
      let k = known_in live (bare base) [] refl a.keep r.0 r.1 in
      all_taken base is r.0.order r.0.placements (a.mapped r.0 (contains_from_has live r.0 r.1)) k.1
      (λ n. IsNet base.full n ⊎ Contains (live_nets live) n)
      (inl (low_net base is))
      (inl (high_net base is))
      (λ n u. ⊎_elim (λ i. inl i) (λ i. inr (contains_from_has (live_nets live) n (subst (λ z. Has z n) (append-nil (live_nets live)) i))) (k.0 n u))
      j (contains_from_has (patch_joints base.low base.high base.full r.0.order r.0.placements) j r.2)

  pub base_takes_live : (live : List Commit) → IsBase base → AreLive base live → CanTake base.full (live_nets live) (first_each (live_joints base live))
  base_takes_live live is a =
      let taken : (j : NewJoint) → Contains (first_each (live_joints base live)) j → ((x : Component) × (get base.full.comps j.comp ≡ Some x) × IsPin x j.pin) × (IsNet base.full j.net ⊎ Contains (live_nets live) j.net) =
      λ j c. live_taken is live a j (firsts_among (live_joints base live) j (has_from_contains (first_each (live_joints base live)) j c)) in
      record { once = firsts_once (live_joints base live); pins = λ j c. (taken j c).0; nets_known = λ j c. (taken j c).1 }
