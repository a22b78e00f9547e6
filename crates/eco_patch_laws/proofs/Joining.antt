-- What putting pins on nets does to nets and components
use Rattle.std.proofs.Common.{◌≡◌, ◌≢◌, Bool, true, false, cond, List, [], ◌∷◌, ◌++◌, Option, Some, None, refl, sym, ap, ◌∙◌, inl, inr, ⊎_elim, ◌⊎◌}
use Rattle.std.specs.Option.{option_map}
use Rattle.std.specs.Ordering.{eq_by_cmp}
use Rattle.std.specs.FinMap.{FinMap, get, insert}
use Rattle.eco_net.specs.Netlist.{Name, name_cmp, Component}
use Rattle.eco_net.proofs.Basics.{Has, same_Some, same_name, same_of_cmp, cmp_itself, cmp_apart, get_same, get_other}
use Rattle.eco_common.specs.Joints.{NewJoint}
use Rattle.eco_net.specs.Joints.{with_nets, put_on, put_joints}

-- ---- nets

pub nets_other : (m : FinMap name_cmp (Option Bool)) (ns : List Name) (n : Name) → (Has ns n → ⊥) → get (with_nets m ns) n ≡ get m n
nets_other m [] n h = refl
nets_other m (x ∷ ns) n h = get_other (with_nets m ns) x None n (λ e. h (inl (sym e))) ∙ nets_other m ns n (λ i. h (inr i))

pub nets_new : (m : FinMap name_cmp (Option Bool)) (ns : List Name) (n : Name) → Has ns n → get (with_nets m ns) n ≡ Some None
nets_new m [] n h = absurd h
nets_new m (x ∷ ns) n h =
    ⊎_elim
    (λ e. ap (get (with_nets m (x ∷ ns))) e ∙ get_same (with_nets m ns) x None)
    (λ a. get_other (with_nets m ns) x None n a ∙ nets_new m ns n (⊎_elim (λ e. absurd (a (sym e))) (λ i. i) h))
    (same_name n x)

-- ---- one component's pins

-- a component's pins after the joints
abbrev pub rejoined : List NewJoint → Name → FinMap name_cmp Name → FinMap name_cmp Name
rejoined [] c m = m
rejoined (j ∷ js) c m = cond (eq_by_cmp name_cmp c j.comp) (insert (rejoined js c m) j.pin j.net) (rejoined js c m)

abbrev pub rejoin : List NewJoint → Name → Component → Component
rejoin js c x = record x { joined = rejoined js c x.joined }

pub rejoined_here : (j : NewJoint) (js : List NewJoint) (c : Name) (m : FinMap name_cmp Name) → c ≡ j.comp → rejoined (j ∷ js) c m ≡ insert (rejoined js c m) j.pin j.net
rejoined_here j js c m s = ap (λ b. cond b (insert (rejoined js c m) j.pin j.net) (rejoined js c m)) (ap (λ z. eq_by_cmp name_cmp z j.comp) s ∙ cmp_itself j.comp)

pub rejoined_there : (j : NewJoint) (js : List NewJoint) (c : Name) (m : FinMap name_cmp Name) → c ≢ j.comp → rejoined (j ∷ js) c m ≡ rejoined js c m
rejoined_there j js c m n = ap (λ b. cond b (insert (rejoined js c m) j.pin j.net) (rejoined js c m)) (cmp_apart c j.comp n)

pub rejoined_other : (js : List NewJoint) (c : Name) (m : FinMap name_cmp Name) → ((j : NewJoint) → Has js j → j.comp ≢ c) → rejoined js c m ≡ m
rejoined_other [] c m h = refl
rejoined_other (j ∷ js) c m h = rejoined_there j js c m (λ s. h j (inl refl) (sym s)) ∙ rejoined_other js c m (λ i k. h i (inr k))

pub rejoined_append : (js ks : List NewJoint) (c : Name) (m : FinMap name_cmp Name) → rejoined (js ++ ks) c m ≡ rejoined js c (rejoined ks c m)
rejoined_append [] ks c m = refl
rejoined_append (j ∷ js) ks c m = ap (λ r. cond (eq_by_cmp name_cmp c j.comp) (insert r j.pin j.net) r) (rejoined_append js ks c m)

-- a pin is on a net where it was, or by a joint
abbrev pub NewIn : Name → FinMap name_cmp Name → Name → Name → List NewJoint → Type 0
NewIn c m p n js = (get m p ≡ Some n) ⊎ ((j : NewJoint) × Has js j × (j.comp ≡ c) × (j.pin ≡ p) × (j.net ≡ n))

pub joined_new : (js : List NewJoint) (c : Name) (m : FinMap name_cmp Name) (p n : Name) → get (rejoined js c m) p ≡ Some n → NewIn c m p n js
joined_new [] c m p n e = inl e
joined_new (j ∷ js) c m p n e = go (joined_new js c m p n) (eq_by_cmp name_cmp c j.comp) refl e
  where
    later : NewIn c m p n js → NewIn c m p n (j ∷ js)
    later (inl f) = inl f
    later (inr k) = inr (k.0, inr k.1, k.2, k.3, k.4)

    go : (get (rejoined js c m) p ≡ Some n → NewIn c m p n js) → (b : Bool) → eq_by_cmp name_cmp c j.comp ≡ b → get (cond b (insert (rejoined js c m) j.pin j.net) (rejoined js c m)) p ≡ Some n → NewIn c m p n (j ∷ js)
    go rest false s f = later (rest f)
    go rest true s f =
        ⊎_elim
        (λ q. inr (j, inl refl, sym (same_of_cmp c j.comp s), sym q, same_Some (sym (get_same (rejoined js c m) j.pin j.net) ∙ ap (get (insert (rejoined js c m) j.pin j.net)) (sym q) ∙ f)))
        (λ a. later (rest (sym (get_other (rejoined js c m) j.pin j.net p a) ∙ f)))
        (same_name p j.pin)

-- a pin is where it was, or has a joint
abbrev pub OldIn : Name → FinMap name_cmp Name → Name → List NewJoint → FinMap name_cmp Name → Type 0
OldIn c m p js r = (get r p ≡ get m p) ⊎ ((j : NewJoint) × Has js j × (j.comp ≡ c) × (j.pin ≡ p))

pub joined_old : (js : List NewJoint) (c : Name) (m : FinMap name_cmp Name) (p : Name) → OldIn c m p js (rejoined js c m)
joined_old [] c m p = inl refl
joined_old (j ∷ js) c m p = go (joined_old js c m p) (eq_by_cmp name_cmp c j.comp) refl
  where
    go : OldIn c m p js (rejoined js c m) → (b : Bool) → eq_by_cmp name_cmp c j.comp ≡ b → OldIn c m p (j ∷ js) (cond b (insert (rejoined js c m) j.pin j.net) (rejoined js c m))
    go (inr k) b s = inr (k.0, inr k.1, k.2, k.3)
    go (inl f) false s = inl f
    go (inl f) true s =
        ⊎_elim
        (λ q. inr (j, inl refl, sym (same_of_cmp c j.comp s), sym q))
        (λ a. inl (get_other (rejoined js c m) j.pin j.net p a ∙ f))
        (same_name p j.pin)

-- ---- all components

put_else : (m : FinMap name_cmp Component) (j : NewJoint) (o : Option Component) (c : Name) → c ≢ j.comp → get (put_on m j o) c ≡ get m c
put_else m j None c n = refl
put_else m j (Some x) c n = get_other m j.comp (record x { joined = insert x.joined j.pin j.net }) c n

no_joints : (o : Option Component) (c : Name) → o ≡ option_map (rejoin [] c) o
no_joints None c = refl
no_joints (Some x) c = refl

module _ (B : FinMap name_cmp Component) (j : NewJoint) (js : List NewJoint) (c : Name) where
  one_here : c ≡ j.comp → (o : Option Component) → get B c ≡ option_map (rejoin js c) o → get (put_on B j (get B j.comp)) c ≡ option_map (rejoin (j ∷ js) c) o
  one_here s None rest =
      let f : get B j.comp ≡ None = ap (get B) (sym s) ∙ rest in
      ap (λ o. get (put_on B j o) c) f ∙ ap (get B) s ∙ f
  one_here s (Some x) rest =
      let z : Component = rejoin js c x in
      let w : Component = record z { joined = insert z.joined j.pin j.net } in
      let f : get B j.comp ≡ Some z = ap (get B) (sym s) ∙ rest in
      ap (λ o. get (put_on B j o) c) f
      ∙ ap (get (insert B j.comp w)) s
      ∙ get_same B j.comp w
      ∙ ap (λ r. Some (record x { joined = r })) (sym (rejoined_here j js c x.joined s))

  one_there : c ≢ j.comp → (o : Option Component) → get B c ≡ option_map (rejoin js c) o → get (put_on B j (get B j.comp)) c ≡ option_map (rejoin (j ∷ js) c) o
  one_there n None rest = put_else B j (get B j.comp) c n ∙ rest
  one_there n (Some x) rest = put_else B j (get B j.comp) c n ∙ rest ∙ ap (λ r. Some (record x { joined = r })) (sym (rejoined_there j js c x.joined n))

-- each component with its own pins after the joints
pub comps_joined : (A : FinMap name_cmp Component) (js : List NewJoint) (c : Name) → get (put_joints A js) c ≡ option_map (rejoin js c) (get A c)
comps_joined A [] c = no_joints (get A c) c
comps_joined A (j ∷ js) c =
    ⊎_elim
    (λ s. one_here (put_joints A js) j js c s (get A c) (comps_joined A js c))
    (λ n. one_there (put_joints A js) j js c n (get A c) (comps_joined A js c))
    (same_name c j.comp)

pub joined_some : (A : FinMap name_cmp Component) (js : List NewJoint) (c : Name) (x : Component) → get A c ≡ Some x → get (put_joints A js) c ≡ Some (rejoin js c x)
joined_some A js c x e = comps_joined A js c ∙ ap (option_map (rejoin js c)) e

pub joined_none : (A : FinMap name_cmp Component) (js : List NewJoint) (c : Name) → get A c ≡ None → get (put_joints A js) c ≡ None
joined_none A js c e = comps_joined A js c ∙ ap (option_map (rejoin js c)) e

pub joined_back : (A : FinMap name_cmp Component) (js : List NewJoint) (c : Name) (y : Component) → get (put_joints A js) c ≡ Some y → (x : Component) × (get A c ≡ Some x) × (rejoin js c x ≡ y)
joined_back A js c y e = go (get A c) (sym (comps_joined A js c) ∙ e) refl
  where
    go : (o : Option Component) → option_map (rejoin js c) o ≡ Some y → get A c ≡ o → (x : Component) × (get A c ≡ Some x) × (rejoin js c x ≡ y)
    go None f g = cc
    go (Some x) f g = (x, g, same_Some f)

-- where two maps have the same component, and the joints of the second are those of the first
pub joined_same : (A B : FinMap name_cmp Component) (js : List NewJoint) (c : Name) → get A c ≡ get B c → get (put_joints A js) c ≡ get (put_joints B js) c
joined_same A B js c e = comps_joined A js c ∙ ap (option_map (rejoin js c)) e ∙ sym (comps_joined B js c)

pub joined_not : (A : FinMap name_cmp Component) (js : List NewJoint) (c : Name) → ((j : NewJoint) → Has js j → j.comp ≢ c) → get (put_joints A js) c ≡ get A c
joined_not A js c h = comps_joined A js c ∙ go (get A c)
  where
    go : (o : Option Component) → option_map (rejoin js c) o ≡ o
    go None = refl
    go (Some x) = ap (λ r. Some (record x { joined = r })) (rejoined_other js c x.joined h)

-- joints of other components change nothing
pub joined_left : (A : FinMap name_cmp Component) (js ks : List NewJoint) (c : Name) → ((j : NewJoint) → Has ks j → j.comp ≢ c) → get (put_joints A (js ++ ks)) c ≡ get (put_joints A js) c
joined_left A js ks c h = comps_joined A (js ++ ks) c ∙ go (get A c) ∙ sym (comps_joined A js c)
  where
    go : (o : Option Component) → option_map (rejoin (js ++ ks) c) o ≡ option_map (rejoin js c) o
    go None = refl
    go (Some x) = ap (λ r. Some (record x { joined = r })) (rejoined_append js ks c x.joined ∙ ap (rejoined js c) (rejoined_other ks c x.joined h))
