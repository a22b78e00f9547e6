-- The net that a pin is on in an issued design: by its joint where it has one, and else its net before.
use Rattle.std.proofs.Common.{◌≡◌, Bool, true, false, cond, not, ◌&&◌, ◌||◌, List, [], ◌∷◌, ◌++◌, map, Option, Some, None, refl, sym, ap, ◌∙◌, subst, inl, inr, ⊎_elim, ◌⊎◌, true≢false, filter, if◌then◌else◌}
use Rattle.std.specs.List.{list_any, find}
use Rattle.std.specs.Option.{option_map, option_or}
use Rattle.std.specs.Str.{bytes_eq}
use Rattle.std.proofs.lemmas.Bool.{cases_Bool, and_parts, and_from, or_cases, or_from, or_left, or_right, false_from_ne_true}
use Rattle.std.proofs.lemmas.List.Folds.{list_any-append, find-append}
use Rattle.std.proofs.lemmas.Map.Views.{any-filter_same}
use Rattle.eco_def.specs.Named.{NamedJoint, NamedNet, NamedDesign}
use Rattle.eco_common.specs.Joints.{NewJoint}
use Rattle.eco_issued_laws.specs.Changes.{Fresh, is_no_component, is_joint_of, stays_on, stands, has_statement, new_pins, pin_joint, precedes, in_order, stated_first, fresh_nets, is_nil, once_each, changes_of, has_net, statements}
use Rattle.eco_issued_laws.specs.Issued.{issued_net, fresh_net, issued_design}
use Rattle.eco_net.specs.Netlist.{Name}
use Rattle.eco_net.proofs.Basics.{Has, has_map, has_of_map, has_append_left, has_append_right}
use Rattle.eco_elaborate.specs.Netlists.{names_pin, has_joint, net_of_pin}
use Rattle.eco_elaborate.proofs.Names.{or_none, same_name, is_name}
use Rattle.eco_elaborate.proofs.Members.{has_of_append, any_has, has_any, all_has, has_all, of_filter, in_filter, to_order, to_once}
use Rattle.eco_elaborate.proofs.Joining.{IsFor}
use Rattle.eco_elaborate.proofs.Statements.{names_new, same_test, of_both, in_new, of_new_named, none_new}

-- ---- the first statement that has a pin

abbrev pub net_by : List NamedNet → Name → Name → Option Name
net_by ss c p = option_map (λ s. s.name) (find (has_joint c p) ss)

pub net_by-append : (xs ys : List NamedNet) (c p : Name) → net_by (xs ++ ys) c p ≡ option_or (net_by xs c p) (net_by ys c p)
net_by-append xs ys c p = ap (option_map (λ s. s.name)) (find-append (has_joint c p) xs ys) ∙ go (find (has_joint c p) xs)
  where
    go : (o : Option NamedNet) → option_map (λ s. s.name) (option_or o (find (has_joint c p) ys)) ≡ option_or (option_map (λ s. s.name) o) (net_by ys c p)
    go None = refl
    go (Some s) = refl

-- statements that change without touching the pin
net_by_mapped : (f : NamedNet → NamedNet) (c p : Name) → ((s : NamedNet) → (f s).name ≡ s.name) → ((s : NamedNet) → has_joint c p (f s) ≡ has_joint c p s) → (ss : List NamedNet) → net_by (map f ss) c p ≡ net_by ss c p
net_by_mapped f c p name has [] = refl
net_by_mapped f c p name has (s ∷ ss) =
    ap (λ b. option_map (λ z. z.name) (cond b (Some (f s)) (find (has_joint c p) (map f ss)))) (has s) ∙ go (has_joint c p s) (net_by_mapped f c p name has ss)
  where
    go : (b : Bool) → net_by (map f ss) c p ≡ net_by ss c p → option_map (λ z. z.name) (cond b (Some (f s)) (find (has_joint c p) (map f ss))) ≡ option_map (λ z. z.name) (cond b (Some s) (find (has_joint c p) ss))
    go true rest = ap Some (name s)
    go false rest = rest

net_by_none : (c p : Name) (ss : List NamedNet) → ((s : NamedNet) → Has ss s → has_joint c p s ≡ false) → net_by ss c p ≡ None
net_by_none c p [] none = refl
net_by_none c p (s ∷ ss) none = ap (λ b. option_map (λ z. z.name) (cond b (Some s) (find (has_joint c p) ss))) (none s (inl refl)) ∙ net_by_none c p ss (λ z h. none z (inr h))

-- some statement has the pin, and all that have it are of one net
pub net_by_one : (c p n : Name) (ss : List NamedNet) (s : NamedNet) → Has ss s → has_joint c p s ≡ true → ((z : NamedNet) → Has ss z → has_joint c p z ≡ true → z.name ≡ n) → net_by ss c p ≡ Some n
net_by_one c p n [] s h e all = absurd h
net_by_one c p n (z ∷ ss) s h e all = ⊎_elim
    (λ t. ap (λ b. option_map (λ y. y.name) (cond b (Some z) (find (has_joint c p) ss))) t ∙ ap Some (all z (inl refl) t))
    (λ f.
    ap (λ b. option_map (λ y. y.name) (cond b (Some z) (find (has_joint c p) ss))) f
    ∙ net_by_one c p n ss s (⊎_elim (λ i. absurd (true≢false (sym e ∙ ap (has_joint c p) (sym i) ∙ f))) (λ i. i) h) e (λ y i. all y (inr i)))
    (cases_Bool (has_joint c p z))

module _ (d : NamedDesign) (joints : List NewJoint) (nets : List Name) (c p : Name) where
  abbrev issued : Bool → NamedNet → NamedNet
  issued special s = issued_net (changes_of d joints nets) special s

  abbrev added : Bool → Name → List NamedJoint
  added special net = if special && has_statement d.nets net then [] else new_pins d joints net

  abbrev fresh : List NamedNet
  fresh = map fresh_net (fresh_nets d joints nets)

  abbrev ordered : List Name
  ordered = in_order precedes (nets ++ stated_first d joints)

  -- ---- a pin that no joint is of

  module _ (none : (n : NewJoint) → Has joints n → IsFor n c p → ⊥) where
    keeps : (net : Name) (j : NamedJoint) → names_pin c p j ≡ true → stays_on joints net j ≡ true
    keeps net j e = has_all (λ n. not (is_joint_of n j) || bytes_eq n.net net) joints (λ n h. or_left (not (is_joint_of n j)) (bytes_eq n.net net) (ap not (false_from_ne_true (is_joint_of n j) (λ f. none n h (of_both n c p j e f)))))

    none_added : (special : Bool) (net : Name) → list_any (names_pin c p) (added special net) ≡ false
    none_added special net = go (special && has_statement d.nets net)
      where
        go : (b : Bool) → list_any (names_pin c p) (if b then [] else new_pins d joints net) ≡ false
        go true = refl
        go false = none_new d joints net c p none

    same_joints : (special : Bool) (s : NamedNet) → has_joint c p (issued special s) ≡ has_joint c p s
    same_joints special s =
        list_any-append (names_pin c p) (filter (stays_on joints s.name) s.joints) (added special s.name)
        ∙ ap (λ b. list_any (names_pin c p) (filter (stays_on joints s.name) s.joints) || b) (none_added special s.name)
        ∙ or_false (list_any (names_pin c p) (filter (stays_on joints s.name) s.joints))
        ∙ any-filter_same (names_pin c p) (stays_on joints s.name) true (keeps s.name) s.joints
      where
        or_false : (b : Bool) → (b || false) ≡ b
        or_false true = refl
        or_false false = refl

    none_fresh : (s : NamedNet) → Has fresh s → has_joint c p s ≡ false
    none_fresh s h =
        let r = has_of_map fresh_net (fresh_nets d joints nets) s h in
        let q = has_of_map (λ name. let f : Fresh = record { name = name; joints = new_pins d joints name } in f) ordered r.0 r.1 in
        ap (has_joint c p) (sym r.2) ∙ ap (λ f. list_any (names_pin c p) f.joints) (sym q.2) ∙ none_new d joints q.0 c p none

    -- a statement that has the pin had it before
    pub had : (s : NamedNet) → Has (statements (issued_design (changes_of d joints nets) d)) s → has_joint c p s ≡ true → (z : NamedNet) × Has (statements d) z × (z.name ≡ s.name) × (has_joint c p z ≡ true)
    had s h e = ⊎_elim
        (λ a. let r = has_of_map (issued true) d.special s a in (r.0, has_append_left d.special d.nets r.0 r.1, ap (λ z. z.name) r.2, sym (same_joints true r.0) ∙ ap (has_joint c p) r.2 ∙ e))
        (λ b. ⊎_elim
        (λ a. let r = has_of_map (issued false) d.nets s a in (r.0, has_append_right d.special d.nets r.0 r.1, ap (λ z. z.name) r.2, sym (same_joints false r.0) ∙ ap (has_joint c p) r.2 ∙ e))
        (λ a. absurd (true≢false (sym e ∙ none_fresh s a)))
        (has_of_append (map (issued false) d.nets) fresh s b))
        (has_of_append (map (issued true) d.special) (map (issued false) d.nets ++ fresh) s h)

    pub unmoved : net_of_pin (issued_design (changes_of d joints nets) d) c p ≡ net_of_pin d c p
    unmoved =
        let specials = map (issued true) d.special in
        let plains = map (issued false) d.nets in
        net_by-append specials (plains ++ fresh) c p
        ∙ ap (λ o. option_or (net_by specials c p) o) (net_by-append plains fresh c p ∙ ap (option_or (net_by plains c p)) (net_by_none c p fresh none_fresh) ∙ or_none (net_by plains c p) ∙ net_by_mapped (issued false) c p (λ s. refl) (same_joints false) d.nets)
        ∙ ap (λ o. option_or o (net_by d.nets c p)) (net_by_mapped (issued true) c p (λ s. refl) (same_joints true) d.special)
        ∙ sym (net_by-append d.special d.nets c p)

  -- ---- a pin that a joint is of

  module _ (n : NewJoint) (here : Has joints n) (for : IsFor n c p) (named : is_no_component n.comp ≡ false) (one : (k : NewJoint) → Has joints k → IsFor k c p → k.net ≡ n.net) where
    -- every statement that has the pin is of its net
    only_kept : (s : NamedNet) → list_any (names_pin c p) (filter (stays_on joints s.name) s.joints) ≡ true → s.name ≡ n.net
    only_kept s e =
        let r = any_has (names_pin c p) (filter (stays_on joints s.name) s.joints) e in
        let k = of_filter (stays_on joints s.name) s.joints r.0 r.1 in
        let t = all_has (λ m. not (is_joint_of m r.0) || bytes_eq m.net s.name) joints n k.1 here in
        ⊎_elim (λ a. absurd (true≢false (sym a ∙ ap not (same_test n c p r.0 for ∙ r.2)))) (λ b. sym (same_name n.net s.name b)) (or_cases (not (is_joint_of n r.0)) (bytes_eq n.net s.name) t)

    only_new : (net : Name) → list_any (names_pin c p) (new_pins d joints net) ≡ true → net ≡ n.net
    only_new net e = let r = of_new_named d joints net c p e in sym r.4 ∙ one r.0 r.1 (r.2, r.3)

    only_added : (special : Bool) (net : Name) → list_any (names_pin c p) (added special net) ≡ true → net ≡ n.net
    only_added special net e = go (special && has_statement d.nets net) e
      where
        go : (b : Bool) → list_any (names_pin c p) (if b then [] else new_pins d joints net) ≡ true → net ≡ n.net
        go true f = absurd (true≢false (sym f))
        go false f = only_new net f

    only_issued : (special : Bool) (s : NamedNet) → has_joint c p (issued special s) ≡ true → s.name ≡ n.net
    only_issued special s e = ⊎_elim
        (only_kept s) (only_added special s.name)
        (or_cases (list_any (names_pin c p) (filter (stays_on joints s.name) s.joints)) (list_any (names_pin c p) (added special s.name)) (sym (list_any-append (names_pin c p) (filter (stays_on joints s.name) s.joints) (added special s.name)) ∙ e))

    only_fresh : (s : NamedNet) → Has fresh s → has_joint c p s ≡ true → s.name ≡ n.net
    only_fresh s h e =
        let r = has_of_map fresh_net (fresh_nets d joints nets) s h in
        let q = has_of_map (λ name. let f : Fresh = record { name = name; joints = new_pins d joints name } in f) ordered r.0 r.1 in
        ap (λ z. z.name) (sym r.2) ∙ ap (λ z. z.name) (sym q.2) ∙ only_new q.0 (ap (λ f. list_any (names_pin c p) f.joints) q.2 ∙ ap (has_joint c p) r.2 ∙ e)

    pub only : (s : NamedNet) → Has (statements (issued_design (changes_of d joints nets) d)) s → has_joint c p s ≡ true → s.name ≡ n.net
    only s h e = ⊎_elim
        (λ a. let r = has_of_map (issued true) d.special s a in ap (λ z. z.name) (sym r.2) ∙ only_issued true r.0 (ap (has_joint c p) r.2 ∙ e))
        (λ b. ⊎_elim
        (λ a. let r = has_of_map (issued false) d.nets s a in ap (λ z. z.name) (sym r.2) ∙ only_issued false r.0 (ap (has_joint c p) r.2 ∙ e))
        (λ a. only_fresh s a e)
        (has_of_append (map (issued false) d.nets) fresh s b))
        (has_of_append (map (issued true) d.special) (map (issued false) d.nets ++ fresh) s h)

    -- some statement has it
    abbrev HasPin : Type 0
    HasPin = (s : NamedNet) × Has (statements (issued_design (changes_of d joints nets) d)) s × (has_joint c p s ≡ true)

    by_special : (s : NamedNet) → Has d.special s → has_joint c p (issued true s) ≡ true → HasPin
    by_special s h e = (issued true s, has_append_left (map (issued true) d.special) (map (issued false) d.nets ++ fresh) (issued true s) (has_map (issued true) d.special s h), e)

    by_plain : (s : NamedNet) → Has d.nets s → has_joint c p (issued false s) ≡ true → HasPin
    by_plain s h e = (
      issued false s,
      has_append_right (map (issued true) d.special) (map (issued false) d.nets ++ fresh) (issued false s) (has_append_left (map (issued false) d.nets) fresh (issued false s) (has_map (issued false) d.nets s h)),
      e,
    )

    is_named : names_pin c p (pin_joint n) ≡ true
    is_named = names_new n c p for named

    stays : (net : Name) (j : NamedJoint) → is_joint_of n j ≡ true → net ≡ n.net → stays_on joints net j ≡ true
    stays net j e s = has_all (λ m. not (is_joint_of m j) || bytes_eq m.net net) joints (λ m h. ⊎_elim
        (λ t. or_right (not (is_joint_of m j)) (bytes_eq m.net net) (is_name m.net net (one m h (of_both m c p j (sym (same_test n c p j for) ∙ e) t) ∙ sym s)))
        (λ f. or_left (not (is_joint_of m j)) (bytes_eq m.net net) (ap not f))
        (cases_Bool (is_joint_of m j)))

    stood : (special : Bool) (s : NamedNet) → s.name ≡ n.net → list_any (is_joint_of n) s.joints ≡ true → has_joint c p (issued special s) ≡ true
    stood special s e a =
        let r = any_has (is_joint_of n) s.joints a in
        has_any (names_pin c p) (filter (stays_on joints s.name) s.joints ++ added special s.name) r.0
        (has_append_left (filter (stays_on joints s.name) s.joints) (added special s.name) r.0 (in_filter (stays_on joints s.name) s.joints r.0 r.1 (stays s.name r.0 r.2 e)))
        (sym (same_test n c p r.0 for) ∙ r.2)

    came : (special : Bool) (s : NamedNet) → s.name ≡ n.net → stands (d.special ++ d.nets) n ≡ false → (special && has_statement d.nets s.name) ≡ false → has_joint c p (issued special s) ≡ true
    came special s e f g =
        has_any (names_pin c p) (filter (stays_on joints s.name) s.joints ++ added special s.name) (pin_joint n)
        (has_append_right (filter (stays_on joints s.name) s.joints) (added special s.name) (pin_joint n)
        (subst (λ b. Has (if b then [] else new_pins d joints s.name) (pin_joint n)) (sym g) (in_new d joints s.name n here (sym e) f)))
        is_named

    by_fresh : stands (d.special ++ d.nets) n ≡ false → Has (nets ++ stated_first d joints) n.net → HasPin
    by_fresh f h =
        let one : Fresh = record { name = n.net; joints = new_pins d joints n.net } in
        let all = λ (name : Name). let g : Fresh = record { name = name; joints = new_pins d joints name } in g in
        let has : Has fresh (fresh_net one) = has_map fresh_net (fresh_nets d joints nets) one (has_map all ordered n.net (to_order precedes (nets ++ stated_first d joints) n.net h)) in (
          fresh_net one,
          has_append_right (map (issued true) d.special) (map (issued false) d.nets ++ fresh) (fresh_net one) (has_append_right (map (issued false) d.nets) fresh (fresh_net one) has),
          has_any (names_pin c p) (new_pins d joints n.net) (pin_joint n) (in_new d joints n.net n here refl f) is_named,
        )

    -- a net that only top pins name gets its first statement
    by_top : stands (d.special ++ d.nets) n ≡ false → has_statement (statements d) n.net ≡ false → list_any (λ p. bytes_eq p.net n.net) d.pins ≡ true → HasPin
    by_top f a t =
        let r = any_has (λ p. bytes_eq p.net n.net) d.pins t in
        let gets : not (is_nil (new_pins d joints n.net)) ≡ true = ap not (some_pin (new_pins d joints n.net) (pin_joint n) (in_new d joints n.net n here refl f)) in
        let at : Has (map (λ p. p.net) d.pins) n.net = subst (Has (map (λ p. p.net) d.pins)) (same_name r.0.net n.net r.2) (has_map (λ p. p.net) d.pins r.0 r.1) in
        by_fresh f (has_append_right nets (stated_first d joints) n.net
        (in_filter (λ net. not (has_statement (d.special ++ d.nets) net) && not (is_nil (new_pins d joints net))) (once_each (map (λ p. p.net) d.pins)) n.net (to_once (map (λ p. p.net) d.pins) n.net at)
        (and_from (not (has_statement (d.special ++ d.nets) n.net)) (not (is_nil (new_pins d joints n.net))) (ap not a) gets)))
      where
        some_pin : (ks : List NamedJoint) (k : NamedJoint) → Has ks k → is_nil ks ≡ false
        some_pin [] k h = absurd h
        some_pin (x ∷ ks) k h = refl

    some : (has_net d n.net ≡ true) ⊎ Has nets n.net → HasPin
    some known = ⊎_elim old new (cases_Bool (stands (d.special ++ d.nets) n))
      where
        old : stands (d.special ++ d.nets) n ≡ true → HasPin
        old e =
            let r = any_has (λ s. bytes_eq s.name n.net && list_any (is_joint_of n) s.joints) (d.special ++ d.nets) e in
            let a = and_parts (bytes_eq r.0.name n.net) (list_any (is_joint_of n) r.0.joints) r.2 in
            ⊎_elim
            (λ h. by_special r.0 h (stood true r.0 (same_name r.0.name n.net a.0) a.1))
            (λ h. by_plain r.0 h (stood false r.0 (same_name r.0.name n.net a.0) a.1))
            (has_of_append d.special d.nets r.0 r.1)

        plain : stands (d.special ++ d.nets) n ≡ false → has_statement d.nets n.net ≡ true → HasPin
        plain f e = let r = any_has (λ s. bytes_eq s.name n.net) d.nets e in by_plain r.0 r.1 (came false r.0 (same_name r.0.name n.net r.2) f refl)

        special : stands (d.special ++ d.nets) n ≡ false → has_statement d.nets n.net ≡ false → has_statement d.special n.net ≡ true → HasPin
        special f g e =
            let r = any_has (λ s. bytes_eq s.name n.net) d.special e in
            let s = same_name r.0.name n.net r.2 in
            by_special r.0 r.1 (came true r.0 s f (ap (has_statement d.nets) s ∙ g))

        without : stands (d.special ++ d.nets) n ≡ false → has_statement d.nets n.net ≡ false → has_statement d.special n.net ≡ false → HasPin
        without f g e = ⊎_elim
            (λ k.
            let none : has_statement (statements d) n.net ≡ false = list_any-append (λ s. bytes_eq s.name n.net) d.special d.nets ∙ or_from (has_statement d.special n.net) (has_statement d.nets n.net) e g in
            by_top f none (⊎_elim (λ t. absurd (true≢false (sym t ∙ none))) (λ t. t) (or_cases (has_statement (statements d) n.net) (list_any (λ p. bytes_eq p.net n.net) d.pins) k)))
            (λ h. by_fresh f (has_append_left nets (stated_first d joints) n.net h))
            known

        new : stands (d.special ++ d.nets) n ≡ false → HasPin
        new f = ⊎_elim
            (λ e. plain f e) (λ g. ⊎_elim (λ e. special f g e) (λ e. without f g e) (cases_Bool (has_statement d.special n.net)))
            (cases_Bool (has_statement d.nets n.net))

    pub moved : (has_net d n.net ≡ true) ⊎ Has nets n.net → net_of_pin (issued_design (changes_of d joints nets) d) c p ≡ Some n.net
    moved known = let s = some known in net_by_one c p n.net (statements (issued_design (changes_of d joints nets) d)) s.0 s.1 s.2 only
