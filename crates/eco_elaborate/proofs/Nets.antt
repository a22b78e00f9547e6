-- The nets of an issued design: those of the design, with the new ones.
use Rattle.std.proofs.Common.{◌≡◌, Bool, true, false, cond, not, ◌&&◌, List, [], ◌∷◌, ◌++◌, map, Option, Some, None, refl, sym, ap, ◌∙◌, subst, inl, inr, ⊎_elim, ◌⊎◌, true≢false, filter}
use Rattle.std.specs.List.{list_any}
use Rattle.std.specs.Option.{option_or}
use Rattle.std.specs.Str.{bytes_eq}
use Rattle.std.specs.FinMap.{get}
use Rattle.std.proofs.lemmas.Bool.{or_cases, or_parts, or_left, or_right, true_from_ne_false, false_from_ne_true}
use Rattle.eco_common.specs.Options.{first_some}
use Rattle.eco_def.specs.Named.{NamedNet, NamedDesign}
use Rattle.eco_common.specs.Joints.{NewJoint}
use Rattle.eco_issued_laws.specs.Changes.{Fresh, has_statement, new_pins, precedes, in_order, stated_first, fresh_nets, is_nil, once_each, changes_of, has_net, statements}
use Rattle.eco_issued_laws.specs.Issued.{issued_net, fresh_net, issued_design}
use Rattle.eco_net.specs.Netlist.{Name, IsNet}
use Rattle.eco_net.proofs.Basics.{Has, has_map, has_of_map, has_append_left, has_append_right, not_None}
pub use Rattle.eco_elaborate.specs.Stated.{supply_among}
use Rattle.eco_elaborate.specs.Netlists.{Kinds, supply_by, net_supply, netlist_of}
use Rattle.eco_elaborate.proofs.Names.{or_none, same_name, is_name}
use Rattle.eco_elaborate.proofs.Members.{has_of_append, any_has, has_any, of_filter, of_order, to_order, of_once}
use Rattle.eco_elaborate.proofs.Lookups.{net_is}

-- ---- a net of the netlist

pub net_known : (kinds : Kinds) (ties : List Name) (d : NamedDesign) (n : Name) → IsNet (netlist_of kinds ties d) n → has_net d n ≡ true
net_known kinds ties d n is = true_from_ne_false (has_net d n) (λ f. not_None (sym is.1 ∙ net_is kinds ties d n ∙ ap (λ b. cond b (Some (net_supply d n)) None) f))

pub known_net : (kinds : Kinds) (ties : List Name) (d : NamedDesign) (n : Name) → has_net d n ≡ true → IsNet (netlist_of kinds ties d) n
known_net kinds ties d n e = (net_supply d n, net_is kinds ties d n ∙ ap (λ b. cond b (Some (net_supply d n)) None) e)

pub net_unknown : (kinds : Kinds) (ties : List Name) (d : NamedDesign) (n : Name) → get (netlist_of kinds ties d).nets n ≡ None → has_net d n ≡ false
net_unknown kinds ties d n none = false_from_ne_true (has_net d n) (λ e. not_None (sym (known_net kinds ties d n e).1 ∙ none))

-- ---- supplies

pub supply_among-append : (xs ys : List NamedNet) (q : Name) → supply_among (xs ++ ys) q ≡ option_or (supply_among xs q) (supply_among ys q)
supply_among-append [] ys q = refl
supply_among-append (x ∷ xs) ys q = go (bytes_eq x.name q) (supply_among-append xs ys q)
  where
    one : (o : Option Bool) → supply_among (xs ++ ys) q ≡ option_or (supply_among xs q) (supply_among ys q) →
        first_some (o ∷ map (λ s. supply_by s.usage) (filter (λ s. bytes_eq s.name q) (xs ++ ys))) ≡ option_or (first_some (o ∷ map (λ s. supply_by s.usage) (filter (λ s. bytes_eq s.name q) xs))) (supply_among ys q)
    one None rest = rest
    one (Some b) rest = refl

    go : (b : Bool) → supply_among (xs ++ ys) q ≡ option_or (supply_among xs q) (supply_among ys q) →
        first_some (map (λ s. supply_by s.usage) (cond b (x ∷ filter (λ s. bytes_eq s.name q) (xs ++ ys)) (filter (λ s. bytes_eq s.name q) (xs ++ ys))))
        ≡ option_or (first_some (map (λ s. supply_by s.usage) (cond b (x ∷ filter (λ s. bytes_eq s.name q) xs) (filter (λ s. bytes_eq s.name q) xs)))) (supply_among ys q)
    go true rest = one (supply_by x.usage) rest
    go false rest = rest

supply_kept : (f : NamedNet → NamedNet) → ((s : NamedNet) → (f s).name ≡ s.name) → ((s : NamedNet) → (f s).usage ≡ s.usage) → (ss : List NamedNet) (q : Name) → supply_among (map f ss) q ≡ supply_among ss q
supply_kept f name usage [] q = refl
supply_kept f name usage (s ∷ ss) q =
    ap (λ n. first_some (map (λ s. supply_by s.usage) (cond (bytes_eq n q) (f s ∷ filter (λ s. bytes_eq s.name q) (map f ss)) (filter (λ s. bytes_eq s.name q) (map f ss))))) (name s) ∙ go (bytes_eq s.name q) (supply_kept f name usage ss q)
  where
    one : (o : Option Bool) → supply_among (map f ss) q ≡ supply_among ss q → first_some (o ∷ map (λ s. supply_by s.usage) (filter (λ s. bytes_eq s.name q) (map f ss))) ≡ first_some (o ∷ map (λ s. supply_by s.usage) (filter (λ s. bytes_eq s.name q) ss))
    one None rest = rest
    one (Some b) rest = refl

    go : (b : Bool) → supply_among (map f ss) q ≡ supply_among ss q →
        first_some (map (λ s. supply_by s.usage) (cond b (f s ∷ filter (λ s. bytes_eq s.name q) (map f ss)) (filter (λ s. bytes_eq s.name q) (map f ss))))
        ≡ first_some (map (λ s. supply_by s.usage) (cond b (s ∷ filter (λ s. bytes_eq s.name q) ss) (filter (λ s. bytes_eq s.name q) ss)))
    go true rest = ap (λ u. first_some (supply_by u ∷ map (λ s. supply_by s.usage) (filter (λ s. bytes_eq s.name q) (map f ss)))) (usage s) ∙ one (supply_by s.usage) rest
    go false rest = rest

supply_fresh : (fs : List Fresh) (q : Name) → supply_among (map fresh_net fs) q ≡ None
supply_fresh [] q = refl
supply_fresh (f ∷ fs) q = go (bytes_eq f.name q) (supply_fresh fs q)
  where
    go : (b : Bool) → supply_among (map fresh_net fs) q ≡ None → first_some (map (λ s. supply_by s.usage) (cond b (fresh_net f ∷ filter (λ s. bytes_eq s.name q) (map fresh_net fs)) (filter (λ s. bytes_eq s.name q) (map fresh_net fs)))) ≡ None
    go true rest = rest
    go false rest = rest

-- a net without a statement is no supply
no_supply : (ss : List NamedNet) (q : Name) → has_statement ss q ≡ false → supply_among ss q ≡ None
no_supply [] q e = refl
no_supply (s ∷ ss) q e =
    let r = or_parts (bytes_eq s.name q) (has_statement ss q) e in
    ap (λ b. first_some (map (λ s. supply_by s.usage) (cond b (s ∷ filter (λ s. bytes_eq s.name q) ss) (filter (λ s. bytes_eq s.name q) ss)))) r.0 ∙ no_supply ss q r.1

module _ (d : NamedDesign) (joints : List NewJoint) (nets : List Name) where
  abbrev e : NamedDesign
  e = issued_design (changes_of d joints nets) d

  abbrev issued : Bool → NamedNet → NamedNet
  issued special s = issued_net (changes_of d joints nets) special s

  abbrev fresh : List NamedNet
  fresh = map fresh_net (fresh_nets d joints nets)

  pub same_supply : (q : Name) → net_supply e q ≡ net_supply d q
  same_supply q =
      let specials = map (issued true) d.special in
      let plains = map (issued false) d.nets in
      supply_among-append specials (plains ++ fresh) q
      ∙ ap (option_or (supply_among specials q)) (supply_among-append plains fresh q ∙ ap (option_or (supply_among plains q)) (supply_fresh (fresh_nets d joints nets) q) ∙ or_none (supply_among plains q) ∙ supply_kept (issued false) (λ s. refl) (λ s. refl) d.nets q)
      ∙ ap (λ o. option_or o (supply_among d.nets q)) (supply_kept (issued true) (λ s. refl) (λ s. refl) d.special q)
      ∙ sym (supply_among-append d.special d.nets q)

  -- a statement that makes its net a supply did so before
  pub same_use : (s : NamedNet) (b : Bool) → Has (statements e) s → supply_by s.usage ≡ Some b → (z : NamedNet) × Has (statements d) z × (z.name ≡ s.name) × (supply_by z.usage ≡ Some b)
  same_use s b h u = ⊎_elim
      (λ a. let r = has_of_map (issued true) d.special s a in (r.0, has_append_left d.special d.nets r.0 r.1, ap (λ z. z.name) r.2, ap (λ z. supply_by z.usage) r.2 ∙ u))
      (λ a. ⊎_elim
      (λ i. let r = has_of_map (issued false) d.nets s i in (r.0, has_append_right d.special d.nets r.0 r.1, ap (λ z. z.name) r.2, ap (λ z. supply_by z.usage) r.2 ∙ u))
      (λ i. let r = has_of_map fresh_net (fresh_nets d joints nets) s i in absurd (not_None (sym (ap (λ z. supply_by z.usage) r.2 ∙ u))))
      (has_of_append (map (issued false) d.nets) fresh s a))
      (has_of_append (map (issued true) d.special) (map (issued false) d.nets ++ fresh) s h)

  -- ---- which nets there are

  abbrev ordered : List Name
  ordered = in_order precedes (nets ++ stated_first d joints)

  of_fresh : (s : NamedNet) (q : Name) → Has fresh s → s.name ≡ q → Has nets q ⊎ (has_net d q ≡ true)
  of_fresh s q h f =
      let r = has_of_map fresh_net (fresh_nets d joints nets) s h in
      let m = has_of_map (λ name. let g : Fresh = record { name = name; joints = new_pins d joints name } in g) ordered r.0 r.1 in
      let is : m.0 ≡ q = ap (λ z. z.name) m.2 ∙ ap (λ z. z.name) r.2 ∙ f in
      ⊎_elim
      (λ i. inl (subst (Has nets) is i))
      (λ i.
      let t = (of_filter (λ net. not (has_statement (d.special ++ d.nets) net) && not (is_nil (new_pins d joints net))) (once_each (map (λ p. p.net) d.pins)) m.0 i).0 in
      let p = has_of_map (λ p. p.net) d.pins m.0 (of_once (map (λ p. p.net) d.pins) m.0 t) in
      inr (or_right (has_statement (statements d) q) (list_any (λ p. bytes_eq p.net q) d.pins) (has_any (λ p. bytes_eq p.net q) d.pins p.0 p.1 (is_name p.0.net q (p.2 ∙ is)))))
      (has_of_append nets (stated_first d joints) m.0 (of_order precedes (nets ++ stated_first d joints) m.0 m.1))

  old_statement : (special : Bool) (s : NamedNet) (q : Name) → Has (statements d) s → (issued special s).name ≡ q → has_net d q ≡ true
  old_statement special s q h f = or_left (has_statement (statements d) q) (list_any (λ p. bytes_eq p.net q) d.pins) (has_any (λ s. bytes_eq s.name q) (statements d) s h (is_name s.name q f))

  of_issued : (q : Name) → has_net e q ≡ true → Has nets q ⊎ (has_net d q ≡ true)
  of_issued q f = ⊎_elim by_statement (λ t. inr (or_right (has_statement (statements d) q) (list_any (λ p. bytes_eq p.net q) d.pins) t)) (or_cases (has_statement (statements e) q) (list_any (λ p. bytes_eq p.net q) d.pins) f)
    where
      by_statement : has_statement (statements e) q ≡ true → Has nets q ⊎ (has_net d q ≡ true)
      by_statement t =
          let r = any_has (λ s. bytes_eq s.name q) (statements e) t in
          let is = same_name r.0.name q r.2 in
          ⊎_elim
          (λ a. let k = has_of_map (issued true) d.special r.0 a in inr (old_statement true k.0 q (has_append_left d.special d.nets k.0 k.1) (ap (λ z. z.name) k.2 ∙ is)))
          (λ b. ⊎_elim
          (λ a. let k = has_of_map (issued false) d.nets r.0 a in inr (old_statement false k.0 q (has_append_right d.special d.nets k.0 k.1) (ap (λ z. z.name) k.2 ∙ is)))
          (λ a. of_fresh r.0 q a is)
          (has_of_append (map (issued false) d.nets) fresh r.0 b))
          (has_of_append (map (issued true) d.special) (map (issued false) d.nets ++ fresh) r.0 r.1)

  stated : (q : Name) (s : NamedNet) → Has (statements e) s → s.name ≡ q → has_net e q ≡ true
  stated q s h f = or_left (has_statement (statements e) q) (list_any (λ p. bytes_eq p.net q) d.pins) (has_any (λ s. bytes_eq s.name q) (statements e) s h (is_name s.name q f))

  pub new_issued : (q : Name) → Has nets q → has_net e q ≡ true
  new_issued q h =
      let all = λ (name : Name). let g : Fresh = record { name = name; joints = new_pins d joints name } in g in
      let has : Has fresh (fresh_net (all q)) = has_map fresh_net (fresh_nets d joints nets) (all q) (has_map all ordered q (to_order precedes (nets ++ stated_first d joints) q (has_append_left nets (stated_first d joints) q h))) in
      stated q (fresh_net (all q)) (has_append_right (map (issued true) d.special) (map (issued false) d.nets ++ fresh) (fresh_net (all q)) (has_append_right (map (issued false) d.nets) fresh (fresh_net (all q)) has)) refl

  pub old_issued : (q : Name) → has_net d q ≡ true → has_net e q ≡ true
  old_issued q f = ⊎_elim by_statement (λ t. or_right (has_statement (statements e) q) (list_any (λ p. bytes_eq p.net q) d.pins) t) (or_cases (has_statement (statements d) q) (list_any (λ p. bytes_eq p.net q) d.pins) f)
    where
      by_statement : has_statement (statements d) q ≡ true → has_net e q ≡ true
      by_statement t =
          let r = any_has (λ s. bytes_eq s.name q) (statements d) t in
          let is = same_name r.0.name q r.2 in
          ⊎_elim
          (λ a. stated q (issued true r.0) (has_append_left (map (issued true) d.special) (map (issued false) d.nets ++ fresh) (issued true r.0) (has_map (issued true) d.special r.0 a)) is)
          (λ a. stated q (issued false r.0) (has_append_right (map (issued true) d.special) (map (issued false) d.nets ++ fresh) (issued false r.0) (has_append_left (map (issued false) d.nets) fresh (issued false r.0) (has_map (issued false) d.nets r.0 a))) is)
          (has_of_append d.special d.nets r.0 r.1)

  -- what is found for a net
  pub issued_net_is : (kinds : Kinds) (ties : List Name) → ((n : Name) → Has nets n → get (netlist_of kinds ties d).nets n ≡ None) → (q : Name) →
      get (netlist_of kinds ties e).nets q ≡ cond (list_any (λ n. bytes_eq n q) nets) (Some None) (get (netlist_of kinds ties d).nets q)
  issued_net_is kinds ties new q =
      net_is kinds ties e q ∙ ap (λ o. cond (has_net e q) (Some o) None) (same_supply q) ∙ go (list_any (λ n. bytes_eq n q) nets) refl
    where
      go : (b : Bool) → list_any (λ n. bytes_eq n q) nets ≡ b → cond (has_net e q) (Some (net_supply d q)) None ≡ cond b (Some None) (get (netlist_of kinds ties d).nets q)
      go true f =
          let r = any_has (λ n. bytes_eq n q) nets f in
          let h : Has nets q = subst (Has nets) (same_name r.0 q r.2) r.1 in
          let none = (or_parts (has_statement (statements d) q) (list_any (λ p. bytes_eq p.net q) d.pins) (net_unknown kinds ties d q (new q h))).0 in
          ap (λ b. cond b (Some (net_supply d q)) None) (new_issued q h) ∙ ap Some (no_supply (statements d) q none)
      go false f = ap (λ b. cond b (Some (net_supply d q)) None) (same (has_net d q) refl) ∙ sym (net_is kinds ties d q)
        where
          same : (b : Bool) → has_net d q ≡ b → has_net e q ≡ has_net d q
          same true g = old_issued q g ∙ sym g
          same false g = false_from_ne_true (has_net e q) (λ t. ⊎_elim (λ h. true≢false (sym (has_any (λ n. bytes_eq n q) nets q h (is_name q q refl)) ∙ f)) (λ t. true≢false (sym t ∙ g)) (of_issued q t)) ∙ sym g
