-- What one net, one component or one top pin adds to a netlist, and what many add.
use Rattle.std.proofs.Common.{◌≡◌, ℕ, zero, suc, ◌+◌, ◌<◌, arith, Bool, true, false, cond, ◌||◌, List, [], ◌∷◌, ◌++◌, length, map, take, get_or, slice_get, Option, Some, None, refl, sym, ap, ◌∙◌, subst, inl, inr, ⊎_elim, append_assoc, replicate}
use Rattle.std.specs.List.{list_any}
use Rattle.std.specs.Option.{option_map}
use Rattle.std.specs.Str.{bytes_eq}
use Rattle.std.specs.Cmp.Lexicographic.{nat_list_cmp_total}
use Rattle.std.specs.FinMap.{get, insert, empty, get-insert}
use Rattle.std.proofs.lemmas.Option.{slice_get-map}
use Rattle.std.proofs.lemmas.List.{take_more, map_push, map-append, length_push, length-append, append-nil}
use Rattle.std.proofs.lemmas.List.Folds.{list_any-append}
use Rattle.eco_common.specs.declared.geometry.Point.{Point}
use Rattle.eco_def.specs.Named.{NamedComp}
use Rattle.eco_net.specs.declared.kind.Kind.{Kind as Given}
use Rattle.eco_net.specs.declared.rows.NetRow.{NetRow}
use Rattle.eco_net.specs.declared.rows.CompRow.{CompRow}
use Rattle.eco_net.specs.Netlist.{Name, Component, Netlist, pins_of}
use Rattle.eco_net.specs.Listing.{Listing, netlist, net_names, comp_names, given_kind, AreDistinctNames}
use Rattle.eco_net.specs.Kept.{IsListing}
use Rattle.eco_net.proofs.Basics.{Has, contains_from_has, has_from_contains, has_of_map, has_append_left, has_append_right, get_same, get_other, same_Some, not_None}
use Rattle.eco_net.proofs.Effects.{net_is_added, comp_is_added, net_is}
use Rattle.eco_net.proofs.Places.{row_of_name}
use Rattle.eco_elaborate.specs.Netlists.{Kinds, centre_in}
use Rattle.eco_elaborate.specs.Stages.{NetsAre, AddsNets, IsOffNets, CompsAre, AddsComps}
use Rattle.eco_elaborate.proofs.Names.{by_bytes_turned, same_name, same_or_other}
use Rattle.eco_elaborate.proofs.Members.{has_of_append}

-- ---- lists

-- the items up to a place, and the item at it
pub mapped_more : {A B : Type 0} (f : A → B) (xs : List A) (i : ℕ) (x : A) → i < length xs → x ≡ get_or xs i x → map f (take (i + 1) xs) ≡ map f (take i xs) ++ f x ∷ []
mapped_more f xs i x h e = ap (map f) (take_more xs i x h) ∙ map_push f (take i xs) (get_or xs i x) ∙ ap (λ y. map f (take i xs) ++ f y ∷ []) (sym e)

pub mapped_at : {A B : Type 0} (f : A → B) (xs : List A) (i : ℕ) (d : A) → i < length xs → map f (take (i + 1) xs) ≡ map f (take i xs) ++ f (get_or xs i d) ∷ []
mapped_at f xs i d h = ap (map f) (take_more xs i d h) ∙ map_push f (take i xs) (get_or xs i d)

-- ---- nets

-- a net that is found has an entry
pub net_there : (L : Listing) → IsListing L → (i : ℕ) (name : Name) → slice_get (net_names L) i ≡ Some name → (s : Option Bool) × (get (netlist L).nets name ≡ Some s)
net_there L is i name e =
    let r = row_of_name (λ (r : NetRow). r.name) L.nets i name e in
    (r.0.supply, ap (get (netlist L).nets) (sym r.2) ∙ net_is L is i r.0 r.1)

module _ (value : Name → Option Bool) where
  pub no_nets_added : (L : Listing) → AddsNets value [] L L
  no_nets_added L = record {
    nets = λ before are. subst (λ ns. NetsAre value ns (netlist L)) (sym (append-nil before)) are;
    others = refl;
    rows = refl;
    few = omega arith;
  }

  pub nets_added : (xs ys : List Name) (L M N : Listing) → AddsNets value xs L M → AddsNets value ys M N → AddsNets value (xs ++ ys) L N
  nets_added xs ys L M N a b = record {
    nets = λ before are. subst (λ ns. NetsAre value ns (netlist N)) (append_assoc before xs ys) (b.nets (before ++ xs) (a.nets before are));
    others = b.others ∙ ap (λ (m : Netlist). record m { nets = (netlist N).nets }) a.others;
    rows = b.rows ∙ ap (λ (m : Listing). record m { nets = N.nets }) a.rows;
    few = let f = a.few in let g = b.few in omega (arith, length-append xs ys, f, g);
  }

  module _ (L : Listing) (name : Name) (given : Option Bool) (is_value : value name ≡ given) where
    -- what is among names with one more
    one_more : (before : List Name) (n : Name) → list_any (λ m. bytes_eq m n) (before ++ name ∷ []) ≡ (list_any (λ m. bytes_eq m n) before || (bytes_eq name n || false))
    one_more before n = list_any-append (λ m. bytes_eq m n) before (name ∷ [])

    pub new_net : IsListing L → get (netlist L).nets name ≡ None → (M : Listing) → M ≡ record L { nets = L.nets ++ record { name = name; supply = given; tie = false } ∷ [] } → AddsNets value (name ∷ []) L M
    new_net is new M e =
        let change : netlist M ≡ record (netlist L) { nets = insert (netlist L).nets name given } = ap netlist e ∙ net_is_added L is name given new in
        record {
          nets = λ before are n.
              ap (λ (m : Netlist). get m.nets n) change
              ∙ get-insert nat_list_cmp_total (netlist L).nets name given n
              ∙ ap (λ b. cond b (Some given) (get (netlist L).nets n)) (by_bytes_turned n name)
              ∙ ap (cond (bytes_eq name n) (Some given)) (are n)
              ∙ go n (bytes_eq name n) refl (list_any (λ m. bytes_eq m n) before)
              ∙ sym (ap (λ b. cond b (Some (value n)) None) (one_more before n));
          others = change ∙ ap (λ ns. record (netlist L) { nets = ns }) (sym (ap (λ (m : Netlist). m.nets) change));
          rows = e ∙ ap (λ ns. record L { nets = ns }) (sym (ap (λ (m : Listing). m.nets) e));
          few = let l = ap (λ (m : Listing). length m.nets) e ∙ length_push L.nets _ in omega (arith, l);
        }
      where
        go : (n : Name) (b : Bool) → bytes_eq name n ≡ b → (a : Bool) → cond b (Some given) (cond a (Some (value n)) None) ≡ cond (a || (b || false)) (Some (value n)) None
        go n true s true = ap Some (sym is_value ∙ ap value (same_name name n s))
        go n true s false = ap Some (sym is_value ∙ ap value (same_name name n s))
        go n false s true = refl
        go n false s false = refl

    pub old_net : (s : Option Bool) → get (netlist L).nets name ≡ Some s → AddsNets value (name ∷ []) L L
    old_net s there = record {
      nets = λ before are n. are n ∙ ap (λ b. cond b (Some (value n)) None) (go before are n (bytes_eq name n) refl ∙ sym (one_more before n));
      others = refl;
      rows = refl;
      few = omega arith;
    }
      where
        is_true : (a : Bool) (v : Option Bool) → cond a (Some v) None ≡ Some s → a ≡ true
        is_true true v e = refl
        is_true false v e = absurd (not_None (sym e))

        or_true : (a : Bool) → a ≡ true → a ≡ (a || (true || false))
        or_true true e = refl
        or_true false e = e

        or_false : (a : Bool) → a ≡ (a || (false || false))
        or_false true = refl
        or_false false = refl

        go : (before : List Name) → NetsAre value before (netlist L) → (n : Name) (b : Bool) → bytes_eq name n ≡ b → list_any (λ m. bytes_eq m n) before ≡ (list_any (λ m. bytes_eq m n) before || (b || false))
        go before are n true t =
            or_true _ (is_true (list_any (λ m. bytes_eq m n) before) (value n) (sym (are n) ∙ ap (get (netlist L).nets) (sym (same_name name n t)) ∙ there))
        go before are n false t = or_false (list_any (λ m. bytes_eq m n) before)

-- ---- components

module _ (kinds : Kinds) (units : ℕ) where
  pub no_comps_added : (L : Listing) → AddsComps kinds units [] L L
  no_comps_added L = record {
    comps = λ before are. subst (λ cs. CompsAre kinds units cs (netlist L)) (sym (append-nil before)) are;
    others = refl;
    rows = refl;
    names = sym (append-nil (comp_names L));
    count = omega arith;
  }

  pub comps_added : (xs ys : List NamedComp) (L M N : Listing) → AddsComps kinds units xs L M → AddsComps kinds units ys M N → AddsComps kinds units (xs ++ ys) L N
  comps_added xs ys L M N a b = record {
    comps = λ before are. subst (λ cs. CompsAre kinds units cs (netlist N)) (append_assoc before xs ys) (b.comps (before ++ xs) (a.comps before are));
    others = b.others ∙ ap (λ (m : Netlist). record m { comps = (netlist N).comps }) a.others;
    rows = b.rows ∙ ap (λ (m : Listing). record m { comps = N.comps }) a.rows;
    names =
        b.names ∙ ap (λ ns. ns ++ map (λ (c : NamedComp). c.name) ys) a.names ∙ append_assoc (comp_names L) (map (λ (c : NamedComp). c.name) xs) (map (λ (c : NamedComp). c.name) ys)
        ∙ ap (λ ns. comp_names L ++ ns) (sym (map-append (λ (c : NamedComp). c.name) xs ys));
    count = let f = a.count in let g = b.count in omega (arith, length-append xs ys, f, g);
  }

  module _ (L : Listing) (c : NamedComp) (kind : Given) (known : kinds.kind c.model ≡ Some (given_kind kind)) (new : get (netlist L).comps c.name ≡ None) where
    abbrev fresh : Component
    fresh = record { kind = given_kind kind; place = centre_in kinds units c; joined = empty }

    off_nets : IsOffNets kinds units c fresh
    off_nets = record { kind = known; place = refl; joined = refl }

    with_one : (before : List NamedComp) → CompsAre kinds units before (netlist L) → CompsAre kinds units (before ++ c ∷ []) (record (netlist L) { comps = insert (netlist L).comps c.name fresh })
    with_one before are = record {
      each = λ a h. ⊎_elim (old a) (λ i. ⊎_elim (λ e. this a e) (λ z. absurd z) i) (has_of_append before (c ∷ []) a (has_from_contains (before ++ c ∷ []) a h));
      only = λ n x e. ⊎_elim
          (λ s. (c, contains_from_has (before ++ c ∷ []) c (has_append_right before (c ∷ []) c (inl refl)), sym s, subst (IsOffNets kinds units c) (same_Some (sym (get_same (netlist L).comps c.name fresh) ∙ ap (get (insert (netlist L).comps c.name fresh)) (sym s) ∙ e)) off_nets))
          (λ s.
          let a = are.only n x (sym (get_other (netlist L).comps c.name fresh n s) ∙ e) in
          (a.0, contains_from_has (before ++ c ∷ []) a.0 (has_append_left before (c ∷ []) a.0 (has_from_contains before a.0 a.1)), a.2, a.3))
          (same_or_other n c.name);
    }
      where
        old : (a : NamedComp) → Has before a → (x : Component) × (get (insert (netlist L).comps c.name fresh) a.name ≡ Some x) × IsOffNets kinds units a x
        old a h =
            let x = are.each a (contains_from_has before a h) in
            (x.0, get_other (netlist L).comps c.name fresh a.name (λ s. not_None (sym x.1 ∙ ap (get (netlist L).comps) s ∙ new)) ∙ x.1, x.2)

        this : (a : NamedComp) → c ≡ a → (x : Component) × (get (insert (netlist L).comps c.name fresh) a.name ≡ Some x) × IsOffNets kinds units a x
        this a e = (fresh, ap (λ z. get (insert (netlist L).comps c.name fresh) z.name) (sym e) ∙ get_same (netlist L).comps c.name fresh, subst (λ z. IsOffNets kinds units z fresh) e off_nets)

    pub new_comp : IsListing L → (place : Option Point) → place ≡ centre_in kinds units c → (M : Listing) →
        M ≡ record L { comps = L.comps ++ record { name = c.name; kind = kind; place = place; joined = replicate (length (pins_of (given_kind kind))) None } ∷ [] } → AddsComps kinds units (c ∷ []) L M
    new_comp is place placed M e =
        let change : netlist M ≡ record (netlist L) { comps = insert (netlist L).comps c.name fresh } =
        ap netlist e ∙ comp_is_added L is c.name kind place new ∙ ap (λ p. record (netlist L) { comps = insert (netlist L).comps c.name (record { kind = given_kind kind; place = p; joined = empty }) }) placed in
        record {
          comps = λ before are. subst (CompsAre kinds units (before ++ c ∷ [])) (sym change) (with_one before are);
          others = change ∙ ap (λ cs. record (netlist L) { comps = cs }) (sym (ap (λ (m : Netlist). m.comps) change));
          rows = e ∙ ap (λ cs. record L { comps = cs }) (sym (ap (λ (m : Listing). m.comps) e));
          names = ap comp_names e ∙ map-append (λ (r : CompRow). r.name) L.comps (_ ∷ []);
          count = ap (λ (m : Listing). length m.comps) e ∙ length_push L.comps _;
        }

-- an item of the front stands at a place of it
pub in_front : {A : Type 0} (xs : List A) (i : ℕ) (a : A) → Has (take i xs) a → (k : ℕ) × (k < i) × (slice_get xs k ≡ Some a)
in_front [] zero a h = absurd h
in_front [] (suc i) a h = absurd h
in_front (x ∷ xs) zero a h = absurd h
in_front (x ∷ xs) (suc i) a (inl e) = (0, omega arith, ap Some e)
in_front (x ∷ xs) (suc i) a (inr h) = let r = in_front xs i a h in (suc r.0, omega (arith, r.1), r.2)

-- a name that stands once isn't that of a component before
pub name_is_new : {A : Type 0} (kinds : Kinds) (units : ℕ) (N : Netlist) (f : A → NamedComp) (cs : List A) (i : ℕ) (c : A) → AreDistinctNames (map (λ c. (f c).name) cs) → CompsAre kinds units (map f (take i cs)) N → slice_get cs i ≡ Some c →
    get N.comps (f c).name ≡ None
name_is_new {A = A} kinds units N f cs i c apart are e = none (get N.comps (f c).name) refl
  where
    named : (k : ℕ) (a : A) → slice_get cs k ≡ Some a → slice_get (map (λ c. (f c).name) cs) k ≡ Some (f a).name
    named k a g = slice_get-map (λ c. (f c).name) cs k ∙ ap (option_map (λ c. (f c).name)) g

    none : (o : Option Component) → get N.comps (f c).name ≡ o → get N.comps (f c).name ≡ None
    none None g = g
    none (Some x) g =
        let a = are.only (f c).name x g in
        let b = has_of_map f (take i cs) a.0 (has_from_contains (map f (take i cs)) a.0 a.1) in
        let k = in_front cs i b.0 b.1 in
        let same : k.0 ≡ i = apart k.0 i (f c).name (named k.0 b.0 k.2 ∙ ap Some (ap (λ z. z.name) b.2 ∙ a.2)) (named i c e) in
        absurd (omega (arith, same, k.1))
