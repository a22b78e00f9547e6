-- A netlist that was listed stage by stage is that of the design.
use mathlib.Core.Bool.{beq}
use Rattle.std.proofs.Common.{◌≡◌, ◌≢◌, Bool, true, false, cond, ◌&&◌, List, [], ◌∷◌, ◌++◌, map, Option, Some, None, refl, sym, ap, ◌∙◌, subst, ◌⊎◌, inl, inr, ⊎_elim, true≢false}
use Rattle.std.specs.List.{list_any, list_all}
use Rattle.std.specs.Option.{option_map}
use Rattle.std.specs.Str.{bytes_eq}
use Rattle.std.specs.FinMap.{get, get-empty}
use Rattle.std.specs.FinMap as fin
use Rattle.std.specs.FinSet.{from_list}
use Rattle.std.specs.FinSet as set
use Rattle.std.proofs.lemmas.Bool.{and_parts, and_from, or_cases, or_left, or_right, true_from_ne_false}
use Rattle.eco_def.specs.Named.{NamedComp, NamedPin, NamedNet, NamedDesign}
use Rattle.eco_common.specs.Joints.{NewJoint}
use Rattle.eco_issued_laws.specs.Changes.{has_statement, has_net, statements}
use Rattle.eco_net.specs.Netlist.{Name, name_cmp, Kind, Component, Netlist, CompPin, IsNet, IsPin, pins_of}
use Rattle.eco_net.specs.Drivers.{net_of, joined_at}
use Rattle.eco_net.proofs.Basics.{Has, contains_from_has, has_from_contains, has_found, has_map, has_of_map, has_append_left, has_append_right, same_Some, not_None}
use Rattle.eco_elaborate.specs.Netlists.{Kinds, Powers, supply_by, kind_pins}
use Rattle.eco_elaborate.specs.Described.{IsOn, IsSupply, NamesOnce, IsConsistent, IsNetlistOf}
use Rattle.eco_net.specs.Joints.{frame, IsRewired, OneNetEach}
use Rattle.eco_elaborate.specs.Stated.{supply_among, joint_on_net, stated_pins, all_pins_on}
use Rattle.eco_elaborate.specs.Building.{IsPinOf, IsSupplyPinOf, IsListed, HasUnknownPin, HasPinOnTwo, HasTwoValues}
use Rattle.eco_elaborate.specs.Stages.{agree, keeps_value, NetsAre, CompsAre, TopsAre, IsUnknownJoint, has_pin, known_pins, has_supply_pin}
use Rattle.eco_elaborate.proofs.Names.{same_name, is_name}
use Rattle.eco_elaborate.proofs.Members.{has_of_append, any_has, has_any, all_has, of_filter, in_filter}
use Rattle.eco_elaborate.proofs.Found.{supply_found, supply_stands}
use Rattle.eco_elaborate.proofs.FindingPins.{known_is_pin, pin_is_known}
use Rattle.eco_elaborate.proofs.Joinable.{has_role}
use Rattle.eco_elaborate.proofs.Joining.{for_some}
use Rattle.eco_elaborate.proofs.Stating.{of_flat_map, in_flat_map, of_pins, in_pins, pin_of_stands, stands_of_pin, same_pins}
use Rattle.eco_elaborate.proofs.Telling.{netlist_is}

same_value : (a b : Bool) → beq a b ≡ true → a ≡ b
same_value true true e = refl
same_value true false e = absurd (true≢false (sym e))
same_value false true e = absurd (true≢false (sym e))
same_value false false e = refl

not_all : {A : Type 0} (test : A → Bool) (xs : List A) → list_all test xs ≡ false → (x : A) × Has xs x × (test x ≡ false)
not_all test [] e = absurd (true≢false e)
not_all {A = A} test (x ∷ xs) e = go (test x) refl (λ f. not_all test xs f) e
  where
    go : (b : Bool) → test x ≡ b → (list_all test xs ≡ false → (y : A) × Has xs y × (test y ≡ false)) → (b && list_all test xs) ≡ false → (y : A) × Has (x ∷ xs) y × (test y ≡ false)
    go true f rest g = let r = rest g in (r.0, inr r.1, r.2)
    go false f rest g = (x, inl refl, f)

-- the design's statements, in some order
module _ (kinds : Kinds) (powers : Powers) (d : NamedDesign) (ss : List NamedNet) (to : (z : NamedNet) → Has (statements d) z → Has ss z) (from : (z : NamedNet) → Has ss z → Has (statements d) z) where
  -- ---- supplies

  supply_of : (n : Name) (b : Bool) (s : NamedNet) → Has ss s → s.name ≡ n → supply_by s.usage ≡ Some b → IsSupply d n b
  supply_of n b s h e f = (s, contains_from_has (statements d) s (from s h), e, f)

  module _ (same : list_all (keeps_value (supply_among ss)) ss ≡ true) where
    -- a statement gives its net the value by the first one
    first_value : (n : Name) (b : Bool) → IsSupply d n b → supply_among ss n ≡ Some b
    first_value n b s =
        let h = to s.0 (has_from_contains (statements d) s.0 s.1) in
        let first = supply_stands ss n s.0 b h s.2 s.3 in
        let agrees : beq b first.0 ≡ true =
        sym (ap (λ o. agree (supply_by s.0.usage) o) (ap (supply_among ss) s.2 ∙ first.1) ∙ ap (λ o. agree o (Some first.0)) s.3)
        ∙ all_has (keeps_value (supply_among ss)) ss s.0 same h in
        first.1 ∙ ap Some (sym (same_value b first.0 agrees))

    pub one_value : (n : Name) (a b : Bool) → IsSupply d n a → IsSupply d n b → a ≡ b
    one_value n a b s t = same_Some (sym (first_value n a s) ∙ first_value n b t)

  -- where a statement doesn't keep its net's value, the net has both
  pub both_values : (s : NamedNet) → Has ss s → keeps_value (supply_among ss) s ≡ false → IsSupply d s.name true × IsSupply d s.name false
  both_values s h e = go (supply_by s.usage) refl (supply_among ss s.name) refl e
    where
      go : (o : Option Bool) → supply_by s.usage ≡ o → (p : Option Bool) → supply_among ss s.name ≡ p → agree o p ≡ false → IsSupply d s.name true × IsSupply d s.name false
      go None f p g e = absurd (true≢false e)
      go (Some a) f None g e = absurd (true≢false e)
      go (Some true) f (Some true) g e = absurd (true≢false e)
      go (Some true) f (Some false) g e = let t = supply_found ss s.name false g in (supply_of s.name true s h refl f, supply_of s.name false t.0 t.1 t.2 t.3)
      go (Some false) f (Some true) g e = let t = supply_found ss s.name true g in (supply_of s.name true t.0 t.1 t.2 t.3, supply_of s.name false s h refl f)
      go (Some false) f (Some false) g e = absurd (true≢false e)

  pub two_values : list_all (keeps_value (supply_among ss)) ss ≡ false → HasTwoValues d
  two_values e =
      let s = not_all (keeps_value (supply_among ss)) ss e in
      let b = both_values s.0 s.1 s.2 in
      (s.0.name, b.0, b.1)

  -- ---- pins on nets

  pub pin_on : (c p n : Name) → IsOn d c p n → Has (all_pins_on ss) (record { comp = c; pin = p; net = n })
  pin_on c p n on = same_pins (statements d) ss to _ (pin_of_stands (statements d) _ on)

  pub on_pin : (j : NewJoint) → Has (all_pins_on ss) j → IsOn d j.comp j.pin j.net
  on_pin j h = stands_of_pin (statements d) j (same_pins ss (statements d) from j h)

  -- ---- supply pins

  supply_pin : (c p : Name) → has_supply_pin powers d.comps c p ≡ true → IsSupplyPinOf powers d c p
  supply_pin c p e =
      let a = any_has (λ (a : NamedComp). bytes_eq a.name c && powers a.model p) d.comps e in
      let b = and_parts (bytes_eq a.0.name c) (powers a.0.model p) a.2 in
      record { of = a.0; found = contains_from_has d.comps a.0 a.1; same = same_name a.0.name c b.0; supply = b.1 }

  pin_supply : (c p : Name) → IsSupplyPinOf powers d c p → has_supply_pin powers d.comps c p ≡ true
  pin_supply c p is =
      has_any (λ (a : NamedComp). bytes_eq a.name c && powers a.model p) d.comps is.of (has_from_contains d.comps is.of is.found)
      (and_from (bytes_eq is.of.name c) (powers is.of.model p) (is_name is.of.name c is.same) is.supply)

  module _ (M : Netlist) (comps : CompsAre kinds d.units d.comps M) where
    -- ---- known pins

    -- a pin of a component of the netlist is one of a component of the design
    known_pin : (c p : Name) (x : Component) → get M.comps c ≡ Some x → IsPin x p → IsPinOf kinds d c p
    known_pin c p x e pin =
        let a = comps.only c x e in
        record { of = a.0; kind = x.kind; found = a.1; same = a.2; known = a.3.kind; has = contains_from_has (kind_pins x.kind) p (has_found (pins_of x.kind) p pin.0 pin.1) }

    pin_known : (c p : Name) → IsPinOf kinds d c p → (x : Component) × (get M.comps c ≡ Some x) × IsPin x p
    pin_known c p is =
        let x = comps.each is.of is.found in
        let r = has_role is.kind p (has_from_contains (kind_pins is.kind) p is.has) in
        let kind : is.kind ≡ x.0.kind = same_Some (sym is.known ∙ x.2.kind) in
        (x.0, ap (get M.comps) (sym is.same) ∙ x.1, (r.0, ap (λ k. fin.find name_cmp p (pins_of k)) (sym kind) ∙ r.1))

    pub unknown_pin : (j : NewJoint) → Has (all_pins_on ss) j → IsUnknownJoint (has_supply_pin powers d.comps) M j.comp j.pin → HasUnknownPin kinds powers d
    unknown_pin j h none =
        let s = of_flat_map stated_pins ss j h in
        let i = of_pins s.0 j s.2 in
        let comp : i.0.comp ≡ j.comp = ap (λ k. k.comp) i.3 in
        let pin : i.0.pin ≡ j.pin = ap (λ k. k.pin) i.3 in (
          s.0,
          i.0,
          contains_from_has (statements d) s.0 (from s.0 s.1),
          contains_from_has s.0.joints i.0 i.1,
          i.2,
          λ is. let x = pin_known j.comp j.pin (subst (λ p. IsPinOf kinds d j.comp p) pin (subst (λ c. IsPinOf kinds d c i.0.pin) comp is)) in none.no_pin x.0 x.1 x.2,
          λ is. true≢false (sym (pin_supply j.comp j.pin (subst (λ p. IsSupplyPinOf powers d j.comp p) pin (subst (λ c. IsSupplyPinOf powers d c i.0.pin) comp is))) ∙ none.no_supply),
        )

    -- ---- pins put on nets

    abbrev put_pins : List NewJoint
    put_pins = known_pins M (all_pins_on ss)

    put_said : (j : NewJoint) → Has put_pins j → Has (all_pins_on ss) j × ((x : Component) × (get M.comps j.comp ≡ Some x) × IsPin x j.pin)
    put_said j h =
        let f = of_filter (λ (j : NewJoint). has_pin (get M.comps j.comp) j.pin) (all_pins_on ss) j h in
        (f.0, known_is_pin M j.comp j.pin f.1)

    said_put : (c p n : Name) (x : Component) → get M.comps c ≡ Some x → IsPin x p → IsOn d c p n → Has put_pins (record { comp = c; pin = p; net = n })
    said_put c p n x e pin on = in_filter (λ (j : NewJoint). has_pin (get M.comps j.comp) j.pin) (all_pins_on ss) (record { comp = c; pin = p; net = n }) (pin_on c p n on) (pin_is_known M c p x e pin)

    pub one_net : OneNetEach put_pins → (c p n m : Name) → IsPinOf kinds d c p → IsOn d c p n → IsOn d c p m → n ≡ m
    one_net one c p n m is a b =
        let x = pin_known c p is in
        one (record { comp = c; pin = p; net = n }) (record { comp = c; pin = p; net = m })
        (contains_from_has put_pins _ (said_put c p n x.0 x.1 x.2 a)) (contains_from_has put_pins _ (said_put c p m x.0 x.1 x.2 b)) refl refl

    pub pin_on_two : (j k : NewJoint) → Has put_pins j → Has put_pins k → j.comp ≡ k.comp → j.pin ≡ k.pin → j.net ≢ k.net → HasPinOnTwo kinds d
    pin_on_two j k h i e f apart =
        let x = put_said j h in (
          j.comp,
          j.pin,
          j.net,
          k.net,
          known_pin j.comp j.pin x.1.0 x.1.1 x.1.2,
          on_pin j x.0,
          subst (λ p. IsOn d j.comp p k.net) (sym f) (subst (λ c. IsOn d c k.pin k.net) (sym e) (on_pin k (put_said k i).0)),
          apart,
        )

    -- ---- the netlist

    module _ (N : Netlist) (once : NamesOnce d) (nets : NetsAre (supply_among ss) (map (λ s. s.name) ss ++ map (λ p. p.net) d.pins) M) (tops : TopsAre d.pins M) (ties : M.ties ≡ from_list []) (reserved : M.reserved ≡ set.empty)
        (known : (j : NewJoint) → Has (all_pins_on ss) j → (has_pin (get M.comps j.comp) j.pin ≡ true) ⊎ (has_supply_pin powers d.comps j.comp j.pin ≡ true))
        (one : OneNetEach put_pins) (wired : IsRewired M put_pins [] N) (same : list_all (keeps_value (supply_among ss)) ss ≡ true) where
      consistent : IsConsistent kinds d
      consistent = record { once = once; one_net = λ a k p n m h e i. one_net one a.name p n m (record { of = a; kind = k; found = h; same = refl; known = e; has = i }); supplies = one_value same }

      net_is : (n : Name) → get N.nets n ≡ cond (list_any (λ m. bytes_eq m n) (map (λ s. s.name) ss ++ map (λ p. p.net) d.pins)) (Some (supply_among ss n)) None
      net_is n = wired.old_nets n (λ c. has_from_contains {A = Name} [] n c) ∙ nets n

      -- a name is that of a statement or of a top pin's net exactly where the design has the net
      named : (n : Name) → has_net d n ≡ true → list_any (λ m. bytes_eq m n) (map (λ s. s.name) ss ++ map (λ p. p.net) d.pins) ≡ true
      named n e = ⊎_elim
          (λ t.
          let s = any_has (λ s. bytes_eq s.name n) (statements d) t in
          has_any (λ m. bytes_eq m n) _ s.0.name (has_append_left (map (λ s. s.name) ss) (map (λ p. p.net) d.pins) s.0.name (has_map (λ s. s.name) ss s.0 (to s.0 s.1))) s.2)
          (λ t.
          let p = any_has (λ p. bytes_eq p.net n) d.pins t in
          has_any (λ m. bytes_eq m n) _ p.0.net (has_append_right (map (λ s. s.name) ss) (map (λ p. p.net) d.pins) p.0.net (has_map (λ p. p.net) d.pins p.0 p.1)) p.2)
          (or_cases (has_statement (statements d) n) (list_any (λ p. bytes_eq p.net n) d.pins) e)

      stated : (n : Name) → list_any (λ m. bytes_eq m n) (map (λ s. s.name) ss ++ map (λ p. p.net) d.pins) ≡ true → has_net d n ≡ true
      stated n e =
          let m = any_has (λ m. bytes_eq m n) (map (λ s. s.name) ss ++ map (λ p. p.net) d.pins) e in
          ⊎_elim
          (λ h.
          let s = has_of_map (λ (s : NamedNet). s.name) ss m.0 h in
          or_left (has_statement (statements d) n) _ (has_any (λ s. bytes_eq s.name n) (statements d) s.0 (from s.0 s.1) (ap (λ z. bytes_eq z n) s.2 ∙ m.2)))
          (λ h.
          let p = has_of_map (λ (p : NamedPin). p.net) d.pins m.0 h in
          or_right (has_statement (statements d) n) _ (has_any (λ p. bytes_eq p.net n) d.pins p.0 p.1 (ap (λ z. bytes_eq z n) p.2 ∙ m.2)))
          (has_of_append (map (λ s. s.name) ss) (map (λ p. p.net) d.pins) m.0 m.1)

      net_known : (n : Name) → IsNet N n → has_net d n ≡ true
      net_known n is = stated n (true_from_ne_false _ (λ f. not_None (sym is.1 ∙ net_is n ∙ ap (λ b. cond b (Some (supply_among ss n)) None) f)))

      known_net : (n : Name) → has_net d n ≡ true → IsNet N n
      known_net n e = (supply_among ss n, net_is n ∙ ap (λ b. cond b (Some (supply_among ss n)) None) (named n e))

      supply_said : (n : Name) (b : Bool) → get N.nets n ≡ Some (Some b) → IsSupply d n b
      supply_said n b e =
          let s = supply_found ss n b (go (list_any (λ m. bytes_eq m n) (map (λ s. s.name) ss ++ map (λ p. p.net) d.pins)) (sym (net_is n) ∙ e)) in
          supply_of n b s.0 s.1 s.2 s.3
        where
          go : (t : Bool) → cond t (Some (supply_among ss n)) None ≡ Some (Some b) → supply_among ss n ≡ Some b
          go true f = same_Some f
          go false f = absurd (not_None (sym f))

      said_supply : (n : Name) (b : Bool) → IsSupply d n b → get N.nets n ≡ Some (Some b)
      said_supply n b s =
          let has : has_net d n ≡ true = or_left (has_statement (statements d) n) _ (has_any (λ s. bytes_eq s.name n) (statements d) s.0 (has_from_contains (statements d) s.0 s.1) (is_name s.0.name n s.2)) in
          net_is n ∙ ap (λ t. cond t (Some (supply_among ss n)) None) (named n has) ∙ ap Some (first_value same n b s)

      -- a component was one of the same kind and place
      was : (c : Name) (x : Component) → get N.comps c ≡ Some x → (y : Component) × (get M.comps c ≡ Some y) × (frame y ≡ frame x)
      was c x e = go (get M.comps c) refl
        where
          go : (o : Option Component) → get M.comps c ≡ o → (y : Component) × (get M.comps c ≡ Some y) × (frame y ≡ frame x)
          go None f = absurd (not_None (sym (ap (option_map frame) e) ∙ wired.frames c ∙ ap (option_map frame) f))
          go (Some y) f = (y, f, same_Some (sym (ap (option_map frame) f) ∙ sym (wired.frames c) ∙ ap (option_map frame) e))

      stays : (c : Name) (y : Component) → get M.comps c ≡ Some y → (x : Component) × (get N.comps c ≡ Some x)
      stays c y e = go (get N.comps c) refl
        where
          go : (o : Option Component) → get N.comps c ≡ o → (x : Component) × (get N.comps c ≡ Some x)
          go None f = absurd (not_None (sym (ap (option_map frame) e) ∙ sym (wired.frames c) ∙ ap (option_map frame) f))
          go (Some x) f = (x, f)

      pin_put : (j : NewJoint) (c p : Name) → Has put_pins j → j.comp ≡ c → j.pin ≡ p → net_of N (CompPin c p) ≡ Some j.net
      pin_put j c p h e f = subst (λ q. net_of N (CompPin c q) ≡ Some j.net) f (subst (λ q. net_of N (CompPin q j.pin) ≡ Some j.net) e (wired.put j (contains_from_has put_pins j h)))

      pin_said : (c : Name) (x : Component) (p n : Name) → get N.comps c ≡ Some x → get x.joined p ≡ Some n → IsPin x p × IsOn d c p n
      pin_said c x p n e f = ⊎_elim put kept (for_some put_pins c p)
        where
          on : net_of N (CompPin c p) ≡ Some n
          on = ap (λ o. joined_at o p) e ∙ f

          put : (j : NewJoint) × Has put_pins j × (j.comp ≡ c) × (j.pin ≡ p) → IsPin x p × IsOn d c p n
          put r =
              let here = put_said r.0 r.1 in
              let y = here.1 in
              let z = was c x e in
              let one : y.0 ≡ z.0 = same_Some (sym y.1 ∙ ap (get M.comps) r.2 ∙ z.1) in
              let kind : y.0.kind ≡ x.kind = ap (λ w. w.kind) one ∙ ap (λ w. w.0) z.2 in
              let net : r.0.net ≡ n = same_Some (sym (pin_put r.0 c p r.1 r.2 r.3) ∙ on) in (
                (y.2.0, ap₃ kind r.3 ∙ y.2.1),
                subst (λ m. IsOn d c p m) net (subst (λ q. IsOn d c q r.0.net) r.3 (subst (λ q. IsOn d q r.0.pin r.0.net) r.2 (on_pin r.0 here.0))),
              )
            where
              ap₃ : {k l : Kind} {q r : Name} → k ≡ l → q ≡ r → fin.find name_cmp r (pins_of l) ≡ fin.find name_cmp q (pins_of k)
              ap₃ a b = sym (λ i. fin.find name_cmp (b i) (pins_of (a i)))

          kept : ((j : NewJoint) → Has put_pins j → (j.comp ≡ c) × (j.pin ≡ p) → ⊥) → IsPin x p × IsOn d c p n
          kept none =
              let z = was c x e in
              let a = comps.only c z.0 z.1 in
              absurd (not_None (sym on ∙ wired.kept c p (λ j h a b. none j (has_from_contains put_pins j h) (a, b)) ∙ ap (λ o. joined_at o p) z.1 ∙ ap (λ m. get m p) a.3.joined ∙ get-empty name_cmp p))

      said_pin : (c : Name) (x : Component) (p n : Name) → get N.comps c ≡ Some x → IsPin x p → IsOn d c p n → get x.joined p ≡ Some n
      said_pin c x p n e pin on =
          let y = was c x e in
          let kind : y.0.kind ≡ x.kind = ap (λ w. w.0) y.2 in
          let before : IsPin y.0 p = (pin.0, ap (λ k. fin.find name_cmp p (pins_of k)) kind ∙ pin.1) in
          sym (ap (λ o. joined_at o p) e) ∙ pin_put (record { comp = c; pin = p; net = n }) c p (said_put c p n y.0 y.1 before on) refl refl

      told : IsNetlistOf kinds [] d N
      told = record {
        nets = λ n. (net_known n, known_net n);
        supplies = λ n b. (supply_said n b, said_supply n b);
        comps = λ c x e.
            let y = was c x e in
            let a = comps.only c y.0 y.1 in
            (a.0, a.1, a.2, a.3.kind ∙ ap (λ w. Some w.0) y.2, sym (ap (λ w. w.1) y.2) ∙ a.3.place);
        all_comps = λ a k h e. let y = comps.each a h in stays a.name y.0 y.1;
        pins = λ c x p n e. (pin_said c x p n e, λ r. said_pin c x p n e r.0 r.1);
        tops = λ t x. (λ e. (tops t x).0 (sym (ap (λ m. get m t) wired.tops) ∙ e), λ r. ap (λ m. get m t) wired.tops ∙ (tops t x).1 r);
        tied = wired.ties ∙ ties;
        reserved = wired.reserved ∙ reserved;
      }

      pub listed : IsListed kinds powers d N
      listed = record {
        models = λ c h. let x = comps.each c h in (x.0.kind, x.2.kind);
        joints = λ s j h i e.
            let on = in_pins s j (has_from_contains s.joints j i) e in
            ⊎_elim
            (λ t. let x = known_is_pin M j.comp j.pin t in inl (known_pin j.comp j.pin x.0 x.1 x.2))
            (λ t. inr (supply_pin j.comp j.pin t))
            (known (joint_on_net s.name j) (in_flat_map stated_pins ss s (joint_on_net s.name j) (to s (has_from_contains (statements d) s h)) on));
        one_net = one_net one;
        consistent = consistent;
        netlist = (netlist_is kinds [] d consistent N).0 told;
      }
