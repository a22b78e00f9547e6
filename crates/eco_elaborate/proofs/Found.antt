-- What is found in the netlist of a design, by the statements that say it.
use Rattle.std.proofs.Common.{◌≡◌, Bool, true, false, cond, not, ◌&&◌, List, [], ◌∷◌, map, Option, Some, None, refl, sym, ap, ◌∙◌, subst, inl, inr, true≢false, filter}
use Rattle.std.specs.List.{find}
use Rattle.std.specs.Option.{option_map}
use Rattle.std.specs.Str.{bytes_eq}
use Rattle.std.specs.FinMap.{get}
use Rattle.std.proofs.lemmas.Bool.{and_parts, and_from, or_left}
use Rattle.eco_common.specs.Options.{first_some}
use Rattle.eco_def.specs.Named.{NamedComp, NamedPin, NamedNet, NamedDesign}
use Rattle.eco_issued_laws.specs.Changes.{has_statement, has_net, statements}
use Rattle.eco_net.specs.Netlist.{Name, Kind, Component, Top, Netlist}
use Rattle.eco_net.proofs.Basics.{Has, contains_from_has, has_from_contains, same_Some, not_None}
use Rattle.eco_elaborate.specs.Netlists.{Kinds, supply_by, net_supply, has_joint, net_of_pin, component_in, known_comps, top_of, netlist_of}
use Rattle.eco_elaborate.specs.Described.{IsOn, IsSupply}
use Rattle.eco_elaborate.proofs.Names.{same_name, is_name}
use Rattle.eco_elaborate.proofs.Members.{any_has, has_any, of_filter, in_filter, found_passes, passes_found, of_filter_map, in_filter_map}
use Rattle.eco_elaborate.proofs.Lookups.{net_is, comp_is, top_is}
use Rattle.eco_elaborate.proofs.Nets.{supply_among}

-- ---- supplies

pub supply_found : (ss : List NamedNet) (n : Name) (b : Bool) → supply_among ss n ≡ Some b → (s : NamedNet) × Has ss s × (s.name ≡ n) × (supply_by s.usage ≡ Some b)
supply_found [] n b e = absurd (not_None (sym e))
supply_found (s ∷ ss) n b e = go (bytes_eq s.name n) refl (supply_by s.usage) refl (λ f. supply_found ss n b f) e
  where
    go : (t : Bool) → bytes_eq s.name n ≡ t → (o : Option Bool) → supply_by s.usage ≡ o → (supply_among ss n ≡ Some b → (z : NamedNet) × Has ss z × (z.name ≡ n) × (supply_by z.usage ≡ Some b)) →
        first_some (map (λ s. supply_by s.usage) (cond t (s ∷ filter (λ s. bytes_eq s.name n) ss) (filter (λ s. bytes_eq s.name n) ss))) ≡ Some b → (z : NamedNet) × Has (s ∷ ss) z × (z.name ≡ n) × (supply_by z.usage ≡ Some b)
    go true t None o rest f =
        let r = rest (sym (ap (λ u. first_some (u ∷ map (λ s. supply_by s.usage) (filter (λ s. bytes_eq s.name n) ss))) o) ∙ f) in
        (r.0, inr r.1, r.2, r.3)
    go true t (Some a) o rest f = (s, inl refl, same_name s.name n t, o ∙ sym (ap (λ u. first_some (u ∷ map (λ s. supply_by s.usage) (filter (λ s. bytes_eq s.name n) ss))) o) ∙ f)
    go false t o u rest f = let r = rest f in (r.0, inr r.1, r.2, r.3)

pub supply_stands : (ss : List NamedNet) (n : Name) (s : NamedNet) (b : Bool) → Has ss s → s.name ≡ n → supply_by s.usage ≡ Some b → (a : Bool) × (supply_among ss n ≡ Some a)
supply_stands [] n s b h e f = absurd h
supply_stands (z ∷ zs) n s b h e f = go (bytes_eq z.name n) refl (supply_by z.usage) refl (λ i. supply_stands zs n s b i e f) h
  where
    go : (t : Bool) → bytes_eq z.name n ≡ t → (o : Option Bool) → supply_by z.usage ≡ o → (Has zs s → (a : Bool) × (supply_among zs n ≡ Some a)) → Has (z ∷ zs) s →
        (a : Bool) × (first_some (map (λ s. supply_by s.usage) (cond t (z ∷ filter (λ s. bytes_eq s.name n) zs) (filter (λ s. bytes_eq s.name n) zs))) ≡ Some a)
    go true t None o rest (inl i) = absurd (not_None (sym f ∙ ap (λ y. supply_by y.usage) (sym i) ∙ o))
    go true t None o rest (inr i) = let r = rest i in (r.0, ap (λ u. first_some (u ∷ map (λ s. supply_by s.usage) (filter (λ s. bytes_eq s.name n) zs))) o ∙ r.1)
    go true t (Some a) o rest i = (a, ap (λ u. first_some (u ∷ map (λ s. supply_by s.usage) (filter (λ s. bytes_eq s.name n) zs))) o)
    go false t o u rest (inl i) = absurd (true≢false (sym (is_name z.name n (ap (λ y. y.name) i ∙ e)) ∙ t))
    go false t o u rest (inr i) = rest i

module _ (kinds : Kinds) (ties : List Name) (d : NamedDesign) where
  abbrev N : Netlist
  N = netlist_of kinds ties d

  pub supply_said : (n : Name) (b : Bool) → get N.nets n ≡ Some (Some b) → IsSupply d n b
  supply_said n b e =
      let r = supply_found (statements d) n b (go (has_net d n) (sym (net_is kinds ties d n) ∙ e)) in
      (r.0, contains_from_has (statements d) r.0 r.1, r.2, r.3)
    where
      go : (t : Bool) → cond t (Some (net_supply d n)) None ≡ Some (Some b) → net_supply d n ≡ Some b
      go true f = same_Some f
      go false f = absurd (not_None (sym f))

  -- a net that a statement makes a supply is one, if of no other value
  pub said_supply : (n : Name) (b : Bool) → ((a : Bool) → IsSupply d n a → a ≡ b) → IsSupply d n b → get N.nets n ≡ Some (Some b)
  said_supply n b one s =
      let h = has_from_contains (statements d) s.0 s.1 in
      let a = supply_stands (statements d) n s.0 b h s.2 s.3 in
      let known = or_left (has_statement (statements d) n) _ (has_any (λ s. bytes_eq s.name n) (statements d) s.0 h (is_name s.0.name n s.2)) in
      let found : get N.nets n ≡ Some (Some a.0) = net_is kinds ties d n ∙ ap (λ b. cond b (Some (net_supply d n)) None) known ∙ ap Some a.1 in
      found ∙ ap (λ b. Some (Some b)) (one a.0 (supply_said n a.0 found))

  -- ---- components

  abbrev IsNamed : NamedComp × Kind → Name → Type 0
  IsNamed x c = Has d.comps x.0 × (x.0.name ≡ c) × (kinds.kind x.0.model ≡ Some x.1)

  known_is : (a : NamedComp) (x : NamedComp × Kind) (o : Option Kind) → kinds.kind a.model ≡ o → option_map (λ k. (a, k)) o ≡ Some x → (x.0 ≡ a) × (kinds.kind a.model ≡ Some x.1)
  known_is a x None e f = absurd (not_None (sym f))
  known_is a x (Some k) e f = let s = same_Some f in (ap (λ z. z.0) (sym s), e ∙ ap (λ z. Some z.1) s)

  pub named_by : (c : Name) (x : NamedComp × Kind) → find (λ x. bytes_eq x.0.name c) (known_comps kinds d) ≡ Some x → IsNamed x c
  named_by c x e =
      let r = found_passes (λ x. bytes_eq x.0.name c) (known_comps kinds d) x e in
      let a = of_filter_map (λ c. option_map (λ k. (c, k)) (kinds.kind c.model)) d.comps x r.0 in
      let k = known_is a.0 x (kinds.kind a.0.model) refl a.2 in
      (subst (Has d.comps) (sym k.0) a.1, same_name x.0.name c r.1, ap (λ z. kinds.kind z.model) k.0 ∙ k.1)

  -- a component of the netlist is one of the design
  pub comp_said : (c : Name) (x : Component) → get N.comps c ≡ Some x → (y : NamedComp × Kind) × Has d.comps y.0 × (y.0.name ≡ c) × (kinds.kind y.0.model ≡ Some y.1) × (component_in kinds d y.0 y.1 ≡ x)
  comp_said c x e = go (find (λ x. bytes_eq x.0.name c) (known_comps kinds d)) refl (sym (comp_is kinds ties d c) ∙ e)
    where
      go : (o : Option (NamedComp × Kind)) → find (λ x. bytes_eq x.0.name c) (known_comps kinds d) ≡ o → option_map (λ y. component_in kinds d y.0 y.1) o ≡ Some x →
          (y : NamedComp × Kind) × Has d.comps y.0 × (y.0.name ≡ c) × (kinds.kind y.0.model ≡ Some y.1) × (component_in kinds d y.0 y.1 ≡ x)
      go None f g = absurd (not_None (sym g))
      go (Some y) f g = let r = named_by c y f in (y, r.0, r.1, r.2, same_Some g)

  pub said_comp : (a : NamedComp) (k : Kind) → Has d.comps a → kinds.kind a.model ≡ Some k → (x : Component) × (get N.comps a.name ≡ Some x)
  said_comp a k h e =
      let i = in_filter_map (λ c. option_map (λ k. (c, k)) (kinds.kind c.model)) d.comps a (a, k) h (ap (option_map (λ k. (a, k))) e) in
      let r = passes_found (λ x. bytes_eq x.0.name a.name) (known_comps kinds d) (a, k) i (is_name a.name a.name refl) in
      (component_in kinds d r.0.0 r.0.1, comp_is kinds ties d a.name ∙ ap (option_map (λ x. component_in kinds d x.0 x.1)) r.1)

  -- ---- top pins

  pub top_said : (t : Name) (x : Top) → get N.tops t ≡ Some x → (p : NamedPin) × Has d.pins p × (p.supply ≡ false) × (p.name ≡ t) × (top_of p ≡ x)
  top_said t x e = go (find (λ p. bytes_eq p.name t) (filter (λ p. not p.supply) d.pins)) refl (sym (top_is kinds ties d t) ∙ e)
    where
      signal : (b : Bool) → not b ≡ true → b ≡ false
      signal true f = sym f
      signal false f = refl

      go : (o : Option NamedPin) → find (λ p. bytes_eq p.name t) (filter (λ p. not p.supply) d.pins) ≡ o → option_map top_of o ≡ Some x → (p : NamedPin) × Has d.pins p × (p.supply ≡ false) × (p.name ≡ t) × (top_of p ≡ x)
      go None f g = absurd (not_None (sym g))
      go (Some p) f g =
          let r = found_passes (λ p. bytes_eq p.name t) (filter (λ p. not p.supply) d.pins) p f in
          let s = of_filter (λ p. not p.supply) d.pins p r.0 in
          (p, s.0, signal p.supply s.1, same_name p.name t r.1, same_Some g)

  pub said_top : (p : NamedPin) → Has d.pins p → p.supply ≡ false → (q : NamedPin) × Has d.pins q × (q.name ≡ p.name) × (get N.tops p.name ≡ Some (top_of q))
  said_top p h e =
      let i = in_filter (λ p. not p.supply) d.pins p h (ap not e) in
      let r = passes_found (λ q. bytes_eq q.name p.name) (filter (λ p. not p.supply) d.pins) p i (is_name p.name p.name refl) in
      let s = found_passes (λ q. bytes_eq q.name p.name) (filter (λ p. not p.supply) d.pins) r.0 r.1 in
      (r.0, (of_filter (λ p. not p.supply) d.pins r.0 s.0).0, same_name r.0.name p.name s.1, top_is kinds ties d p.name ∙ ap (option_map top_of) r.1)

-- ---- pins

-- the net of a pin's first statement is one that it is on
pub on_first : (d : NamedDesign) (c p n : Name) → net_of_pin d c p ≡ Some n → IsOn d c p n
on_first d c p n e = go (find (has_joint c p) (statements d)) refl e
  where
    go : (o : Option NamedNet) → find (has_joint c p) (statements d) ≡ o → option_map (λ s. s.name) o ≡ Some n → IsOn d c p n
    go None f g = absurd (not_None (sym g))
    go (Some s) f g =
        let r = found_passes (has_joint c p) (statements d) s f in
        has_any (λ s. bytes_eq s.name n && has_joint c p s) (statements d) s r.0 (and_from (bytes_eq s.name n) (has_joint c p s) (is_name s.name n (same_Some g)) r.1)

pub on_statement : (d : NamedDesign) (c p n : Name) → IsOn d c p n → (s : NamedNet) × Has (statements d) s × (s.name ≡ n) × (has_joint c p s ≡ true)
on_statement d c p n e =
    let r = any_has (λ s. bytes_eq s.name n && has_joint c p s) (statements d) e in
    let a = and_parts (bytes_eq r.0.name n) (has_joint c p r.0) r.2 in
    (r.0, r.1, same_name r.0.name n a.0, a.1)

pub statement_on : (d : NamedDesign) (c p n : Name) (s : NamedNet) → Has (statements d) s → s.name ≡ n → has_joint c p s ≡ true → IsOn d c p n
statement_on d c p n s h e f = has_any (λ s. bytes_eq s.name n && has_joint c p s) (statements d) s h (and_from (bytes_eq s.name n) (has_joint c p s) (is_name s.name n e) f)
