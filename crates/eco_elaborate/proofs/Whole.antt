-- The stages of listing a design, put together.
use Rattle.std.proofs.Common.{◌≡◌, ℕ, Bool, true, false, cond, ◌&&◌, List, [], ◌∷◌, ◌++◌, map, Option, Some, None, refl, sym, ap, ◌∙◌, subst, ◌⊎◌}
use Rattle.std.specs.List.{list_any, list_all}
use Rattle.std.specs.Str.{bytes_eq}
use Rattle.std.specs.FinMap.{get, empty, get-empty}
use Rattle.std.proofs.lemmas.List.Folds.{list_all-map}
use Rattle.eco_def.specs.declared.design.Design.{Design}
use Rattle.eco_def.specs.Named.{NamedComp, NamedPin, NamedNet, NamedDesign, comp_names, pin_names, names_of}
use Rattle.eco_def.specs.View.{comp_in, pin_in, design_in}
use Rattle.eco_def.specs.Sections.{IsReadingOf}
use Rattle.eco_common.specs.Joints.{NewJoint}
use Rattle.eco_net.specs.Netlist.{Name, name_cmp, Component, Netlist, CompPin, IsNet}
use Rattle.eco_net.specs.Drivers.{net_of, joined_at}
use Rattle.eco_net.specs.declared.rows.CompRow.{CompRow}
use Rattle.eco_net.specs.Listing as net
use Rattle.eco_net.specs.Listing.{Listing, netlist, AreDistinctNames}
use Rattle.eco_net.specs.Changes.{empty_netlist}
use Rattle.eco_net.specs.Kept.{IsListing}
use Rattle.eco_net.proofs.Basics.{Has, contains_from_has, has_from_contains, has_append_left, has_append_right, has_map, has_of_map, not_None}
use Rattle.eco_elaborate.specs.declared.fault.DesignFault.{DesignFault}
use Rattle.eco_elaborate.specs.declared.fault.DesignFault.TheVariants.{UnknownMacro, UnknownPin, PinNetDiffers, SupplyDiffers, Memory}
use Rattle.eco_elaborate.specs.declared.joined_pin.JoinedPin.{JoinedPin}
use Rattle.eco_elaborate.specs.Netlists.{Kinds, Powers, supply_by}
use Rattle.eco_elaborate.specs.Stated.{named_comp, named_pin, named_net, named_comps, named_pins, named_nets, supply_among, all_pins_on}
use Rattle.eco_net.specs.Joints.{IsRewired, OneNetEach}
use Rattle.eco_elaborate.specs.Building.{IsListed, IsFault}
use Rattle.eco_elaborate.specs.Stages.{agree, keeps_value, NetsAre, CompsAre, TopsAre, MacroFault, IsUnknownJoint, has_pin, known_pins, has_supply_pin, PinFault, JoinFault, design_net_names, AddsNets, AddsComps, AddsTops, NetsListed, PartsListed, FindsPins, JoinsPins}
use Rattle.eco_elaborate.proofs.Names.{is_name}
use Rattle.eco_elaborate.proofs.Members.{has_any}
use Rattle.eco_elaborate.proofs.Adding.{nets_added}
use Rattle.eco_elaborate.proofs.Stating.{to_text, from_text}
use Rattle.eco_elaborate.proofs.FindingPins.{map_twice}
use Rattle.eco_elaborate.proofs.ReadOnce.{read_once, comps_apart, pins_apart}
use Rattle.eco_elaborate.proofs.Assembling.{pin_on_two, unknown_pin, two_values, listed}

-- ---- nothing is listed

pub no_nets : (value : Name → Option Bool) → NetsAre value [] empty_netlist
no_nets value n = get-empty name_cmp n

pub no_comps : (kinds : Kinds) (units : ℕ) (N : Netlist) → N.comps ≡ empty → CompsAre kinds units [] N
no_comps kinds units N e = record {
  each = λ c h. absurd (has_from_contains {A = NamedComp} [] c h);
  only = λ n x f. absurd (not_None (sym f ∙ ap (λ m. get m n) e ∙ get-empty name_cmp n));
}

pub no_tops : (N : Netlist) → N.tops ≡ empty → TopsAre [] N
no_tops N e t x = (λ f. absurd (not_None (sym f ∙ ap (λ m. get m t) e ∙ get-empty name_cmp t)), λ r. absurd (has_from_contains {A = NamedPin} [] r.0 r.1))

-- ---- nets

-- the nets of the statements, and then those of the design's own pins
pub nets_listed : (value : Name → Option Bool) (text : List ℕ) (d : Design) (L M N : Listing) → L ≡ record { nets = []; comps = []; tops = []; reserved = [] } → netlist L ≡ empty_netlist →
    AddsNets value (map (λ s. (named_net text s).name) d.nets) L M → AddsNets value (map (λ p. (named_pin text p).net) d.pins) M N → NetsListed value text d N
nets_listed value text d L M N none named a b = record {
  nets = b.nets (map (λ s. (named_net text s).name) d.nets) (a.nets [] (subst (NetsAre value []) (sym named) (no_nets value)));
  others = (nets_added value _ _ L M N a b).others ∙ ap (λ (m : Netlist). record m { nets = (netlist N).nets }) named;
  no_comps = ap (λ (m : Listing). m.comps) b.rows ∙ ap (λ (m : Listing). m.comps) a.rows ∙ ap (λ (m : Listing). m.comps) none;
  no_tops = ap (λ (m : Listing). m.tops) b.rows ∙ ap (λ (m : Listing). m.tops) a.rows ∙ ap (λ (m : Listing). m.tops) none;
}

comps_stay : (kinds : Kinds) (units : ℕ) (cs : List NamedComp) (M N : Netlist) → N.comps ≡ M.comps → CompsAre kinds units cs M → CompsAre kinds units cs N
comps_stay kinds units cs M N e are = record {
  each = λ c h. let x = are.each c h in (x.0, ap (λ m. get m c.name) e ∙ x.1, x.2);
  only = λ n x f. are.only n x (sym (ap (λ m. get m n) e) ∙ f);
}

-- the components, and then the design's own pins
pub parts_listed : (kinds : Kinds) (value : Name → Option Bool) (text : List ℕ) (d : Design) (L M N : Listing) → NetsListed value text d L →
    AddsComps kinds d.units (named_comps text d.comps) L M → AddsTops (named_pins text d.pins) M N → PartsListed kinds value text d N
parts_listed kinds value text d L M N nets a b = record {
  nets = subst (NetsAre value (design_net_names text d)) (sym b.others) (subst (NetsAre value (design_net_names text d)) (sym a.others) nets.nets);
  comps = comps_stay kinds d.units (named_comps text d.comps) (netlist M) (netlist N) (ap (λ (m : Netlist). m.comps) b.others) (a.comps [] (no_comps kinds d.units (netlist L) (ap (λ (m : Netlist). m.comps) nets.others)));
  numbers =
      ap (λ (m : Listing). net.comp_names m) b.rows ∙ a.names ∙ ap (λ rows. map (λ (r : CompRow). r.name) rows ++ map (λ (c : NamedComp). c.name) (named_comps text d.comps)) nets.no_comps;
  tops = b.tops [] (no_tops (netlist M) (ap (λ (m : Netlist). m.tops) a.others ∙ ap (λ (m : Netlist). m.tops) nets.others));
  ties = ap (λ (m : Netlist). m.ties) b.others ∙ ap (λ (m : Netlist). m.ties) a.others ∙ ap (λ (m : Netlist). m.ties) nets.others;
  reserved = ap (λ (m : Netlist). m.reserved) b.others ∙ ap (λ (m : Netlist). m.reserved) a.others ∙ ap (λ (m : Netlist). m.reserved) nets.others;
}

-- a name among these is a net
pub net_among : (value : Name → Option Bool) (names : List Name) (N : Netlist) (n : Name) → NetsAre value names N → Has names n → IsNet N n
net_among value names N n are h = (value n, are n ∙ ap (λ b. cond b (Some (value n)) None) (has_any (λ m. bytes_eq m n) names n h (is_name n n refl)))

module _ (text : List ℕ) (d : Design) where
  pub statement_net : (value : Name → Option Bool) (N : Netlist) → NetsAre value (design_net_names text d) N → (s : NamedNet) → Has (named_nets text d.nets) s → IsNet N s.name
  statement_net value N are s h =
      let z = has_of_map (named_net text) d.nets s h in
      net_among value (design_net_names text d) N s.name are
      (has_append_left (map (λ s. (named_net text s).name) d.nets) (map (λ p. (named_pin text p).net) d.pins) s.name
      (subst (λ n. Has (map (λ s. (named_net text s).name) d.nets) n) (ap (λ (z : NamedNet). z.name) z.2) (has_map (λ s. (named_net text s).name) d.nets z.0 z.1)))

  pub pin_net : (value : Name → Option Bool) (N : Netlist) → NetsAre value (design_net_names text d) N → (p : NamedPin) → Has (named_pins text d.pins) p → IsNet N p.net
  pin_net value N are p h =
      let z = has_of_map (named_pin text) d.pins p h in
      net_among value (design_net_names text d) N p.net are
      (has_append_right (map (λ s. (named_net text s).name) d.nets) (map (λ p. (named_pin text p).net) d.pins) p.net
      (subst (λ n. Has (map (λ p. (named_pin text p).net) d.pins) n) (ap (λ (z : NamedPin). z.net) z.2) (has_map (λ p. (named_pin text p).net) d.pins z.0 z.1)))

  -- ---- the design's own names

  module _ (reading : IsReadingOf text d) where
    abbrev D : NamedDesign
    D = names_of (design_in text d)

    pub names_apart : AreDistinctNames (map (λ c. (named_comp text c).name) d.comps)
    names_apart = subst AreDistinctNames (map_twice (λ c. c.name.bytes) (comp_in text) d.comps) (comps_apart text (design_in text d) reading.read)

    pub tops_apart : AreDistinctNames (map (λ p. (named_pin text p).name) d.pins)
    tops_apart = subst AreDistinctNames (map_twice (λ p. p.name.bytes) (pin_in text) d.pins) (pins_apart text (design_in text d) reading.read)

    pub same_comps : named_comps text d.comps ≡ D.comps
    same_comps = sym (map_twice comp_names (comp_in text) d.comps)

    same_pins : named_pins text d.pins ≡ D.pins
    same_pins = sym (map_twice pin_names (pin_in text) d.pins)

    -- the same names, by statements and pins
    same_names : design_net_names text d ≡ map (λ s. s.name) (named_nets text d.nets) ++ map (λ p. p.net) D.pins
    same_names = λ i. sym (map_twice (λ (s : NamedNet). s.name) (named_net text) d.nets) i ++ (sym (map_twice (λ (p : NamedPin). p.net) (named_pin text) d.pins) ∙ ap (map (λ (p : NamedPin). p.net)) same_pins) i

    -- ---- what is found of pins

    -- every component's pins are unconnected
    pub off_all : (kinds : Kinds) (units : ℕ) (cs : List NamedComp) (N : Netlist) → CompsAre kinds units cs N → (c p : Name) → net_of N (CompPin c p) ≡ None
    off_all kinds units cs N are c p = go (get N.comps c) refl
      where
        go : (o : Option Component) → get N.comps c ≡ o → net_of N (CompPin c p) ≡ None
        go None e = ap (λ o. joined_at o p) e
        go (Some x) e = let a = are.only c x e in ap (λ o. joined_at o p) e ∙ ap (λ m. get m p) a.3.joined ∙ get-empty name_cmp p

    module _ (kinds : Kinds) (powers : Powers) (value : Name → Option Bool) (values : (n : Name) → value n ≡ supply_among (named_nets text d.nets) n) (L : Listing) (parts : PartsListed kinds value text d L) where
      abbrev ss : List NamedNet
      ss = named_nets text d.nets

      abbrev powered : Name → Name → Bool
      powered = has_supply_pin powers (named_comps text d.comps)

      -- the pins that are put on nets
      abbrev put : List NewJoint
      put = known_pins (netlist L) (all_pins_on ss)

      comps : CompsAre kinds D.units D.comps (netlist L)
      comps = subst (λ cs. CompsAre kinds D.units cs (netlist L)) same_comps parts.comps

      pub macro_fault : (fault : DesignFault) → MacroFault kinds D.comps fault → IsFault kinds powers D fault
      macro_fault UnknownMacro f = f
      macro_fault UnknownPin f = absurd f
      macro_fault PinNetDiffers f = absurd f
      macro_fault SupplyDiffers f = absurd f
      macro_fault Memory f = f

      pub pin_fault : (fault : DesignFault) → PinFault powered (netlist L) (all_pins_on ss) fault → IsFault kinds powers D fault
      pin_fault UnknownMacro f = absurd f
      pin_fault UnknownPin f =
          unknown_pin kinds powers D ss (to_text text d) (from_text text d) (netlist L) comps f.0 (has_from_contains (all_pins_on ss) f.0 f.1)
          (subst (λ cs. IsUnknownJoint (has_supply_pin powers cs) (netlist L) f.0.comp f.0.pin) same_comps f.2)
      pin_fault PinNetDiffers f = absurd f
      pin_fault SupplyDiffers f = absurd f
      pin_fault Memory f = f

      pub join_fault : (fault : DesignFault) → JoinFault put fault → IsFault kinds powers D fault
      join_fault UnknownMacro f = absurd f
      join_fault UnknownPin f = absurd f
      join_fault PinNetDiffers f = pin_on_two kinds powers D ss (to_text text d) (from_text text d) (netlist L) comps f.0 f.1 (has_from_contains put f.0 f.2) (has_from_contains put f.1 f.3) f.4 f.5 f.6
      join_fault SupplyDiffers f = absurd f
      join_fault Memory f = f

      -- the test of supplies is that of the statements by names
      agreeing : list_all (λ s. keeps_value value (named_net text s)) d.nets ≡ list_all (keeps_value (supply_among ss)) ss
      agreeing = sym (list_all-map (keeps_value value) (named_net text) d.nets) ∙ go ss
        where
          go : (ts : List NamedNet) → list_all (keeps_value value) ts ≡ list_all (keeps_value (supply_among ss)) ts
          go [] = refl
          go (t ∷ ts) = λ i. ◌&&◌ (agree (supply_by t.usage) (values t.name i)) (go ts i)

      pub supply_fault : list_all (λ s. keeps_value value (named_net text s)) d.nets ≡ false → IsFault kinds powers D SupplyDiffers
      supply_fault e = two_values kinds powers D ss (to_text text d) (from_text text d) (sym agreeing ∙ e)

      pub whole : IsListing L → (pins : List JoinedPin) → FindsPins powered L (all_pins_on ss) [] pins → (M : Listing) → JoinsPins L pins M → list_all (λ s. keeps_value value (named_net text s)) d.nets ≡ true → IsListed kinds powers D (netlist M)
      whole is pins found M joined same =
          listed kinds powers D ss (to_text text d) (from_text text d) (netlist L) comps (netlist M) (read_once text (design_in text d) reading.read)
          (λ n. subst (λ names. get (netlist L).nets n ≡ cond (list_any (λ m. bytes_eq m n) names) (Some (supply_among ss n)) None) same_names (parts.nets n ∙ ap (λ v. cond (list_any (λ m. bytes_eq m n) (design_net_names text d)) (Some v) None) (values n)))
          (subst (λ ps. TopsAre ps (netlist L)) same_pins parts.tops)
          parts.ties parts.reserved
          (λ j h. subst (λ cs. (has_pin (get (netlist L).comps j.comp) j.pin ≡ true) ⊎ (has_supply_pin powers cs j.comp j.pin ≡ true)) same_comps (found.each j (contains_from_has (all_pins_on ss) j h)))
          (subst OneNetEach found.joints joined.one)
          (subst (λ js. IsRewired (netlist L) js [] (netlist M)) found.joints joined.wired)
          (sym agreeing ∙ same)
