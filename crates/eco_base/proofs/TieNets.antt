-- Tie nets by number and by name
use Rattle.std.proofs.Common.{◌≡◌, ◌↔◌, ℕ, Bool, false, List, [], ◌∷◌, Option, Some, None, sym, ap, ◌∙◌, subst, slice_get, inl, inr, ⊎_elim}
use Rattle.std.specs.Option.{option_map}
use Rattle.std.specs.FinMap.{get}
use Rattle.std.proofs.lemmas.Option.{slice_get-map}
use Rattle.eco_net.specs.declared.kind.Kind.{Kind}
use Rattle.eco_net.specs.declared.rows.NetRow.{NetRow}
use Rattle.eco_net.specs.declared.rows.CompRow.{CompRow}
use Rattle.eco_net.specs.declared.ids.CompId.{CompId}
use Rattle.eco_net.specs.declared.ids.PinRef.{PinRef}
use Rattle.eco_net.specs.declared.ids.PinRef.TheVariants.{Pin as PinNumber}
use Rattle.eco_net.specs.Netlist.{Name, Netlist, Component, Pin, CompPin, GateOutput, role_of, input_nets}
use Rattle.eco_net.specs.Drivers.{IsDriver}
use Rattle.eco_net.specs.Listing.{Listing, netlist, component, comp_names, net_name, numbered_pin, IsKnownPin}
use Rattle.eco_net.specs.Kept.{IsListing}
use Rattle.eco_net.proofs.Basics.{same_Some, not_None}
use Rattle.eco_net.proofs.Named.{comp_is, net_is, role_is}
use Rattle.eco_net.proofs.PinNames.{pin_row, pin_name_is, net_name_is}
use Rattle.eco_desk_file.specs.Desk.{is_spare_named}
use Rattle.eco_base.specs.Constants.{constant_at}
use Rattle.eco_base.specs.Ties.{IsTieOutput, IsTieNet}
use Rattle.eco_base.proofs.Lists.{row_at}
use Rattle.eco_base.proofs.ConstantPins.{constant_named, named_constant, no_inputs}

module _ (L : Listing) (is : IsListing L) (prefixes : List Name) where
  -- ---- outputs

  module _ (c : CompId) (k : ℕ) (known : IsKnownPin L (PinNumber c k)) (name : Name) (named : slice_get (comp_names L) c.0 ≡ Some name) (b : Bool) where
    abbrev row : CompRow
    row = (pin_row L is c.0 k known).row

    abbrev pin_is : numbered_pin L (PinNumber c k) ≡ CompPin (pin_row L is c.0 k known).row.name (pin_row L is c.0 k known).pin.0
    pin_is = pin_name_is L c.0 k (pin_row L is c.0 k known)

    same_comp : (pin_row L is c.0 k known).row.name ≡ name
    same_comp = let w = pin_row L is c.0 k known in same_Some (sym (slice_get-map (λ (r : CompRow). r.name) L.comps c.0 ∙ ap (option_map (λ (r : CompRow). r.name)) w.is) ∙ named)

    pub output_named : (kind : Kind) → option_map (λ r. r.kind) (slice_get L.comps c.0) ≡ Some kind → is_spare_named prefixes name ≡ false → constant_at kind k ≡ Some b → IsTieOutput prefixes (netlist L) (numbered_pin L (PinNumber c k)) b
    output_named kind at free e =
        let w = pin_row L is c.0 k known in
        let kinds : w.row.kind ≡ kind = same_Some (sym (ap (option_map (λ (r : CompRow). r.kind)) w.is) ∙ at) in
        let v = constant_named w.row.kind k w.pin b (is.rows c.0 w.row w.is).kind.rows w.at (ap (λ x. constant_at x k) kinds ∙ e) in
        subst (λ p. IsTieOutput prefixes (netlist L) p b) (sym (pin_name_is L c.0 k w)) (
          ap (is_spare_named prefixes) same_comp ∙ free,
          component L.nets w.row,
          comp_is L is c.0 w.row w.is,
          (no_inputs (component L.nets w.row)).1 v.0,
          role_is L is c.0 w.row k w.pin w.is w.at ∙ ap Some v.1,
        )

    pub named_output : (kind : Kind) → option_map (λ r. r.kind) (slice_get L.comps c.0) ≡ Some kind → IsTieOutput prefixes (netlist L) (numbered_pin L (PinNumber c k)) b → (is_spare_named prefixes name ≡ false) × (constant_at kind k ≡ Some b)
    named_output kind at t =
        let w = pin_row L is c.0 k known in
        let kinds : w.row.kind ≡ kind = same_Some (sym (ap (option_map (λ (r : CompRow). r.kind)) w.is) ∙ at) in
        let o = subst (λ p. IsTieOutput prefixes (netlist L) p b) (pin_name_is L c.0 k w) t in
        let x : o.1 ≡ component L.nets w.row = same_Some (sym o.2 ∙ comp_is L is c.0 w.row w.is) in
        let none = (no_inputs (component L.nets w.row)).0 (ap input_nets (sym x) ∙ o.3) in
        let role : w.pin.1 ≡ GateOutput (b ∷ []) = same_Some (sym (role_is L is c.0 w.row k w.pin w.is w.at) ∙ ap (λ (y : Component). role_of y w.pin.0) (sym x) ∙ o.4) in (
          ap (is_spare_named prefixes) (sym same_comp) ∙ o.0,
          ap (λ y. constant_at y k) (sym kinds) ∙ named_constant w.row.kind k w.pin b (is.rows c.0 w.row w.is).kind.rows w.at none role,
        )

  -- ---- nets

  supply_is : (n : ℕ) (s : Option Bool) → option_map (λ r. r.supply) (slice_get L.nets n) ≡ Some s → get (netlist L).nets (net_name L.nets n) ≡ Some s
  supply_is n s e =
      let w = row_at (λ (r : NetRow). r.supply) (slice_get L.nets n) s e in
      ap (get (netlist L).nets) (net_name_is L is n w.0 w.1) ∙ net_is L is n w.0 w.1 ∙ ap Some w.2

  none_some : {s : Bool} → Some None ≡ Some (Some s) → ⊥
  none_some e = cc

  -- a supply is a tie net of its own value
  pub supplied : (n : ℕ) (s b : Bool) → option_map (λ r. r.supply) (slice_get L.nets n) ≡ Some (Some s) → IsTieNet prefixes (netlist L) (net_name L.nets n) b ↔ s ≡ b
  supplied n s b e =
      let at = supply_is n (Some s) e in (
        λ t. ⊎_elim (λ h. same_Some (same_Some (sym at ∙ h))) (λ w. absurd (none_some (sym w.0 ∙ at))) t,
        λ h. inl (at ∙ ap (λ v. Some (Some v)) h),
      )

  -- another net is one by its driver
  pub driven_by : (n : ℕ) (p : PinRef) (b : Bool) → option_map (λ r. r.supply) (slice_get L.nets n) ≡ Some None → IsDriver (netlist L) (net_name L.nets n) (numbered_pin L p) → IsTieNet prefixes (netlist L) (net_name L.nets n) b ↔ IsTieOutput prefixes (netlist L) (numbered_pin L p) b
  driven_by n p b e d =
      let at = supply_is n None e in (
        λ t. ⊎_elim (λ h. absurd (none_some (sym at ∙ h))) (λ w. subst (λ q. IsTieOutput prefixes (netlist L) q b) (d.only w.1 w.2.drives) w.3) t,
        λ o. inr (at, numbered_pin L p, d, o),
      )

  pub undriven : (n : ℕ) (b : Bool) → option_map (λ r. r.supply) (slice_get L.nets n) ≡ Some None → ((q : Pin) → IsDriver (netlist L) (net_name L.nets n) q → ⊥) → IsTieNet prefixes (netlist L) (net_name L.nets n) b → ⊥
  undriven n b e none t = ⊎_elim (λ h. none_some (sym (supply_is n None e) ∙ h)) (λ w. none w.1 w.2) t

pub no_net : (N : Netlist) (prefixes : List Name) (n : Name) (b : Bool) → get N.nets n ≡ None → IsTieNet prefixes N n b → ⊥
no_net N prefixes n b e t = ⊎_elim (λ h. not_None (sym h ∙ e)) (λ w. not_None (sym w.0 ∙ e)) t
