-- Pins by number, and their names
use Rattle.std.proofs.Common.{◌≡◌, ℕ, ◌<◌, Bool, true, false, cond, [], length, Option, Some, None, refl, sym, ap, ap₂, ◌∙◌, subst, slice_get}
use Rattle.std.specs.Option.{option_map, option_and_then, unwrap_or}
use Rattle.std.proofs.lemmas.Option.{slice_get_within}
use Rattle.std.specs.Cmp.Lexicographic.{nat_list_cmp_total}
use Rattle.std.specs.FinMap.{get, get-from_entries}
use Rattle.eco_net.specs.declared.rows.NetRow.{NetRow}
use Rattle.eco_net.specs.declared.rows.CompRow.{CompRow}
use Rattle.eco_net.specs.declared.rows.TopRow.{TopRow}
use Rattle.eco_net.specs.declared.ids.PinRef.{PinRef}
use Rattle.eco_net.specs.declared.ids.PinRef.TheVariants.{Top as TopNumber, Pin as PinNumber}
use Rattle.eco_net.specs.Netlist.{Name, Component, Top, Pin, TopPin, CompPin, Role, role_of}
use Rattle.eco_net.specs.Drivers.{driven, driven_at, driven_top, drives_inward, is_driving, net_of, joined_at}
use Rattle.eco_net.specs.Listing.{Listing, netlist, pins, net_name, pin_at, numbered_pin, HasPin, IsKnownPin}
use Rattle.eco_net.specs.Kept.{IsListing}
use Rattle.eco_net.specs.ByNumber.{joint_at, role_at, end_of, drives_end, net_at, drives}
use Rattle.eco_net.proofs.Basics.{same_Some, not_None}
use Rattle.eco_net.proofs.Decide.{same_comp, same_place}
use Rattle.eco_net.proofs.Places.{at_place, name_of_row, has_pin_row}
use Rattle.eco_net.proofs.Named.{pin_known, comp_is, top_is, role_is, joined_is, comp_of, top_of, named_joint}

-- what is known of a component's pin
pub record PinRow (L : Listing) (c k : ℕ) : Type 0 where
  pub row : CompRow
  pub is : slice_get L.comps c ≡ Some row
  pub pin : Name × Role
  pub at : slice_get (pins row) k ≡ Some pin
  pub net : Option ℕ
  pub joint : slice_get row.joined k ≡ Some net

-- what is known of a top pin
pub record TopAt (L : Listing) (t : ℕ) : Type 0 where
  pub row : TopRow
  pub is : slice_get L.tops t ≡ Some row

pub pin_row : (L : Listing) → IsListing L → (c : ℕ) (k : ℕ) → HasPin (slice_get L.comps c) k → PinRow L c k
pin_row L is c k h =
    let r = has_pin_row (slice_get L.comps c) k h in
    let p = pin_known (length L.nets) r.0 (is.rows c r.0 r.1) k r.2 in
    record { row = r.0; is = r.1; pin = p.0; at = p.1; net = p.2; joint = p.3 }

pub top_row : (L : Listing) (t : ℕ) → t < length L.tops → TopAt L t
top_row L t h = let r = at_place L.tops t h in record { row = r.0; is = r.1 }

-- ---- names of known pins

pub pin_name_is : (L : Listing) (c k : ℕ) (w : PinRow L c k) → pin_at (slice_get L.comps c) k ≡ CompPin w.row.name w.pin.0
pin_name_is L c k w = ap (λ o. pin_at o k) w.is ∙ ap (λ o. CompPin w.row.name (unwrap_or (option_map (λ p. p.0) o) [])) w.at

pub top_name_is : (L : Listing) (t : ℕ) (w : TopAt L t) → TopPin (unwrap_or (option_map (λ r. r.name) (slice_get L.tops t)) []) ≡ TopPin w.row.name
top_name_is L t w = ap (λ o. TopPin (unwrap_or (option_map (λ r. r.name) o) [])) w.is

pub pin_net_is : (L : Listing) (c k : ℕ) (w : PinRow L c k) → joint_at (slice_get L.comps c) k ≡ w.net
pin_net_is L c k w = ap (λ o. joint_at o k) w.is ∙ ap (option_and_then (λ j. j)) w.joint

pub pin_role_is : (L : Listing) (c k : ℕ) (w : PinRow L c k) → role_at (slice_get L.comps c) k ≡ Some w.pin.1
pin_role_is L c k w = ap (λ o. role_at o k) w.is ∙ ap (option_map (λ p. p.1)) w.at

abbrev pub drives_net : Listing → PinRef → Option ℕ
drives_net L p = cond (drives L p) (net_at L p) None

module _ (L : Listing) (is : IsListing L) where
  -- ---- from numbers to names

  pub pin_joined : (c k : ℕ) (w : PinRow L c k) → joined_at (get (netlist L).comps w.row.name) w.pin.0 ≡ option_map (net_name L.nets) w.net
  pin_joined c k w = ap (λ o. joined_at o w.pin.0) (comp_is L is c w.row w.is) ∙ joined_is L is c w.row k w.pin w.net w.is w.at w.joint

  -- the net that a known pin is on
  pub net_named : (p : PinRef) → IsKnownPin L p → net_of (netlist L) (numbered_pin L p) ≡ option_map (net_name L.nets) (net_at L p)
  net_named (TopNumber t) h =
      let w = top_row L t.0 h in
      ap (net_of (netlist L)) (top_name_is L t.0 w)
      ∙ ap (option_map (λ x. x.net)) (top_is L is t.0 w.row w.is)
      ∙ sym (ap (λ o. option_map (net_name L.nets) (end_of o)) w.is)
  net_named (PinNumber c k) h =
      let w = pin_row L is c.0 k h in
      ap (net_of (netlist L)) (pin_name_is L c.0 k w)
      ∙ pin_joined c.0 k w
      ∙ sym (ap (option_map (net_name L.nets)) (pin_net_is L c.0 k w))

  driven_is : (c k : ℕ) (w : PinRow L c k) → driven_at (get (netlist L).comps w.row.name) w.pin.0 ≡ cond (is_driving (Some w.pin.1)) (option_map (net_name L.nets) w.net) None
  driven_is c k w =
      ap (λ o. driven_at o w.pin.0) (comp_is L is c w.row w.is)
      ∙ ap₂ (λ o j. cond (is_driving o) j None) (role_is L is c w.row k w.pin w.is w.at) (joined_is L is c w.row k w.pin w.net w.is w.at w.joint)

  pushed : (b : Bool) (j : Option ℕ) → cond b (option_map (net_name L.nets) j) None ≡ option_map (net_name L.nets) (cond b j None)
  pushed true j = refl
  pushed false j = refl

  top_pushed : (b : Bool) (n : ℕ) → cond b (Some (net_name L.nets n)) None ≡ option_map (net_name L.nets) (cond b (Some n) None)
  top_pushed true n = refl
  top_pushed false n = refl

  -- the net that a known pin drives
  pub driven_named : (p : PinRef) → IsKnownPin L p → driven (netlist L) (numbered_pin L p) ≡ option_map (net_name L.nets) (drives_net L p)
  driven_named (TopNumber t) h =
      let w = top_row L t.0 h in
      ap (driven (netlist L)) (top_name_is L t.0 w)
      ∙ ap driven_top (top_is L is t.0 w.row w.is)
      ∙ top_pushed (drives_inward w.row.dir) w.row.net
      ∙ sym (ap (λ o. option_map (net_name L.nets) (cond (drives_end o) (end_of o) None)) w.is)
  driven_named (PinNumber c k) h =
      let w = pin_row L is c.0 k h in
      ap (driven (netlist L)) (pin_name_is L c.0 k w)
      ∙ driven_is c.0 k w
      ∙ pushed (is_driving (Some w.pin.1)) w.net
      ∙ sym (ap₂ (λ o j. option_map (net_name L.nets) (cond (is_driving o) j None)) (pin_role_is L c.0 k w) (pin_net_is L c.0 k w))

  -- ---- from names to numbers

  -- a pin on a net is a known one
  pub pin_on : (q : Pin) (n : Name) → net_of (netlist L) q ≡ Some n → (p : PinRef) × IsKnownPin L p × (numbered_pin L p ≡ q)
  pin_on (TopPin t) n e = go (get (netlist L).tops t) refl e
    where
      go : (o : Option Top) → get (netlist L).tops t ≡ o → option_map (λ x. x.net) o ≡ Some n → (p : PinRef) × IsKnownPin L p × (numbered_pin L p ≡ TopPin t)
      go None f e = absurd (not_None (sym e))
      go (Some x) f e =
          let w = top_of L is t x f in
          (TopNumber (record { 0 = w.0 }), slice_get_within L.tops w.0 w.1 w.2, ap (λ o. TopPin (unwrap_or (option_map (λ r. r.name) o) [])) w.2 ∙ ap TopPin w.3)
  pin_on (CompPin c q) n e = go (get (netlist L).comps c) refl e
    where
      go : (o : Option Component) → get (netlist L).comps c ≡ o → joined_at o q ≡ Some n → (p : PinRef) × IsKnownPin L p × (numbered_pin L p ≡ CompPin c q)
      go None f e = absurd (not_None (sym e))
      go (Some x) f e =
          let w = comp_of L is c x f in
          let m = named_joint L.nets (pins w.1) w.1.joined q n (sym (get-from_entries nat_list_cmp_total _ q) ∙ ap (λ (y : Component). get y.joined q) w.4 ∙ e) in (
            PinNumber (record { 0 = w.0 }) m.0,
            subst (λ o. HasPin o m.0) (sym w.2) (slice_get_within (pins w.1) m.0 m.1 m.3),
            ap (λ o. pin_at o m.0) w.2 ∙ ap (λ o. CompPin w.1.name (unwrap_or (option_map (λ p. p.0) o) [])) m.3 ∙ ap₂ CompPin w.3 m.4,
          )

  driven_on : (q : Pin) (n : Name) → driven (netlist L) q ≡ Some n → net_of (netlist L) q ≡ Some n
  driven_on (TopPin t) n e = go (get (netlist L).tops t) e
    where
      with_dir : (b : Bool) (m : Name) → cond b (Some m) None ≡ Some n → Some m ≡ Some n
      with_dir true m e = e
      with_dir false m e = absurd (not_None (sym e))

      go : (o : Option Top) → driven_top o ≡ Some n → option_map (λ x. x.net) o ≡ Some n
      go None e = absurd (not_None (sym e))
      go (Some x) e = with_dir (drives_inward x.dir) x.net e
  driven_on (CompPin c q) n e = go (get (netlist L).comps c) e
    where
      with_role : (b : Bool) (j : Option Name) → cond b j None ≡ Some n → j ≡ Some n
      with_role true j e = e
      with_role false j e = absurd (not_None (sym e))

      go : (o : Option Component) → driven_at o q ≡ Some n → joined_at o q ≡ Some n
      go None e = absurd (not_None (sym e))
      go (Some x) e = with_role (is_driving (role_of x q)) (get x.joined q) e

  -- a pin that drives a net is a known one
  pub pin_driving : (q : Pin) (n : Name) → driven (netlist L) q ≡ Some n → (p : PinRef) × IsKnownPin L p × (numbered_pin L p ≡ q)
  pin_driving q n e = pin_on q n (driven_on q n e)

  -- ---- one number for each name

  pub same_net : (i j : ℕ) → i < length L.nets → j < length L.nets → net_name L.nets i ≡ net_name L.nets j → i ≡ j
  same_net i j g h e =
      let a = at_place L.nets i g in
      let b = at_place L.nets j h in
      let s : a.0.name ≡ b.0.name = sym (ap (λ o. unwrap_or (option_map (λ r. r.name) o) []) a.1) ∙ e ∙ ap (λ o. unwrap_or (option_map (λ r. r.name) o) []) b.1 in
      is.nets i j b.0.name (name_of_row (λ r. r.name) L.nets i a.0 a.1 ∙ ap Some s) (name_of_row (λ r. r.name) L.nets j b.0 b.1)

  pub net_name_is : (i : ℕ) (r : NetRow) → slice_get L.nets i ≡ Some r → net_name L.nets i ≡ r.name
  net_name_is i r e = ap (λ o. unwrap_or (option_map (λ r. r.name) o) []) e

  top_name : {s t : Name} → TopPin s ≡ TopPin t → s ≡ t
  top_name e = cc

  same_top : (t u : ℕ) → t < length L.tops → u < length L.tops → TopPin (unwrap_or (option_map (λ r. r.name) (slice_get L.tops t)) []) ≡ TopPin (unwrap_or (option_map (λ r. r.name) (slice_get L.tops u)) []) → t ≡ u
  same_top t u g h e =
      let a = top_row L t g in
      let b = top_row L u h in
      let s : a.row.name ≡ b.row.name = top_name (sym (top_name_is L t a) ∙ e ∙ top_name_is L u b) in
      is.tops t u b.row.name (name_of_row (λ r. r.name) L.tops t a.row a.is ∙ ap Some s) (name_of_row (λ r. r.name) L.tops u b.row b.is)

  same_number : (c k d j : ℕ) → HasPin (slice_get L.comps c) k → HasPin (slice_get L.comps d) j → pin_at (slice_get L.comps c) k ≡ pin_at (slice_get L.comps d) j → (c ≡ d) × (k ≡ j)
  same_number c k d j g h e =
      let a = pin_row L is c k g in
      let b = pin_row L is d j h in
      let s : CompPin a.row.name a.pin.0 ≡ CompPin b.row.name b.pin.0 = sym (pin_name_is L c k a) ∙ e ∙ pin_name_is L d j b in
      let f : c ≡ d = is.comps c d b.row.name (name_of_row (λ r. r.name) L.comps c a.row a.is ∙ ap Some (same_comp s)) (name_of_row (λ r. r.name) L.comps d b.row b.is) in
      let r : a.row ≡ b.row = same_Some (sym a.is ∙ ap (slice_get L.comps) f ∙ b.is) in
      (f, (is.rows d b.row b.is).kind.apart k j b.pin.0 (name_of_row (λ p. p.0) (pins b.row) k a.pin (ap (λ x. slice_get (pins x) k) (sym r) ∙ a.at) ∙ ap Some (same_place s)) (name_of_row (λ p. p.0) (pins b.row) j b.pin b.at))

  top_apart : (t : ℕ) (c k : ℕ) → t < length L.tops → HasPin (slice_get L.comps c) k → TopPin (unwrap_or (option_map (λ r. r.name) (slice_get L.tops t)) []) ≡ pin_at (slice_get L.comps c) k → ⊥
  top_apart t c k g h e = let a = pin_row L is c k h in let s = e ∙ pin_name_is L c k a in cc

  -- a known pin has one number
  pub same_pin : (p q : PinRef) → IsKnownPin L p → IsKnownPin L q → numbered_pin L p ≡ numbered_pin L q → p ≡ q
  same_pin (TopNumber t) (TopNumber u) g h e = ap (λ n. TopNumber (record { 0 = n })) (same_top t.0 u.0 g h e)
  same_pin (TopNumber t) (PinNumber c k) g h e = absurd (top_apart t.0 c.0 k g h e)
  same_pin (PinNumber c k) (TopNumber t) g h e = absurd (top_apart t.0 c.0 k h g (sym e))
  same_pin (PinNumber c k) (PinNumber d j) g h e =
      let s = same_number c.0 k d.0 j g h e in
      ap₂ (λ a b. PinNumber (record { 0 = a }) b) s.0 s.1

  -- a pin's net is a known one
  pub known_net : (p : PinRef) (n : ℕ) → IsKnownPin L p → net_at L p ≡ Some n → n < length L.nets
  known_net (TopNumber t) n h e =
      let w = top_row L t.0 h in
      subst (λ m. m < length L.nets) (same_Some (sym (ap end_of w.is) ∙ e)) (is.ends t.0 w.row w.is)
  known_net (PinNumber c k) n h e =
      let w = pin_row L is c.0 k h in
      (is.rows c.0 w.row w.is).known k n (w.joint ∙ ap Some (sym (pin_net_is L c.0 k w) ∙ e))
