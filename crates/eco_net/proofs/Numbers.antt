-- What the numbers of a listing say after a change of it, for crates above
use Rattle.std.proofs.Common.{◌≡◌, ◌≢◌, ℕ, zero, suc, ◌<◌, List, [], ◌∷◌, ◌++◌, length, Option, Some, None, refl, sym, ap, ◌∙◌, subst, slice_get, slice_set}
use Rattle.std.specs.Option.{option_map, unwrap_or}
use Rattle.eco_net.specs.declared.ids.PinRef.{PinRef}
use Rattle.eco_net.specs.declared.ids.PinRef.TheVariants.{Top, Pin}
use Rattle.eco_net.specs.declared.rows.CompRow.{CompRow}
use Rattle.eco_net.specs.declared.rows.TopRow.{TopRow}
use Rattle.eco_net.specs.Netlist.{Name, TopPin, CompPin, Role}
use Rattle.eco_net.specs.Listing.{Listing, pins, pin_at, numbered_pin, HasPin, IsKnownPin, rejoined}
use Rattle.eco_net.proofs.Basics.{same_Some, not_None}
use Rattle.eco_net.proofs.Places.{has_pin_row}
use Rattle.std.proofs.lemmas.Option.{slice_get_within}
-- rows that stood, and the one that is added
pub use Rattle.eco_net.proofs.Places.{push_cases, push_old, push_last, at_place}
-- the nets of numbers after a net is added, and after one is marked as a tie net
pub use Rattle.eco_net.proofs.Changed.{pushed_alike, tied_alike}
pub use Rattle.eco_net.proofs.Added.{joint_length, tie_length}
-- the pins of a gate by number
pub use Rattle.eco_net.proofs.KindPins.{input_at, output_at}

-- ---- a component that is added

module _ (L : Listing) (row : CompRow) where
  abbrev more : Listing
  more = record L { comps = L.comps ++ row ∷ [] }

  -- its pins
  pub new_pin_known : (k : ℕ) → k < length (pins row) → IsKnownPin more (Pin (record { 0 = length L.comps }) k)
  new_pin_known k h = subst (λ o. HasPin o k) (sym (push_last L.comps row)) h

  pub new_pin_named : (k : ℕ) (p : Name × Role) → slice_get (pins row) k ≡ Some p → numbered_pin more (Pin (record { 0 = length L.comps }) k) ≡ CompPin row.name p.0
  new_pin_named k p e = ap (λ o. pin_at o k) (push_last L.comps row) ∙ ap (λ o. CompPin row.name (unwrap_or (option_map (λ p. p.0) o) [])) e

  -- pins that were known
  pub old_pin_known : (p : PinRef) → IsKnownPin L p → IsKnownPin more p
  old_pin_known (Top t) h = h
  old_pin_known (Pin c k) h = let w = has_pin_row (slice_get L.comps c.0) k h in subst (λ o. HasPin o k) (sym (push_old L.comps row c.0 w.0 w.1)) w.2

  pub old_pin_named : (p : PinRef) → IsKnownPin L p → numbered_pin more p ≡ numbered_pin L p
  old_pin_named (Top t) h = refl
  old_pin_named (Pin c k) h = let w = has_pin_row (slice_get L.comps c.0) k h in ap (λ o. pin_at o k) (push_old L.comps row c.0 w.0 w.1 ∙ sym w.1)

-- ---- a pin that is put on another net, or on none

-- the component's row, and every other row
pub rejoined_here : (rows : List CompRow) (c k : ℕ) (j : Option ℕ) (r : CompRow) → slice_get rows c ≡ Some r → slice_get (rejoined rows c k j) c ≡ Some (record r { joined = slice_set r.joined k j })
rejoined_here [] c k j r e = absurd (not_None (sym e))
rejoined_here (x ∷ rows) zero k j r e = ap (λ (y : CompRow). Some (record y { joined = slice_set y.joined k j })) (same_Some e)
rejoined_here (x ∷ rows) (suc c) k j r e = rejoined_here rows c k j r e

pub rejoined_there : (rows : List CompRow) (c k : ℕ) (j : Option ℕ) (d : ℕ) → d ≢ c → slice_get (rejoined rows c k j) d ≡ slice_get rows d
rejoined_there [] c k j d n = refl
rejoined_there (x ∷ rows) zero k j zero n = absurd (n refl)
rejoined_there (x ∷ rows) zero k j (suc d) n = refl
rejoined_there (x ∷ rows) (suc c) k j zero n = refl
rejoined_there (x ∷ rows) (suc c) k j (suc d) n = rejoined_there rows c k j d (λ e. n (ap suc e))

-- no name, kind or place changes
abbrev pub AlikeRows : Option CompRow → Option CompRow → Type 0
AlikeRows None None = Unit {0}
AlikeRows None (Some s) = ⊥
AlikeRows (Some r) None = ⊥
AlikeRows (Some r) (Some s) = (s.name ≡ r.name) × (s.kind ≡ r.kind) × (s.place ≡ r.place)

same_row : (o : Option CompRow) → AlikeRows o o
same_row None = tt
same_row (Some r) = (refl, refl, refl)

pub rejoined_alike : (rows : List CompRow) (c k : ℕ) (j : Option ℕ) (d : ℕ) → AlikeRows (slice_get rows d) (slice_get (rejoined rows c k j) d)
rejoined_alike [] c k j d = tt
rejoined_alike (x ∷ rows) zero k j zero = (refl, refl, refl)
rejoined_alike (x ∷ rows) zero k j (suc d) = same_row (slice_get rows d)
rejoined_alike (x ∷ rows) (suc c) k j zero = (refl, refl, refl)
rejoined_alike (x ∷ rows) (suc c) k j (suc d) = rejoined_alike rows c k j d

rejoined_pin : (rows : List CompRow) (c k : ℕ) (j : Option ℕ) (d i : ℕ) → pin_at (slice_get (rejoined rows c k j) d) i ≡ pin_at (slice_get rows d) i
rejoined_pin [] c k j d i = refl
rejoined_pin (x ∷ rows) zero k j zero i = refl
rejoined_pin (x ∷ rows) zero k j (suc d) i = refl
rejoined_pin (x ∷ rows) (suc c) k j zero i = refl
rejoined_pin (x ∷ rows) (suc c) k j (suc d) i = rejoined_pin rows c k j d i

rejoined_known : (rows : List CompRow) (c k : ℕ) (j : Option ℕ) (d i : ℕ) → HasPin (slice_get rows d) i → HasPin (slice_get (rejoined rows c k j) d) i
rejoined_known [] c k j d i h = h
rejoined_known (x ∷ rows) zero k j zero i h = h
rejoined_known (x ∷ rows) zero k j (suc d) i h = h
rejoined_known (x ∷ rows) (suc c) k j zero i h = h
rejoined_known (x ∷ rows) (suc c) k j (suc d) i h = rejoined_known rows c k j d i h

module _ (L : Listing) (c k : ℕ) (j : Option ℕ) where
  abbrev changed : Listing
  changed = record L { comps = rejoined L.comps c k j }

  pub same_pin_named : (p : PinRef) → numbered_pin changed p ≡ numbered_pin L p
  same_pin_named (Top t) = refl
  same_pin_named (Pin d i) = rejoined_pin L.comps c k j d.0 i

  pub same_pin_known : (p : PinRef) → IsKnownPin L p → IsKnownPin changed p
  same_pin_known (Top t) h = h
  same_pin_known (Pin d i) h = rejoined_known L.comps c k j d.0 i h

-- ---- a top pin that is added

module _ (L : Listing) (row : TopRow) where
  abbrev wider : Listing
  wider = record L { tops = L.tops ++ row ∷ [] }

  pub top_pin_known : (p : PinRef) → IsKnownPin L p → IsKnownPin wider p
  top_pin_known (Top t) h = let w = at_place L.tops t.0 h in slice_get_within (L.tops ++ row ∷ []) t.0 w.0 (push_old L.tops row t.0 w.0 w.1)
  top_pin_known (Pin c k) h = h

  pub top_pin_named : (p : PinRef) → IsKnownPin L p → numbered_pin wider p ≡ numbered_pin L p
  top_pin_named (Top t) h =
      let w = at_place L.tops t.0 h in
      ap (λ o. TopPin (unwrap_or (option_map (λ (r : TopRow). r.name) o) [])) (push_old L.tops row t.0 w.0 w.1 ∙ sym w.1)
  top_pin_named (Pin c k) h = refl
