-- A component of a listing: its pins by number and by name
use Rattle.std.proofs.Common.{◌≡◌, ℕ, ◌<◌, [], length, Some, sym, ap, ◌∙◌, subst, slice_get}
use Rattle.std.specs.Option.{option_map, unwrap_or}
use Rattle.std.specs.FinMap.{get}
use Rattle.std.proofs.lemmas.Option.{slice_get_within}
use Rattle.eco_net.specs.declared.ids.CompId.{CompId}
use Rattle.eco_net.specs.declared.ids.PinRef.TheVariants.{Pin}
use Rattle.eco_net.specs.declared.rows.CompRow.{CompRow}
use Rattle.eco_net.specs.Netlist.{Name, Component, Role, CompPin, role_of}
use Rattle.eco_net.specs.Drivers.{net_of, joined_at, dir_of_role}
use Rattle.eco_net.specs.ByNumber.{role_at}
use Rattle.eco_net.specs.Listing.{Listing, netlist, component, pins, comp_names, pin_at, numbered_pin, HasPin, IsKnownPin}
use Rattle.eco_net.specs.Kept.{IsListing}
use Rattle.eco_net.proofs.Places.{row_of_name}
use Rattle.eco_net.proofs.Named.{comp_is, role_is}

-- a component of this name
pub record CompAt (L : Listing) (name : Name) (c : ℕ) : Type 0 where
  pub row : CompRow
  pub is : slice_get L.comps c ≡ Some row
  pub named : row.name ≡ name

pub comp_at : (L : Listing) (name : Name) (c : ℕ) → slice_get (comp_names L) c ≡ Some name → CompAt L name c
comp_at L name c e = let r = row_of_name (λ r. r.name) L.comps c name e in record { row = r.0; is = r.1; named = r.2 }

pub place_within : (L : Listing) (name : Name) (c : ℕ) → slice_get (comp_names L) c ≡ Some name → c < length L.comps
place_within L name c e = let g = comp_at L name c e in slice_get_within L.comps c g.row g.is

module _ (L : Listing) (is : IsListing L) (name : Name) (c : CompId) (g : CompAt L name c.0) where
  abbrev pub its : Component
  its = component L.nets g.row

  pub its_found : get (netlist L).comps name ≡ Some its
  its_found = ap (get (netlist L).comps) (sym g.named) ∙ comp_is L is c.0 g.row g.is

  module _ (k : ℕ) (p : Name × Role) (at : slice_get (pins g.row) k ≡ Some p) where
    pub pin_known : IsKnownPin L (Pin c k)
    pin_known = subst (λ o. HasPin o k) (sym g.is) (slice_get_within (pins g.row) k p at)

    pub pin_name : numbered_pin L (Pin c k) ≡ CompPin name p.0
    pin_name =
        ap (λ o. pin_at o k) g.is
        ∙ ap (λ o. CompPin g.row.name (unwrap_or (option_map (λ p. p.0) o) [])) at
        ∙ ap (λ n. CompPin n p.0) g.named

    -- the net that the pin is on
    pub pin_net : net_of (netlist L) (numbered_pin L (Pin c k)) ≡ get its.joined p.0
    pin_net = ap (net_of (netlist L)) pin_name ∙ ap (λ o. joined_at o p.0) its_found

    pub pin_role : role_of its p.0 ≡ Some p.1
    pin_role = role_is L is c.0 g.row k p g.is at

    -- its direction
    pub pin_dir : option_map dir_of_role (role_at (slice_get L.comps c.0) k) ≡ option_map dir_of_role (role_of its p.0)
    pin_dir =
        ap (λ o. option_map dir_of_role (role_at o k)) g.is
        ∙ ap (λ o. option_map dir_of_role (option_map (λ (p : Name × Role). p.1) o)) at
        ∙ ap (option_map dir_of_role) (sym pin_role)
