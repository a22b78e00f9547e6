-- Pins at rest by number and by name, and stock as spares
use Rattle.std.proofs.Common.{◌≡◌, ℕ, ◌<◌, Bool, true, not, ◌&&◌, List, length, Option, Some, None, refl, sym, ap, ◌∙◌, slice_get, is_some, true≢false}
use Rattle.std.specs.Option.{option_map}
use Rattle.std.specs.List.{list_all}
use Rattle.std.specs.FinMap.{get, find}
use Rattle.std.proofs.lemmas.Bool.{and_parts}
use Rattle.eco_net.specs.declared.rows.NetRow.{NetRow}
use Rattle.eco_net.specs.declared.rows.CompRow.{CompRow}
use Rattle.eco_net.specs.declared.ids.CompId.{CompId}
use Rattle.eco_net.specs.declared.ids.PinRef.TheVariants.{Pin as PinNumber}
use Rattle.eco_net.specs.Netlist.{Name, name_cmp, Component, Kind, Gate, Boxed, Role, GateOutput, pins_of}
use Rattle.eco_net.specs.Drivers.{net_of, joined_at, dir_of_role}
use Rattle.eco_net.specs.Listing.{Listing, netlist, component, pins, numbered_pin}
use Rattle.eco_net.specs.Kept.{IsListing}
use Rattle.eco_net.specs.ByNumber.{role_at}
use Rattle.eco_net.proofs.Basics.{same_Some}
use Rattle.eco_net.proofs.Named.{comp_is, found_at, pin_known}
use Rattle.eco_net.proofs.PinNames.{PinRow, pin_name_is}
use Rattle.eco_net.specs.Bases.{IsSpare}
use Rattle.eco_desk_file.specs.Desk.{Desk, is_spare_named}
use Rattle.eco_base.specs.Stock.{is_at_rest, is_gate, is_idle}
use Rattle.eco_base.specs.StockLaws.{StockIsSpare}
use Rattle.eco_base.proofs.Lists.{all_at}

-- a pin of a row's component is at rest
abbrev pub pin_rests : Desk → List NetRow → CompRow → Name × Role → Bool
pin_rests desk nets r p = is_at_rest desk (dir_of_role p.1) (get (component nets r).joined p.0)

pub rests_at : (L : Listing) (is : IsListing L) (desk : Desk) (c : CompId) (r : CompRow) (k : ℕ) (b : Bool) → slice_get L.comps c.0 ≡ Some r → k < length (pins r)
    → option_map (λ role. is_at_rest desk (dir_of_role role) (net_of (netlist L) (numbered_pin L (PinNumber c k)))) (role_at (slice_get L.comps c.0) k) ≡ Some b
    → (p : Name × Role) × (slice_get (pins r) k ≡ Some p) × (pin_rests desk L.nets r p ≡ b)
rests_at L is desk c r k b e h f =
    let p = pin_known (length L.nets) r (is.rows c.0 r e) k h in
    let w : PinRow L c.0 k = record { row = r; is = e; pin = p.0; at = p.1; net = p.2; joint = p.3 } in
    let net : net_of (netlist L) (numbered_pin L (PinNumber c k)) ≡ get (component L.nets r).joined p.0.0 =
    ap (net_of (netlist L)) (pin_name_is L c.0 k w) ∙ ap (λ o. joined_at o p.0.0) (comp_is L is c.0 r e) in
    let role : role_at (slice_get L.comps c.0) k ≡ Some p.0.1 = ap (λ o. role_at o k) e ∙ ap (option_map (λ q. q.1)) p.1 in (
      p.0,
      p.1,
      ap (is_at_rest desk (dir_of_role p.0.1)) (sym net)
          ∙ same_Some (sym (ap (option_map (λ role. is_at_rest desk (dir_of_role role) (net_of (netlist L) (numbered_pin L (PinNumber c k))))) role) ∙ f),
    )

-- ---- stock

none_of : {A : Type 0} (o : Option A) → not (is_some o) ≡ true → o ≡ None
none_of None e = refl
none_of (Some x) e = absurd (true≢false (sym e))

spare_of : (desk : Desk) (x : Component) (k : Kind) → x.kind ≡ k → is_gate k ≡ true → list_all (λ p. is_at_rest desk (dir_of_role p.1) (get x.joined p.0)) (pins_of k) ≡ true → IsSpare x
spare_of desk x (Boxed ps) e g h = absurd (true≢false (sym g))
spare_of desk x (Gate ins outs) e g h = record {
  inputs = ins;
  outputs = outs;
  gate = e;
  off = λ p t r.
      let w = found_at (pins_of (Gate ins outs)) p (GateOutput t) (ap (λ k. find name_cmp p (pins_of k)) (sym e) ∙ r) in
      none_of (get x.joined p) (all_at (λ q. is_at_rest desk (dir_of_role q.1) (get x.joined q.0)) (pins_of (Gate ins outs)) w.0 (p, GateOutput t) h w.1);
}

pub stock_spare : StockIsSpare
stock_spare desk c x h =
    let a = and_parts (is_spare_named desk.prefixes c) (is_some x.place && is_idle desk x) h in
    let b = and_parts (is_some x.place) (is_idle desk x) a.1 in
    let d = and_parts (is_gate x.kind) (list_all (λ p. is_at_rest desk (dir_of_role p.1) (get x.joined p.0)) (pins_of x.kind)) b.1 in
    spare_of desk x x.kind refl d.0 d.1
