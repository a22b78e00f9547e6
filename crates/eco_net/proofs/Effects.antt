-- What each change of a listing does to the netlist by names: the calls of `NetlistMaker`, for crates above
use Rattle.std.proofs.Common.{◌≡◌, ◌≢◌, ℕ, zero, suc, Bool, false, List, [], ◌∷◌, ◌++◌, map, length, Option, Some, None, refl, sym, ap, ◌∙◌, slice_get, slice_set, replicate}
use Rattle.std.specs.List.{filter}
use Rattle.std.proofs.lemmas.List.{map_push, append-nil}
use Rattle.std.proofs.lemmas.List.Elements.{filter-append}
use Rattle.std.specs.Cmp.Lexicographic.{nat_list_cmp_total}
use Rattle.std.specs.FinMap.{FinMap, get, insert, from_entries, get-from_entries, get-insert, get-remove, remove, from_entries_push, same_map}
use Rattle.std.specs.FinSet as set
use Rattle.std.proofs.lemmas.Map.Lookups.{exact_bytes}
use Rattle.eco_common.specs.declared.geometry.Dir.{Dir}
use Rattle.eco_common.specs.declared.geometry.Point.{Point}
use Rattle.eco_net.specs.declared.kind.Kind.{Kind as Given}
use Rattle.eco_net.specs.declared.ids.CompId.{CompId}
use Rattle.eco_net.specs.declared.ids.PinRef.TheVariants.{Pin}
use Rattle.eco_net.specs.declared.rows.NetRow.{NetRow}
use Rattle.eco_net.specs.declared.rows.CompRow.{CompRow}
use Rattle.eco_net.specs.declared.rows.TopRow.{TopRow}
use Rattle.eco_net.specs.Netlist.{Name, name_cmp, Component, Role, pins_of, IsNet, IsPin}
use Rattle.eco_net.specs.Listing.{Listing, netlist, component, top, pins, net_name, given_kind, rejoined, with_joint, without_joint, with_tie, numbered_pin, IsKnownPin}
use Rattle.eco_net.specs.Changes.{empty_netlist, with_net, with_comp, with_top, with_tie_net, with_reserved, with_pin_on, with_pin_off, on_net, on_none}
use Rattle.eco_net.specs.Kept.{IsListing}
use Rattle.eco_net.proofs.Basics.{get_same, get_other}
use Rattle.eco_net.proofs.Added.{nothing, joint_set}
use Rattle.eco_net.proofs.Changed.{comps_alike, tops_alike, pushed_alike, tied_alike, joints_none, joined_put, row_put, tied_set}
pub use Rattle.eco_net.proofs.Named.{comp_is, top_is, net_is, role_is, joined_is, comp_of, top_of, net_found, found_at}
pub use Rattle.eco_net.proofs.PinNames.{PinRow, TopAt, pin_row, top_row, pin_name_is, top_name_is, net_named, net_name_is, pin_on, same_net, same_pin, known_net}

-- ---- rows and names

-- a name that no row has
pub new_row : {R X : Type 0} (name : R → Name) (f : R → X) (rows : List R) (row : R) → get (from_entries {R = name_cmp} (map (λ r. (name r, f r)) rows)) (name row) ≡ None → from_entries {R = name_cmp} (map {B = Name × X} (λ r. (name r, f r)) (rows ++ row ∷ [])) ≡ insert (from_entries (map (λ r. (name r, f r)) rows)) (name row) (f row)
new_row {R = R} {X = X} name f rows row new =
    ap (from_entries {R = name_cmp}) (pushed rows row)
    ∙ from_entries_push nat_list_cmp_total exact_bytes (map (λ r. (name r, f r)) rows) (name row) (f row) (sym (get-from_entries nat_list_cmp_total (map (λ r. (name r, f r)) rows) (name row)) ∙ new)
  where
    pushed : (rows : List R) (row : R) → map {B = Name × X} (λ r. (name r, f r)) (rows ++ row ∷ []) ≡ map (λ r. (name r, f r)) rows ++ (name row, f row) ∷ []
    pushed rows row = map_push (λ r. let e : Name × X = (name r, f r) in e) rows row

-- nothing is listed
pub none_listed : netlist nothing ≡ empty_netlist
none_listed = refl

module _ (L : Listing) (is : IsListing L) where
  -- ---- what each call does

  -- a net is added, and nothing else changes
  pub net_is_added : (name : Name) (supply : Option Bool) → get (netlist L).nets name ≡ None →
      netlist (record L { nets = L.nets ++ record { name = name; supply = supply; tie = false } ∷ [] }) ≡ with_net (netlist L) name supply
  net_is_added name supply new = λ i. record {
    nets = new_row (λ (r : NetRow). r.name) (λ r. r.supply) L.nets row new i;
    comps = from_entries (comps_alike L.nets (L.nets ++ row ∷ []) (length L.nets) (pushed_alike L.nets row) L.comps is.rows i);
    tops = from_entries (tops_alike L.nets (L.nets ++ row ∷ []) (length L.nets) (pushed_alike L.nets row) L.tops is.ends i);
    ties = set.from_list (map (λ (r : NetRow). r.name) (ties i));
    reserved = set.from_list L.reserved;
  }
    where
      row : NetRow
      row = record { name = name; supply = supply; tie = false }

      ties : filter (λ (r : NetRow). r.tie) (L.nets ++ row ∷ []) ≡ filter (λ r. r.tie) L.nets
      ties = filter-append (λ (r : NetRow). r.tie) L.nets (row ∷ []) ∙ append-nil (filter (λ r. r.tie) L.nets)

  -- a component is added with its unconnected pins, and nothing else changes
  pub comp_is_added : (name : Name) (kind : Given) (place : Option Point) → get (netlist L).comps name ≡ None →
      netlist (record L { comps = L.comps ++ record { name = name; kind = kind; place = place; joined = replicate (length (pins_of (given_kind kind))) None } ∷ [] })
      ≡ with_comp (netlist L) name (given_kind kind) place
  comp_is_added name kind place new = ap (λ cs. record (netlist L) { comps = cs })
      (new_row (λ (r : CompRow). r.name) (component L.nets) L.comps row new
      ∙ ap (λ (es : List (Name × Name)). insert (netlist L).comps name (record { kind = given_kind kind; place = place; joined = from_entries es })) (joints_none L.nets (pins row) (length (pins row))))
    where
      row : CompRow
      row = record { name = name; kind = kind; place = place; joined = replicate (length (pins_of (given_kind kind))) None }

  -- a top pin is added, and nothing else changes
  pub top_is_added : (name : Name) (dir : Dir) (net : ℕ) → get (netlist L).tops name ≡ None →
      netlist (record L { tops = L.tops ++ record { name = name; dir = dir; net = net } ∷ [] }) ≡ with_top (netlist L) name dir (net_name L.nets net)
  top_is_added name dir net new = ap (λ ts. record (netlist L) { tops = ts }) (new_row (λ (r : TopRow). r.name) (top L.nets) L.tops (record { name = name; dir = dir; net = net }) new)

  -- the pin is on the net, or on none, and nothing else changes
  pin_is_changed : (c k : ℕ) (j : Option ℕ) (r : CompRow) (joined : FinMap name_cmp Name) → slice_get L.comps c ≡ Some r →
      (component L.nets (record r { joined = slice_set r.joined k j })).joined ≡ joined →
      netlist (record L { comps = rejoined L.comps c k j }) ≡ record (netlist L) { comps = insert (netlist L).comps r.name (record (component L.nets r) { joined = joined }) }
  pin_is_changed c k j r joined e f = ap (λ cs. record (netlist L) { comps = cs })
      (ap (λ rows. from_entries {R = name_cmp} (map {B = Name × Component} (λ r. (r.name, component L.nets r)) rows)) (sym (joint_set L.comps c k j r e))
      ∙ row_put (λ (r : CompRow). r.name) (component L.nets) L.comps c r (record r { joined = slice_set r.joined k j }) is.comps e refl
      ∙ ap (λ js. insert (netlist L).comps r.name (record (component L.nets r) { joined = js })) f)

  pub pin_is_joined : (c k n : ℕ) (r : CompRow) (p : Name × Role) → slice_get L.comps c ≡ Some r → slice_get (pins r) k ≡ Some p →
      netlist (record L { comps = with_joint L.comps c k n })
      ≡ record (netlist L) { comps = insert (netlist L).comps r.name (record (component L.nets r) { joined = insert (component L.nets r).joined p.0 (net_name L.nets n) }) }
  pin_is_joined c k n r p e f = pin_is_changed c k (Some n) r _ e (same_map nat_list_cmp_total exact_bytes _ _ (λ q.
      joined_put L.nets r (length L.nets) k p (Some n) q (is.rows c r e) f
      ∙ sym (get-insert nat_list_cmp_total (component L.nets r).joined p.0 (net_name L.nets n) q)))

  pub pin_is_parted : (c k : ℕ) (r : CompRow) (p : Name × Role) → slice_get L.comps c ≡ Some r → slice_get (pins r) k ≡ Some p →
      netlist (record L { comps = without_joint L.comps c k })
      ≡ record (netlist L) { comps = insert (netlist L).comps r.name (record (component L.nets r) { joined = remove (component L.nets r).joined p.0 }) }
  pin_is_parted c k r p e f = pin_is_changed c k None r _ e (same_map nat_list_cmp_total exact_bytes _ _ (λ q.
      joined_put L.nets r (length L.nets) k p None q (is.rows c r e) f
      ∙ sym (get-remove nat_list_cmp_total (component L.nets r).joined p.0 q)))

  -- the same in the words of a pin's name
  pub pin_on_is : (c : CompId) (k n : ℕ) → IsKnownPin L (Pin c k) → netlist (record L { comps = with_joint L.comps c.0 k n }) ≡ with_pin_on (netlist L) (numbered_pin L (Pin c k)) (net_name L.nets n)
  pin_on_is c k n known =
      let w = pin_row L is c.0 k known in
      pin_is_joined c.0 k n w.row w.pin w.is w.at
      ∙ ap (λ o. record (netlist L) { comps = on_net (netlist L).comps w.row.name w.pin.0 (net_name L.nets n) o }) (sym (comp_is L is c.0 w.row w.is))
      ∙ ap (λ p. with_pin_on (netlist L) p (net_name L.nets n)) (sym (pin_name_is L c.0 k w))

  pub pin_off_is : (c : CompId) (k : ℕ) → IsKnownPin L (Pin c k) → netlist (record L { comps = without_joint L.comps c.0 k }) ≡ with_pin_off (netlist L) (numbered_pin L (Pin c k))
  pin_off_is c k known =
      let w = pin_row L is c.0 k known in
      pin_is_parted c.0 k w.row w.pin w.is w.at
      ∙ ap (λ o. record (netlist L) { comps = on_none (netlist L).comps w.row.name w.pin.0 o }) (sym (comp_is L is c.0 w.row w.is))
      ∙ ap (with_pin_off (netlist L)) (sym (pin_name_is L c.0 k w))

  -- the net is a tie net, and nothing else changes
  pub net_is_tied : (n : ℕ) (r : NetRow) → slice_get L.nets n ≡ Some r → netlist (record L { nets = with_tie L.nets n }) ≡ with_tie_net (netlist L) r.name
  net_is_tied n r e = λ i. record {
    nets = from_entries (supplies L.nets n i);
    comps = from_entries (comps_alike L.nets (with_tie L.nets n) (length L.nets) (λ j h. tied_alike L.nets n j) L.comps is.rows i);
    tops = from_entries (tops_alike L.nets (with_tie L.nets n) (length L.nets) (λ j h. tied_alike L.nets n j) L.tops is.ends i);
    ties = tied_set L.nets n r e i;
    reserved = set.from_list L.reserved;
  }
    where
      supplies : (rows : List NetRow) (n : ℕ) → map {B = Name × Option Bool} (λ r. (r.name, r.supply)) (with_tie rows n) ≡ map (λ r. (r.name, r.supply)) rows
      supplies [] n = refl
      supplies (r ∷ rows) zero = refl
      supplies (r ∷ rows) (suc n) = ap (λ es. (r.name, r.supply) ∷ es) (supplies rows n)

  -- the name is reserved, and nothing else changes
  pub name_is_reserved : (name : Name) → netlist (record L { reserved = L.reserved ++ name ∷ [] }) ≡ with_reserved (netlist L) name
  name_is_reserved name = ap (λ s. record (netlist L) { reserved = s }) (set.from_list_push nat_list_cmp_total exact_bytes L.reserved name)

  -- ---- nets and pins of rows

  -- a row's name is a net, and each net is that of a row
  pub net_of_row : (n : ℕ) (r : NetRow) → slice_get L.nets n ≡ Some r → IsNet (netlist L) r.name
  net_of_row n r e = (r.supply, net_is L is n r e)

  pub row_of_net : (q : Name) → IsNet (netlist L) q → (n : ℕ) × (r : NetRow) × (slice_get L.nets n ≡ Some r) × (r.name ≡ q)
  row_of_net q h = let w = net_found L is q h.0 h.1 in (w.0, w.1, w.2, w.3)

  -- a row's pin is a pin of its component, and each pin of it is that of a number
  pub pin_of_row : (c k : ℕ) (r : CompRow) (p : Name × Role) → slice_get L.comps c ≡ Some r → slice_get (pins r) k ≡ Some p → IsPin (component L.nets r) p.0
  pin_of_row c k r p e f = (p.1, role_is L is c r k p e f)

  pub number_of_pin : (r : CompRow) (p : Name) → IsPin (component L.nets r) p → (k : ℕ) × (role : Role) × (slice_get (pins r) k ≡ Some (p, role))
  number_of_pin r p h = let w = found_at (pins r) p h.0 h.1 in (w.0, h.0, w.1)

-- ---- what is under each name afterwards

-- an entry that was put into a map
pub at_put : {X : Type 0} (m : FinMap name_cmp X) (k : Name) (v : X) → get (insert m k v) k ≡ Some v
at_put = get_same

pub past_put : {X : Type 0} (m : FinMap name_cmp X) (k : Name) (v : X) (q : Name) → q ≢ k → get (insert m k v) q ≡ get m q
past_put = get_other
