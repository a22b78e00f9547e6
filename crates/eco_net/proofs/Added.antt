-- What each change of a listing keeps
use Rattle.std.proofs.Common.{◌≡◌, ℕ, zero, suc, ◌+◌, ◌<◌, ◌≤◌, ◌||◌, Bool, true, false, cond, List, [], ◌∷◌, ◌++◌, map, length, Option, Some, None, refl, sym, ap, ◌∙◌, subst, arith, slice_get, slice_set, ⊎_elim, replicate, length-set, is_some}
use Rattle.std.specs.List.{list_any}
use Rattle.std.specs.Ordering.{eq_by_cmp}
use Rattle.std.proofs.lemmas.List.{length_push, map_push, length-map, length-replicate}
use Rattle.std.proofs.lemmas.List.Folds.{list_any-append}
use Rattle.std.specs.Cmp.Lexicographic.{nat_list_cmp_total}
use Rattle.std.specs.FinMap.{FinMap, get, insert, empty, get-insert, get-empty}
use Rattle.eco_common.specs.declared.limits.TheConstants.{MAX_LISTED_NETS, MAX_LISTED_COMPS, MAX_TOP_PINS}
use Rattle.eco_net.specs.declared.rows.NetRow.{NetRow}
use Rattle.eco_net.specs.declared.rows.CompRow.{CompRow}
use Rattle.eco_net.specs.declared.rows.TopRow.{TopRow}
use Rattle.eco_net.specs.Netlist.{Name, name_cmp}
use Rattle.eco_net.specs.Listing.{Listing, netlist, component, top, pins, given_kind, rejoined, with_tie}
use Rattle.eco_net.specs.Kept.{IsKind, IsRow, IsIndexOf, IsIndexed}
use Rattle.eco_net.proofs.Basics.{same_Some, not_None}
use Rattle.eco_net.proofs.Places.{push_cases, apart_nil, apart_push, index_nil, index_push, apart_index, not_a_row}

abbrev pub nothing : Listing
nothing = record { nets = []; comps = []; tops = []; reserved = [] }

pub indexed_nothing : IsIndexed nothing empty empty empty
indexed_nothing = record {
  listing = record {
    nets = apart_nil;
    comps = apart_nil;
    tops = apart_nil;
    rows = λ c r e. absurd (not_None (sym e));
    ends = λ t r e. absurd (not_None (sym e));
    few_nets = omega arith;
    few_comps = omega arith;
    few_tops = omega arith;
  };
  nets = index_nil;
  comps = index_nil;
  reserved = λ q. ap is_some (get-empty name_cmp q);
}

row_more : (n m : ℕ) (r : CompRow) → n ≤ m → IsRow n r → IsRow m r
row_more n m r h row = record { kind = row.kind; each_pin = row.each_pin; known = λ k i e. let l : i < n = row.known k i e in omega (arith, l) }

module _ (L : Listing) (a b c : FinMap name_cmp ℕ) (is : IsIndexed L a b c) where
  pub net_added : (row : NetRow) → get (netlist L).nets row.name ≡ None → length L.nets < MAX_LISTED_NETS → IsIndexed (record L { nets = L.nets ++ row ∷ [] }) (insert a row.name (length L.nets)) b c
  net_added row new few =
      let more : length (L.nets ++ row ∷ []) ≡ length L.nets + 1 = length_push L.nets row in
      let names : map (λ r. r.name) (L.nets ++ row ∷ []) ≡ map (λ r. r.name) L.nets ++ row.name ∷ [] = map_push (λ r. r.name) L.nets row in
      let index : IsIndexOf (map (λ r. r.name) (L.nets ++ row ∷ [])) (insert a row.name (length L.nets)) =
      subst (λ ns. IsIndexOf ns (insert a row.name (length L.nets))) (sym names) (subst (λ n. IsIndexOf (map (λ r. r.name) L.nets ++ row.name ∷ []) (insert a row.name n)) (length-map L.nets (λ r. r.name)) (index_push (map (λ r. r.name) L.nets) a row.name is.nets (not_a_row (λ r. r.name) (λ r. r.supply) L.nets row.name new))) in
      record {
        listing = record {
          nets = apart_index _ _ index;
          comps = is.listing.comps;
          tops = is.listing.tops;
          rows = λ k r e. row_more _ _ r (omega (arith, more)) (is.listing.rows k r e);
          ends = λ t r e. let l : r.net < length L.nets = is.listing.ends t r e in omega (arith, l, more);
          few_nets = omega (arith, more, few);
          few_comps = is.listing.few_comps;
          few_tops = is.listing.few_tops;
        };
        nets = index;
        comps = is.comps;
        reserved = is.reserved;
      }

  pub comp_added : (row : CompRow) → get (netlist L).comps row.name ≡ None → length L.comps < MAX_LISTED_COMPS → IsRow (length L.nets) row → IsIndexed (record L { comps = L.comps ++ row ∷ [] }) a (insert b row.name (length L.comps)) c
  comp_added row new few kept =
      let more : length (L.comps ++ row ∷ []) ≡ length L.comps + 1 = length_push L.comps row in
      let names : map (λ r. r.name) (L.comps ++ row ∷ []) ≡ map (λ r. r.name) L.comps ++ row.name ∷ [] = map_push (λ r. r.name) L.comps row in
      let index : IsIndexOf (map (λ r. r.name) (L.comps ++ row ∷ [])) (insert b row.name (length L.comps)) =
      subst (λ ns. IsIndexOf ns (insert b row.name (length L.comps))) (sym names) (subst (λ n. IsIndexOf (map (λ r. r.name) L.comps ++ row.name ∷ []) (insert b row.name n)) (length-map L.comps (λ r. r.name)) (index_push (map (λ r. r.name) L.comps) b row.name is.comps (not_a_row (λ r. r.name) (component L.nets) L.comps row.name new))) in
      record {
        listing = record {
          nets = is.listing.nets;
          comps = apart_index _ _ index;
          tops = is.listing.tops;
          rows = λ k r e. ⊎_elim (λ f. is.listing.rows k r f) (λ p. subst (IsRow (length L.nets)) p.1 kept) (push_cases L.comps row k r e);
          ends = is.listing.ends;
          few_nets = is.listing.few_nets;
          few_comps = omega (arith, more, few);
          few_tops = is.listing.few_tops;
        };
        nets = is.nets;
        comps = index;
        reserved = is.reserved;
      }

  pub top_added : (row : TopRow) → get (netlist L).tops row.name ≡ None → length L.tops < MAX_TOP_PINS → row.net < length L.nets → IsIndexed (record L { tops = L.tops ++ row ∷ [] }) a b c
  top_added row new few known =
      let more : length (L.tops ++ row ∷ []) ≡ length L.tops + 1 = length_push L.tops row in
      record {
        listing = record {
          nets = is.listing.nets;
          comps = is.listing.comps;
          tops = λ i j n e f.
              let names : map (λ r. r.name) (L.tops ++ row ∷ []) ≡ map (λ r. r.name) L.tops ++ row.name ∷ [] = map_push (λ r. r.name) L.tops row in
              apart_push (map (λ r. r.name) L.tops) row.name is.listing.tops (not_a_row (λ r. r.name) (top L.nets) L.tops row.name new) i j n (ap (λ ns. slice_get ns i) (sym names) ∙ e) (ap (λ ns. slice_get ns j) (sym names) ∙ f);
          rows = is.listing.rows;
          ends = λ k r e. ⊎_elim (λ f. is.listing.ends k r f) (λ p. subst (λ (x : TopRow). x.net < length L.nets) p.1 known) (push_cases L.tops row k r e);
          few_nets = is.listing.few_nets;
          few_comps = is.listing.few_comps;
          few_tops = omega (arith, more, few);
        };
        nets = is.nets;
        comps = is.comps;
        reserved = is.reserved;
      }

  pub name_reserved : (name : Name) → IsIndexed (record L { reserved = L.reserved ++ name ∷ [] }) a b (insert c name 0)
  name_reserved name = record {
    listing = record {
      nets = is.listing.nets;
      comps = is.listing.comps;
      tops = is.listing.tops;
      rows = is.listing.rows;
      ends = is.listing.ends;
      few_nets = is.listing.few_nets;
      few_comps = is.listing.few_comps;
      few_tops = is.listing.few_tops;
    };
    nets = is.nets;
    comps = is.comps;
    reserved = λ q.
        ap is_some (get-insert nat_list_cmp_total c name 0 q)
        ∙ go (eq_by_cmp name_cmp q name) (get c q) (list_any (eq_by_cmp name_cmp q) L.reserved) (is.reserved q)
        ∙ sym (list_any-append (eq_by_cmp name_cmp q) L.reserved (name ∷ []));
  }
    where
      go : (t : Bool) (o : Option ℕ) (s : Bool) → is_some o ≡ s → is_some (cond t (Some 0) o) ≡ (s || (t || false))
      go true o true e = refl
      go true o false e = refl
      go false o true e = e
      go false o false e = e

-- ---- rows that change in place

pub joint_names : (rows : List CompRow) (c k : ℕ) (j : Option ℕ) → map (λ r. r.name) (rejoined rows c k j) ≡ map (λ r. r.name) rows
joint_names [] c k j = refl
joint_names (r ∷ rows) zero k j = refl
joint_names (r ∷ rows) (suc c) k j = ap (λ ns. r.name ∷ ns) (joint_names rows c k j)

pub joint_set : (rows : List CompRow) (c k : ℕ) (j : Option ℕ) (r : CompRow) → slice_get rows c ≡ Some r → slice_set rows c (record r { joined = slice_set r.joined k j }) ≡ rejoined rows c k j
joint_set [] c k j r e = absurd (not_None (sym e))
joint_set (x ∷ rows) zero k j r e = ap (λ (y : CompRow). record y { joined = slice_set y.joined k j } ∷ rows) (sym (same_Some e))
joint_set (x ∷ rows) (suc c) k j r e = ap (λ ys. x ∷ ys) (joint_set rows c k j r e)

pub tie_names : (rows : List NetRow) (n : ℕ) → map (λ r. r.name) (with_tie rows n) ≡ map (λ r. r.name) rows
tie_names [] n = refl
tie_names (r ∷ rows) zero = refl
tie_names (r ∷ rows) (suc n) = ap (λ ns. r.name ∷ ns) (tie_names rows n)

pub tie_set : (rows : List NetRow) (n : ℕ) (r : NetRow) → slice_get rows n ≡ Some r → slice_set rows n (record r { tie = true }) ≡ with_tie rows n
tie_set [] n r e = absurd (not_None (sym e))
tie_set (x ∷ rows) zero r e = ap (λ (y : NetRow). record y { tie = true } ∷ rows) (sym (same_Some e))
tie_set (x ∷ rows) (suc n) r e = ap (λ ys. x ∷ ys) (tie_set rows n r e)

-- a net that is known, if it is one
abbrev pub Within : Option ℕ → ℕ → Type 0
Within None m = Unit {0}
Within (Some n) m = n < m

within : (j : Option ℕ) (i m : ℕ) → Within j m → j ≡ Some i → i < m
within None i m h e = absurd (not_None (sym e))
within (Some n) i m h e = subst (λ k. k < m) (same_Some e) h

-- a place of a list with one change
set_known : (js : List (Option ℕ)) (k : ℕ) (new : Option ℕ) (i l m : ℕ) → ((l i : ℕ) → slice_get js l ≡ Some (Some i) → i < m) → Within new m → slice_get (slice_set js k new) l ≡ Some (Some i) → i < m
set_known [] k new i l m h g e = absurd (not_None (sym e))
set_known (j ∷ js) zero new i zero m h g e = within new i m g (same_Some e)
set_known (j ∷ js) zero new i (suc l) m h g e = h (suc l) i e
set_known (j ∷ js) (suc k) new i zero m h g e = h 0 i e
set_known (j ∷ js) (suc k) new i (suc l) m h g e = set_known js k new i l m (λ l i. h (suc l) i) g e

row_joined : (m k : ℕ) (j : Option ℕ) (r : CompRow) → Within j m → IsRow m r → IsRow m (record r { joined = slice_set r.joined k j })
row_joined m k j r g row = record {
  kind = row.kind;
  each_pin = length-set r.joined k j ∙ row.each_pin;
  known = λ l i e. set_known r.joined k j i l m row.known g e;
}

joint_rows : (rows : List CompRow) (c k : ℕ) (j : Option ℕ) (m : ℕ) → Within j m → ((c : ℕ) (r : CompRow) → slice_get rows c ≡ Some r → IsRow m r) → (d : ℕ) (r : CompRow) → slice_get (rejoined rows c k j) d ≡ Some r → IsRow m r
joint_rows [] c k j m g h d r e = absurd (not_None (sym e))
joint_rows (x ∷ rows) zero k j m g h zero r e = subst (IsRow m) (same_Some e) (row_joined m k j x g (h 0 x refl))
joint_rows (x ∷ rows) zero k j m g h (suc d) r e = h (suc d) r e
joint_rows (x ∷ rows) (suc c) k j m g h zero r e = h 0 r e
joint_rows (x ∷ rows) (suc c) k j m g h (suc d) r e = joint_rows rows c k j m g (λ c. h (suc c)) d r e

pub joint_length : (rows : List CompRow) (c k : ℕ) (j : Option ℕ) → length (rejoined rows c k j) ≡ length rows
joint_length rows c k j = sym (length-map (rejoined rows c k j) (λ r. r.name)) ∙ ap length (joint_names rows c k j) ∙ length-map rows (λ r. r.name)

pub tie_length : (rows : List NetRow) (n : ℕ) → length (with_tie rows n) ≡ length rows
tie_length rows n = sym (length-map (with_tie rows n) (λ r. r.name)) ∙ ap length (tie_names rows n) ∙ length-map rows (λ r. r.name)

module _ (L : Listing) (a b c : FinMap name_cmp ℕ) (is : IsIndexed L a b c) where
  pub joint_put : (d k : ℕ) (j : Option ℕ) → Within j (length L.nets) → IsIndexed (record L { comps = rejoined L.comps d k j }) a b c
  joint_put d k j g =
      let index : IsIndexOf (map (λ r. r.name) (rejoined L.comps d k j)) b = subst (λ ns. IsIndexOf ns b) (sym (joint_names L.comps d k j)) is.comps in
      record {
        listing = record {
          nets = is.listing.nets;
          comps = apart_index _ _ index;
          tops = is.listing.tops;
          rows = joint_rows L.comps d k j (length L.nets) g is.listing.rows;
          ends = is.listing.ends;
          few_nets = is.listing.few_nets;
          few_comps = omega (arith, joint_length L.comps d k j, is.listing.few_comps);
          few_tops = is.listing.few_tops;
        };
        nets = is.nets;
        comps = index;
        reserved = is.reserved;
      }

  pub tie_marked : (n : ℕ) → IsIndexed (record L { nets = with_tie L.nets n }) a b c
  tie_marked n =
      let l = tie_length L.nets n in
      let index : IsIndexOf (map (λ r. r.name) (with_tie L.nets n)) a = subst (λ ns. IsIndexOf ns a) (sym (tie_names L.nets n)) is.nets in
      record {
        listing = record {
          nets = apart_index _ _ index;
          comps = is.listing.comps;
          tops = is.listing.tops;
          rows = λ k r e. subst (λ m. IsRow m r) (sym l) (is.listing.rows k r e);
          ends = λ t r e. subst (λ m. r.net < m) (sym l) (is.listing.ends t r e);
          few_nets = omega (arith, l, is.listing.few_nets);
          few_comps = is.listing.few_comps;
          few_tops = is.listing.few_tops;
        };
        nets = index;
        comps = is.comps;
        reserved = is.reserved;
      }

none_of_none : (n k i : ℕ) → slice_get (replicate {A = Option ℕ} n None) k ≡ Some (Some i) → ⊥
none_of_none zero k i e = not_None (sym e)
none_of_none (suc n) zero i e = not_None (sym (same_Some e))
none_of_none (suc n) (suc k) i e = none_of_none n k i e

-- a row with its unconnected pins
pub row_of_none : (m : ℕ) (row : CompRow) → IsKind (given_kind row.kind) → (n : ℕ) → n ≡ length (pins row) → row.joined ≡ replicate n None → IsRow m row
row_of_none m row kind n e f = record {
  kind = kind;
  each_pin = ap length f ∙ length-replicate n None ∙ e;
  known = λ k i g. absurd (none_of_none n k i (ap (λ js. slice_get js k) (sym f) ∙ g));
}
