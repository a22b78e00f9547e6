-- The netlist without its stock keeps the order of the listing that it is taken from.
use Rattle.std.proofs.Common.{◌≡◌, ℕ, zero, suc, Bool, true, false, cond, not, List, [], ◌∷◌, map, Some, slice_get, refl, sym, ap, ◌∙◌, subst, inl, inr}
use Rattle.std.specs.List.{AllZip, filter, zip}
use Rattle.std.specs.Option.{option_map}
use Rattle.std.proofs.lemmas.Option.{slice_get-map}
use Rattle.eco_def.specs.Named.{NamedComp}
use Rattle.eco_net.specs.declared.rows.NetRow.{NetRow}
use Rattle.eco_net.specs.declared.rows.CompRow.{CompRow}
use Rattle.eco_net.specs.Netlist.{Component}
use Rattle.eco_net.specs.Listing.{Listing, netlist, component, with_tie, AreDistinctNames, comp_names as listed_names}
use Rattle.eco_net.specs.Kept.{IsListing}
use Rattle.eco_net.specs.Removal.{unmarked_rows}
use Rattle.eco_net.proofs.Basics.{Has, same_Some, same_head}
use Rattle.eco_net.proofs.GateNames.{at_has}
use Rattle.eco_elaborate.specs.Stated.{named_comps}
use Rattle.eco_elaborate.proofs.Found.{comp_said}
use Rattle.eco_elaborate.proofs.Members.{of_filter}
use Rattle.eco_desk_file.specs.Desk.{Desk}
use Rattle.eco_base.specs.Found.{is_stock_row}
use Rattle.eco_base.specs.Texts.{TextParts}
use Rattle.eco_base.specs.Joined.{kinds, design_names, comp_names}
use Rattle.eco_base.specs.Stocks.{listed_netlist, is_in_stock}
use Rattle.eco_base.specs.Order.{kept_comps, IsRowOf, IsInOrder, without_stock_rows, HasSameOrder}
use Rattle.eco_base.proofs.Lists.{filter_mapped, same_tail, not_nil, nil_not}
use Rattle.eco_base.proofs.SpareEntries.{stated_at}
use Rattle.eco_base.proofs.StockRows.{found, stock_at}

-- ---- the order is kept

pub tied_names : (nets : List NetRow) (n : ℕ) → map (λ (r : NetRow). r.name) (with_tie nets n) ≡ map (λ r. r.name) nets
tied_names [] n = refl
tied_names (r ∷ nets) zero = refl
tied_names (r ∷ nets) (suc n) = ap (λ ns. r.name ∷ ns) (tied_names nets n)

pub order_itself : (L : Listing) → HasSameOrder L L
order_itself L = record { comps = refl; nets = refl; tops = refl }

pub order_twice : (L M N : Listing) → HasSameOrder L M → HasSameOrder M N → HasSameOrder L N
order_twice L M N a b = record { comps = b.comps ∙ a.comps; nets = b.nets ∙ a.nets; tops = b.tops ∙ a.tops }

unmarked_more : (b : Bool) (r : CompRow) (ps : List (Bool × CompRow)) (rows : List CompRow) → map (λ p. p.1) (filter (λ p. not p.0) ps) ≡ rows → map (λ p. p.1) (filter (λ p. not p.0) ((b, r) ∷ ps)) ≡ cond (not b) (r ∷ rows) rows
unmarked_more true r ps rows h = h
unmarked_more false r ps rows h = ap (λ rs. r ∷ rs) h

unmarked_are : (p : CompRow → Bool) (rows : List CompRow) → unmarked_rows (map p rows) rows ≡ filter (λ r. not (p r)) rows
unmarked_are p [] = refl
unmarked_are p (r ∷ rows) = unmarked_more (p r) r (zip (map p rows) rows) (filter (λ r. not (p r)) rows) (unmarked_are p rows)

-- the rows that are left are those that aren't stock
pub taken_out : (desk : Desk) (L M : Listing) (marks : List Bool) → M ≡ record L { comps = unmarked_rows marks L.comps } → marks ≡ map (is_stock_row desk L.nets) L.comps → M ≡ without_stock_rows desk L
taken_out desk L M marks out m = out ∙ ap (λ rows. record L { comps = rows }) (ap (λ ms. unmarked_rows ms L.comps) m ∙ unmarked_are (is_stock_row desk L.nets) L.comps)

-- ---- the order is that of the text

module _ (t : TextParts) where
  in_order : (cs : List NamedComp) (rows : List CompRow) → map (λ (r : CompRow). r.name) rows ≡ map (λ (c : NamedComp). c.name) cs → ((c : NamedComp) (r : CompRow) → Has cs c → Has rows r → r.name ≡ c.name → IsRowOf t c r) → AllZip (IsRowOf t) cs rows
  in_order [] [] e each = tt
  in_order [] (r ∷ rows) e each = absurd (not_nil e)
  in_order (c ∷ cs) [] e each = absurd (nil_not e)
  in_order (c ∷ cs) (r ∷ rows) e each = (each c r (inl refl) (inl refl) (same_head e), in_order cs rows (same_tail e) (λ a b h k. each a b (inr h) (inr k)))

module _ (t : TextParts) (L : Listing) (is : IsListing L) (same : netlist L ≡ listed_netlist t) (names : listed_names L ≡ comp_names t) where
  abbrev kept_rows : List CompRow
  kept_rows = filter (λ r. not (is_stock_row t.desk L.nets r)) L.comps

  kept_named : map (λ (r : CompRow). r.name) kept_rows ≡ map (λ (c : NamedComp). c.name) (kept_comps t)
  kept_named =
      filter_mapped (λ (r : CompRow). r.name) (λ n. not (is_in_stock t n)) (λ r. not (is_stock_row t.desk L.nets r)) L.comps (λ r h. ap not (stock_at t L is same names r h))
      ∙ ap (filter (λ n. not (is_in_stock t n))) names
      ∙ sym (filter_mapped (λ (c : NamedComp). c.name) (λ n. not (is_in_stock t n)) (λ c. not (is_in_stock t c.name)) (named_comps t.text t.design.comps) (λ c h. refl))

  row_of : (c : NamedComp) (r : CompRow) → Has (named_comps t.text t.design.comps) c → Has L.comps r → r.name ≡ c.name → IsRowOf t c r
  row_of c r h k e =
      let y = comp_said (kinds t) [] (design_names t) r.name (component L.nets r) (found t L is same names r k) in
      let i = at_has (named_comps t.text t.design.comps) c h in
      let apart : AreDistinctNames (comp_names t) = subst AreDistinctNames names is.comps in
      let here = stated_at t apart i.0 r.name y.0.0 (named_at i.0 c i.1 e) y.1 y.2 in
      let one : y.0.0 ≡ c = same_Some (sym here ∙ i.1) in
      record {
        name = e;
        pins = ap (λ (z : NamedComp). (kinds t).kind z.model) (sym one) ∙ y.3 ∙ ap Some (ap (λ (z : Component). z.kind) y.4);
      }
    where
      named_at : (i : ℕ) (c : NamedComp) → slice_get (named_comps t.text t.design.comps) i ≡ Some c → r.name ≡ c.name → slice_get (comp_names t) i ≡ Some r.name
      named_at i c at e = slice_get-map (λ (c : NamedComp). c.name) (named_comps t.text t.design.comps) i ∙ ap (option_map (λ (c : NamedComp). c.name)) at ∙ ap Some (sym e)

  ordered : (N : Listing) → HasSameOrder (without_stock_rows t.desk L) N → IsInOrder t N
  ordered N order =
      subst (λ rows. AllZip (IsRowOf t) (kept_comps t) rows) (sym order.comps)
      (in_order t (kept_comps t) kept_rows kept_named (λ c r h k e. row_of c r (of_filter (λ (c : NamedComp). not (is_in_stock t c.name)) (named_comps t.text t.design.comps) c h).0 (of_filter (λ r. not (is_stock_row t.desk L.nets r)) L.comps r k).0 e))

  pub ordered_by : (desk : Desk) → desk ≡ t.desk → (N : Listing) → HasSameOrder (without_stock_rows desk L) N → IsInOrder t N
  ordered_by desk e N = subst (λ (d : Desk). HasSameOrder (without_stock_rows d L) N → IsInOrder t N) (sym e) (ordered N)
