-- Rows of the stock and their spares
use Rattle.std.proofs.Common.{◌≡◌, ℕ, Bool, true, false, cond, List, [], ◌∷◌, map, Option, Some, None, refl, sym, ap, ap₂, ◌∙◌, slice_get}
use Rattle.std.specs.Option.{option_map, option_to_list}
use Rattle.std.specs.List.{filter}
use Rattle.std.proofs.lemmas.Option.{slice_get-map}
use Rattle.eco_common.specs.declared.geometry.Point.{Point}
use Rattle.eco_net.specs.declared.rows.CompRow.{CompRow}
use Rattle.eco_net.specs.Netlist.{Name}
use Rattle.eco_net.specs.Listing.{Listing, comp_names}
use Rattle.eco_net.proofs.Basics.{same_Some, not_None}
use Rattle.eco_desk_file.specs.Desk.{Desk}
use Rattle.eco_base.specs.Found.{is_stock_row, place_in_row}
use Rattle.eco_base.proofs.Lists.{row_at}

-- a component that is stock, with its name and its point
pub found_row : (desk : Desk) (L : Listing) (i : ℕ) (point : Point) (name : Name) → option_map (λ r. cond (is_stock_row desk L.nets r) r.place None) (slice_get L.comps i) ≡ Some (Some point) → slice_get (comp_names L) i ≡ Some name
    → map place_in_row (filter (is_stock_row desk L.nets) (option_to_list (slice_get L.comps i))) ≡ (name, Some point) ∷ []
found_row desk L i point name e named =
    let w = row_at (λ (r : CompRow). cond (is_stock_row desk L.nets r) r.place None) (slice_get L.comps i) (Some point) e in
    let same : w.0.name ≡ name = same_Some (sym (slice_get-map (λ (r : CompRow). r.name) L.comps i ∙ ap (option_map (λ (r : CompRow). r.name)) w.1) ∙ named) in
    ap (λ o. map place_in_row (filter (is_stock_row desk L.nets) (option_to_list o))) w.1 ∙ go w.0 (is_stock_row desk L.nets w.0) refl w.2 same
  where
    go : (r : CompRow) (b : Bool) → is_stock_row desk L.nets r ≡ b → cond b r.place None ≡ Some point → r.name ≡ name → map place_in_row (filter (is_stock_row desk L.nets) (r ∷ [])) ≡ (name, Some point) ∷ []
    go r false s e same = absurd (not_None (sym e))
    go r true s e same =
        ap (λ b. map place_in_row (cond b (r ∷ []) [])) s
        ∙ ap₂ {C = List (Name × Option Point)} (λ n o. (n, o) ∷ []) same e
