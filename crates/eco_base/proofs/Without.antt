-- The stock that is marked and the stock that is listed have the same names
use Rattle.std.proofs.Common.{◌≡◌, Bool, true, false, cond, List, [], ◌∷◌, map, refl, sym, ap, ◌∙◌, Result, Ok, Err}
use Rattle.std.specs.Result.{IfOk}
use Rattle.std.specs.FinSet.{from_list}
use Rattle.std.specs.List.{filter, zip}
use Rattle.eco_net.specs.declared.rows.CompRow.{CompRow}
use Rattle.eco_net.specs.Netlist.{Netlist}
use Rattle.eco_net.specs.Listing.{Listing, netlist}
use Rattle.eco_net.specs.Removal.{marked_names, without_comps}
use Rattle.eco_desk_file.specs.Desk.{Desk}
use Rattle.eco_base.specs.declared.stock.Spare.{Spare}
use Rattle.eco_base.specs.Found.{is_stock_row, stock_rows, place_in_row, place_of_spare}
use Rattle.eco_base.specs.Without.{spare_names}

marked_more : (b : Bool) (r : CompRow) (ps : List (Bool × CompRow)) (rows : List CompRow) → map (λ p. p.1.name) (filter (λ p. p.0) ps) ≡ map (λ r. r.name) rows → map (λ p. p.1.name) (filter (λ p. p.0) ((b, r) ∷ ps)) ≡ map (λ r. r.name) (cond b (r ∷ rows) rows)
marked_more true r ps rows h = ap (λ ns. r.name ∷ ns) h
marked_more false r ps rows h = h

marked_rows : (p : CompRow → Bool) (rows : List CompRow) → marked_names (map p rows) rows ≡ map (λ r. r.name) (filter p rows)
marked_rows p [] = refl
marked_rows p (r ∷ rows) = marked_more (p r) r (zip (map p rows) rows) (filter p rows) (marked_rows p rows)

spares_named : (spares : List Spare) → map (λ x. x.0) (map place_of_spare spares) ≡ spare_names spares
spares_named [] = refl
spares_named (s ∷ spares) = ap (λ ns. s.name ∷ ns) (spares_named spares)

rows_named : (rows : List CompRow) → map (λ x. x.0) (map place_in_row rows) ≡ map (λ r. r.name) rows
rows_named [] = refl
rows_named (r ∷ rows) = ap (λ ns. r.name ∷ ns) (rows_named rows)

-- the names of the marked rows are those of the spares
pub marked_spares : (desk : Desk) (L : Listing) (marks : List Bool) (spares : List Spare) → marks ≡ map (is_stock_row desk L.nets) L.comps → map place_of_spare spares ≡ map place_in_row (stock_rows desk L) → marked_names marks L.comps ≡ spare_names spares
marked_spares desk L marks spares m e =
    ap (λ ms. marked_names ms L.comps) m
    ∙ marked_rows (is_stock_row desk L.nets) L.comps
    ∙ sym (rows_named (stock_rows desk L))
    ∙ ap (map (λ x. x.0)) (sym e)
    ∙ spares_named spares

pub if_ok : {A E : Type 0} (P Q : A → Type 0) (r : Result A E) → ((x : A) → P x → Q x) → IfOk r P → IfOk r Q
if_ok P Q (Ok x) f h = f x h
if_ok P Q (Err e) f h = tt

-- the netlist after the stock is taken out and its names are reserved
pub set_apart : (desk : Desk) (L M : Listing) (R : Netlist) (marks : List Bool) (spares given : List Spare)
    → netlist M ≡ without_comps (netlist L) (marked_names marks L.comps)
    → marks ≡ map (is_stock_row desk L.nets) L.comps → map place_of_spare spares ≡ map place_in_row (stock_rows desk L)
    → given ≡ spares → R ≡ record (netlist M) { reserved = from_list (spare_names given) }
    → R ≡ record (without_comps (netlist L) (spare_names spares)) { reserved = from_list (spare_names spares) }
set_apart desk L M R marks spares given out m e g r =
    let after : Netlist → Netlist = λ N. record N { reserved = from_list (spare_names spares) } in
    r
    ∙ ap (λ ss. record (netlist M) { reserved = from_list (spare_names ss) }) g
    ∙ ap after (out ∙ ap (without_comps (netlist L)) (marked_spares desk L marks spares m e))
