-- What the code finds in the netlist of all components is the stock of the texts, and what it leaves is their base.
use Rattle.std.proofs.Common.{◌≡◌, suc, ◌≤◌, Bool, true, false, List, [], ◌∷◌, map, Some, None, length, count_by, refl, sym, ap, ◌∙◌, subst, ⊎_elim}
use Rattle.std.specs.Prelude.{IsSome}
use Rattle.std.specs.List.{All}
use Rattle.eco_common.specs.declared.limits.TheConstants.{MAX_STOCK}
use Rattle.eco_net.specs.Netlist.{Name, Netlist, IsNet, IsWellFormed}
use Rattle.eco_net.specs.Walks.{IsLoopFree}
use Rattle.eco_net.specs.Depth.{IsDepth}
use Rattle.eco_net.specs.Listing.{Listing, netlist, comp_names as listed_names}
use Rattle.eco_net.specs.Kept.{IsListing}
use Rattle.eco_net.specs.Bases.{bare}
use Rattle.eco_desk_file.specs.Desk.{Desk}
use Rattle.eco_base.specs.SparePoints.{HasPoint}
use Rattle.eco_base.specs.declared.stock.Spare.{Spare}
use Rattle.eco_base.specs.Ties.{IsTieNet}
use Rattle.eco_base.specs.Found.{is_skipped_row, stock_rows, place_in_row, place_of_spare, AreNumbered}
use Rattle.eco_base.specs.Without.{spare_names, without_spares}
use Rattle.eco_base.specs.declared.stocked.Stocked.{Stocked}
use Rattle.eco_base.specs.Texts.{TextParts}
use Rattle.eco_base.specs.Joined.{comp_names}
use Rattle.eco_base.specs.Census.{IsCensusOf}
use Rattle.eco_base.specs.Order.{IsInOrder}
use Rattle.eco_base.specs.Bases.{listed_netlist, stock_names, frozen}
use Rattle.eco_base.specs.Opened.{AreTied}
use Rattle.eco_base.specs.Stocks.{entry_at}
use Rattle.eco_base.specs.Stocked.{IsStocked}
use Rattle.eco_base.proofs.StockRows.{entry_rows, spares_of, stock_named, skipped_is}

length_mapped : {A B : Type 0} (f : A → B) (xs : List A) → length (map f xs) ≡ length xs
length_mapped f [] = refl
length_mapped f (x ∷ xs) = ap suc (length_mapped f xs)

-- a tie net is a net
pub tie_is_net : (prefixes : List Name) (N : Netlist) (n : Name) (b : Bool) → IsTieNet prefixes N n b → IsNet N n
tie_is_net prefixes N n b tied = ⊎_elim (λ s. (Some b, s)) (λ d. (None, d.0)) tied

pub both_tied : (t : TextParts) (N : Netlist) → N ≡ listed_netlist t → (desk : Desk) → desk ≡ t.desk → IsTieNet desk.prefixes N desk.high true → IsTieNet desk.prefixes N desk.low false → AreTied t
both_tied t N same desk e high low = (
  subst (λ (M : Netlist). IsTieNet t.desk.prefixes M t.desk.high true) same (subst (λ (d : Desk). IsTieNet d.prefixes N d.high true) e high),
  subst (λ (M : Netlist). IsTieNet t.desk.prefixes M t.desk.low false) same (subst (λ (d : Desk). IsTieNet d.prefixes N d.low false) e low),
)

module _ (t : TextParts) (L : Listing) (is : IsListing L) (same : netlist L ≡ listed_netlist t) (names : listed_names L ≡ comp_names t) where
  pub all_entries : (desk : Desk) → desk ≡ t.desk → (spares : List Spare) → map place_of_spare spares ≡ map place_in_row (stock_rows desk L) → AreNumbered L spares → All (λ (s : Spare). IsSome (entry_at t s.comp)) spares
  all_entries desk e spares = subst (λ (d : Desk). map place_of_spare spares ≡ map place_in_row (stock_rows d L) → AreNumbered L spares → All (λ (s : Spare). IsSome (entry_at t s.comp)) spares) (sym e)
      (λ rows numbers. entry_rows t L is same names (stock_rows t.desk L) spares (λ r h. h) rows numbers)

  pub names_are : (desk : Desk) → desk ≡ t.desk → (spares : List Spare) → map place_of_spare spares ≡ map place_in_row (stock_rows desk L) → spare_names spares ≡ stock_names t
  names_are desk e spares = subst (λ (d : Desk). map place_of_spare spares ≡ map place_in_row (stock_rows d L) → spare_names spares ≡ stock_names t) (sym e)
      (λ rows. stock_named t L is same names spares rows)

  pub count_is : (desk : Desk) → desk ≡ t.desk → (spares : List Spare) → map place_of_spare spares ≡ map place_in_row (stock_rows desk L) → length spares ≡ length (stock_names t)
  count_is desk e spares rows = sym (length_mapped (λ (s : Spare). s.name) spares) ∙ ap length (names_are desk e spares rows)

  pub base_is : (desk : Desk) → desk ≡ t.desk → (spares : List Spare) → map place_of_spare spares ≡ map place_in_row (stock_rows desk L) → (N : Netlist) → N ≡ without_spares (netlist L) desk (spare_names spares) → N ≡ bare (frozen t)
  base_is desk e spares rows N is_without =
      let stock = names_are desk e spares rows in
      is_without ∙ (λ i. without_spares (same i) (e i) (stock i))

  module _ (s : Stocked) (whole : IsWellFormed (netlist L)) (few : length s.spares.items ≤ MAX_STOCK) (numbers : AreNumbered L s.spares.items) (points : All (HasPoint t.design.comps) s.spares.items)
      (functions : map (λ f. Some f) s.functions.items ≡ map (λ (x : Spare). entry_at t x.comp) s.spares.items) (free : IsLoopFree (netlist s.netlist)) (deep : IsDepth (netlist s.netlist) s.depth) (counted : IsCensusOf t s.census) where
    stocked : IsTieNet t.desk.prefixes (netlist L) t.desk.high true → IsTieNet t.desk.prefixes (netlist L) t.desk.low false → map place_of_spare s.spares.items ≡ map place_in_row (stock_rows t.desk L)
        → s.skipped ≡ count_by (is_skipped_row t.desk L.nets) L.comps → netlist s.netlist ≡ without_spares (netlist L) t.desk (spare_names s.spares.items) → IsInOrder t s.netlist → IsStocked t s
    stocked high low rows skipped is_without in_order =
        let base = base_is t.desk refl s.spares.items rows (netlist s.netlist) is_without in
        record {
          whole = subst IsWellFormed same whole;
          low_is = subst (λ N. IsTieNet t.desk.prefixes N t.desk.low false) same low;
          high_is = subst (λ N. IsTieNet t.desk.prefixes N t.desk.high true) same high;
          stock = names_are t.desk refl s.spares.items rows;
          spares = spares_of t L is same names (stock_rows t.desk L) s.spares.items s.functions.items (λ r h. h) rows numbers functions;
          points = points;
          few = few;
          skipped = skipped ∙ skipped_is t L is same names;
          counted = counted;
          same = base;
          in_order = in_order;
          loop_free = subst IsLoopFree base free;
          deep = subst (λ N. IsDepth N s.depth) base deep;
        }

    pub stocked_is : (desk : Desk) → desk ≡ t.desk → IsTieNet desk.prefixes (netlist L) desk.high true → IsTieNet desk.prefixes (netlist L) desk.low false → map place_of_spare s.spares.items ≡ map place_in_row (stock_rows desk L)
        → s.skipped ≡ count_by (is_skipped_row desk L.nets) L.comps → netlist s.netlist ≡ without_spares (netlist L) desk (spare_names s.spares.items) → IsInOrder t s.netlist → IsStocked t s
    stocked_is desk e = subst (λ (d : Desk). IsTieNet d.prefixes (netlist L) d.high true → IsTieNet d.prefixes (netlist L) d.low false → map place_of_spare s.spares.items ≡ map place_in_row (stock_rows d L)
        → s.skipped ≡ count_by (is_skipped_row d L.nets) L.comps → netlist s.netlist ≡ without_spares (netlist L) d (spare_names s.spares.items) → IsInOrder t s.netlist → IsStocked t s) (sym e) stocked
