-- The census by the rows of a listing is that of the texts.
use Rattle.std.proofs.Common.{◌≡◌, ℕ, suc, ◌+◌, ◌≤◌, Bool, true, false, cond, not, List, [], ◌∷◌, map, length, Some, None, is_some, count_by, get_or, slice_get, refl, sym, ap, ◌∙◌, subst, arith}
use Rattle.std.specs.FinMap.{get, len, find, from_entries, get-from_entries, len-insert, len-empty}
use Rattle.std.specs.Cmp.Lexicographic.{nat_list_cmp_total}
use Rattle.std.proofs.lemmas.List.{length-map}
use Rattle.std.proofs.lemmas.List.Sums.{sum_by-cons, sum_by-le}
use Rattle.std.proofs.lemmas.Option.{slice_get-get_or}
use Rattle.eco_net.specs.declared.rows.CompRow.{CompRow}
use Rattle.eco_net.specs.declared.rows.TopRow.{TopRow}
use Rattle.eco_net.specs.declared.rows.NetRow.{NetRow}
use Rattle.eco_net.specs.Netlist.{Name, name_cmp, Netlist}
use Rattle.eco_net.specs.Listing.{Listing, netlist, top, AreDistinctNames, comp_names as listed_names}
use Rattle.eco_net.specs.Kept.{IsListing}
use Rattle.eco_net.specs.JoinedPins.{joined_pins}
use Rattle.eco_net.proofs.Basics.{Has, cmp_apart}
use Rattle.eco_net.proofs.Named.{apart_first, apart_rest}
use Rattle.eco_net.proofs.JoinedNames.{joined_count, row_small, joined_rows}
use Rattle.eco_desk_file.specs.Desk.{Desk}
use Rattle.eco_base.specs.declared.stock.Stock.{Stock}
use Rattle.eco_base.specs.Found.{is_skipped_row, stock_rows, place_in_row, place_of_spare}
use Rattle.eco_base.specs.declared.census.Census.{Census}
use Rattle.eco_base.specs.Texts.{TextParts}
use Rattle.eco_base.specs.Joined.{comp_names}
use Rattle.eco_base.specs.Stocks.{listed_netlist}
use Rattle.eco_base.specs.Census.{is_gate_at, is_named_gate, is_gate_row, IsCensusOf, IsCensusOfRows}
use Rattle.eco_base.proofs.Lists.{map_twice}
use Rattle.eco_base.proofs.StockRows.{count_mapped, found, skipped_is}
use Rattle.eco_base.proofs.StockTaken.{count_is}

-- ---- those that are and those that aren't

pub both_counted : {A : Type 0} (P : A → Bool) (xs : List A) → count_by P xs + count_by (λ x. not (P x)) xs ≡ length xs
both_counted P [] = refl
both_counted P (x ∷ xs) = go (P x) refl (both_counted P xs)
  where
    go : (b : Bool) → P x ≡ b → count_by P xs + count_by (λ y. not (P y)) xs ≡ length xs → count_by P (x ∷ xs) + count_by (λ y. not (P y)) (x ∷ xs) ≡ suc (length xs)
    go true e rest = omega (
      arith,
      rest,
      sum_by-cons (λ y. cond (P y) 1 0) x xs,
      ap {B = ℕ} (λ b. cond b 1 0) e,
      sum_by-cons (λ y. cond (not (P y)) 1 0) x xs,
      ap {B = ℕ} (λ b. cond (not b) 1 0) e,
    )
    go false e rest = omega (
      arith,
      rest,
      sum_by-cons (λ y. cond (P y) 1 0) x xs,
      ap {B = ℕ} (λ b. cond b 1 0) e,
      sum_by-cons (λ y. cond (not (P y)) 1 0) x xs,
      ap {B = ℕ} (λ b. cond (not b) 1 0) e,
    )

-- ---- a map of distinct names has as many as its list

none_named : {X : Type 0} (k : Name) (es : List (Name × X)) → ((i : ℕ) → slice_get (map (λ e. e.0) es) i ≡ Some k → ⊥) → find name_cmp k es ≡ None
none_named k [] new = refl
none_named k (e ∷ es) new =
    ap (λ b. cond b (Some e.1) (find name_cmp k es)) (cmp_apart k e.0 (λ s. new 0 (ap Some (sym s))))
    ∙ none_named k es (λ i. new (suc i))

len_apart : {X : Type 0} (es : List (Name × X)) → AreDistinctNames (map (λ e. e.0) es) → len (from_entries {R = name_cmp} es) ≡ length es
len_apart {X = X} [] a = len-empty name_cmp X
len_apart (e ∷ es) a =
    let rest = from_entries {R = name_cmp} es in
    let new : get rest e.0 ≡ None = get-from_entries nat_list_cmp_total es e.0 ∙ none_named e.0 es (λ i s. apart_first e.0 (map (λ e. e.0) es) a i e.0 s refl) in
    len-insert nat_list_cmp_total rest e.0 e.1
    ∙ ap (λ o. cond (is_some o) (len rest) (len rest + 1)) new
    ∙ omega (arith, len_apart es (apart_rest e.0 (map (λ e. e.0) es) a))

len_named : {A X : Type 0} (name : A → Name) (f : A → X) (xs : List A) → AreDistinctNames (map name xs) → len (from_entries {R = name_cmp} (map {B = Name × X} (λ x. (name x, f x)) xs)) ≡ length xs
len_named {X = X} name f xs a =
    len_apart (map {B = Name × X} (λ x. (name x, f x)) xs) (subst AreDistinctNames (sym (map_twice {B = Name × X} (λ e. e.0) (λ x. (name x, f x)) xs)) a)
    ∙ length-map xs (λ x. (name x, f x))

pub nets_counted : (L : Listing) → IsListing L → len (netlist L).nets ≡ length L.nets
nets_counted L is = len_named (λ (r : NetRow). r.name) (λ r. r.supply) L.nets is.nets

pub tops_counted : (L : Listing) → IsListing L → len (netlist L).tops ≡ length L.tops
tops_counted L is = len_named (λ (r : TopRow). r.name) (top L.nets) L.tops is.tops

-- the pins on nets fit a number of 64 bits beside the top pins
pub joined_few : (L : Listing) → IsListing L → joined_pins (netlist L) ≤ 4724464024500000
joined_few L is = omega (
  arith,
  sum_by-le joined_count 4294967295 L.comps (λ k d h. row_small (length L.nets) (get_or L.comps k d) (is.rows k (get_or L.comps k d) (slice_get-get_or L.comps k d h))),
  joined_rows L is,
  is.few_comps,
)

-- ---- the census

module _ (t : TextParts) (L : Listing) (is : IsListing L) (same : netlist L ≡ listed_netlist t) (names : listed_names L ≡ comp_names t) where
  gate_at : (r : CompRow) → Has L.comps r → is_named_gate t r.name ≡ is_gate_row r
  gate_at r h = ap is_gate_at (found t L is same names r h)

  census_said : (stock : Stock) (c : Census) → map place_of_spare stock.spares.items ≡ map place_in_row (stock_rows t.desk L) → stock.skipped ≡ count_by (is_skipped_row t.desk L.nets) L.comps → IsCensusOfRows L stock c → IsCensusOf t c
  census_said stock c rows skipped by = record {
    components = by.components ∙ sym (length-map L.comps (λ (r : CompRow). r.name)) ∙ ap length names;
    gates = by.gates ∙ count_mapped (λ (r : CompRow). r.name) (is_named_gate t) is_gate_row L.comps gate_at ∙ ap (count_by (is_named_gate t)) names;
    boxes = by.boxes ∙ count_mapped (λ (r : CompRow). r.name) (λ n. not (is_named_gate t n)) (λ r. not (is_gate_row r)) L.comps (λ r h. ap not (gate_at r h)) ∙ ap (count_by (λ n. not (is_named_gate t n))) names;
    nets = by.nets ∙ sym (nets_counted L is) ∙ ap (λ (N : Netlist). len N.nets) same;
    pins = by.pins ∙ ap (λ n. joined_pins (netlist L) + n) (sym (tops_counted L is)) ∙ ap (λ (N : Netlist). joined_pins N + len N.tops) same;
    stock = by.stock ∙ count_is t L is same names t.desk refl stock.spares.items rows;
    skipped = by.skipped ∙ skipped ∙ skipped_is t L is same names;
  }

  pub census_is : (desk : Desk) → desk ≡ t.desk → (stock : Stock) (c : Census) → map place_of_spare stock.spares.items ≡ map place_in_row (stock_rows desk L) → stock.skipped ≡ count_by (is_skipped_row desk L.nets) L.comps → IsCensusOfRows L stock c → IsCensusOf t c
  census_is desk e stock c = subst (λ (d : Desk). map place_of_spare stock.spares.items ≡ map place_in_row (stock_rows d L) → stock.skipped ≡ count_by (is_skipped_row d L.nets) L.comps → IsCensusOfRows L stock c → IsCensusOf t c) (sym e) (census_said stock c)
