-- The stock by the rows of a listing is that by the names of the design.
use Rattle.std.proofs.Common.{◌≡◌, ◌+◌, Bool, true, false, cond, not, ◌&&◌, List, [], ◌∷◌, map, Option, Some, count_by, slice_get, refl, sym, ap, ◌∙◌, subst, inl, inr, true≢false}
use Rattle.std.specs.Prelude.{IsSome, is_some}
use Rattle.std.specs.List.{All, AllZip, filter, position}
use Rattle.std.specs.Str.{bytes_eq}
use Rattle.std.specs.FinMap.{get}
use Rattle.std.proofs.lemmas.List.Sums.{sum_by-cons}
use Rattle.std.proofs.lemmas.List.Elements.{All-nil, All-cons, All-head, All-tail}
use Rattle.eco_common.specs.declared.geometry.Point.{Point}
use Rattle.eco_func.specs.Masters.{MasterTables}
use Rattle.eco_net.specs.Netlist.{Name, Netlist}
use Rattle.eco_net.specs.declared.kind.Kind.TheVariants.{Gate}
use Rattle.eco_net.specs.declared.rows.CompRow.{CompRow}
use Rattle.eco_net.specs.Listing.{Listing, netlist, component, given_kind, AreDistinctNames, comp_names as listed_names}
use Rattle.eco_net.specs.Kept.{IsListing}
use Rattle.eco_net.proofs.Basics.{Has, same_Some, same_head}
use Rattle.eco_net.proofs.GateNames.{at_has}
use Rattle.eco_net.proofs.Named.{comp_is}
use Rattle.eco_elaborate.proofs.Members.{of_filter}
use Rattle.eco_desk_file.specs.Desk.{is_spare_named}
use Rattle.eco_base.specs.declared.stock.Spare.{Spare}
use Rattle.eco_base.specs.Stock.{is_gate, is_idle}
use Rattle.eco_base.specs.Found.{is_stock_row, is_skipped_row, place_in_row, place_of_spare}
use Rattle.eco_base.specs.Texts.{TextParts}
use Rattle.eco_base.specs.Stocks.{listed_netlist, is_stock_at, is_in_stock, stock_names, is_skipped, entry_at, IsSpareOf}
use Rattle.eco_base.specs.Joined.{comp_names}
use Rattle.eco_base.proofs.Lists.{filter_mapped, map_twice, same_tail, not_nil, nil_not}
use Rattle.eco_base.proofs.SpareEntries.{place_of, entry_of_gate}

-- ---- lists

pub count_mapped : {A B : Type 0} (f : A → B) (P : B → Bool) (Q : A → Bool) (xs : List A) → ((x : A) → Has xs x → P (f x) ≡ Q x) → count_by Q xs ≡ count_by P (map f xs)
count_mapped f P Q [] e = refl
count_mapped f P Q (x ∷ xs) e =
    sum_by-cons (λ y. cond (Q y) 1 0) x xs
    ∙ ap (λ b. cond b 1 0 + count_by Q xs) (sym (e x (inl refl)))
    ∙ ap (λ n. cond (P (f x)) 1 0 + n) (count_mapped f P Q xs (λ y h. e y (inr h)))
    ∙ sym (sum_by-cons (λ y. cond (P y) 1 0) (f x) (map f xs))

and_true : (a b : Bool) → (a && b) ≡ true → (a ≡ true) × (b ≡ true)
and_true true b e = (refl, e)
and_true false b e = absurd (true≢false (sym e))

-- ---- a listing of the texts' netlist

module _ (t : TextParts) (L : Listing) (is : IsListing L) (same : netlist L ≡ listed_netlist t) (names : listed_names L ≡ comp_names t) where
  abbrev stock_row : CompRow → Bool
  stock_row = is_stock_row t.desk L.nets

  pub found : (r : CompRow) → Has L.comps r → get (listed_netlist t).comps r.name ≡ Some (component L.nets r)
  found r h = let i = at_has L.comps r h in ap (λ (N : Netlist). get N.comps r.name) (sym same) ∙ comp_is L is i.0 r i.1

  pub stock_at : (r : CompRow) → Has L.comps r → is_in_stock t r.name ≡ stock_row r
  stock_at r h = ap (is_stock_at t.desk r.name) (found r h)

  pub named_stock : map (λ (r : CompRow). r.name) (filter stock_row L.comps) ≡ stock_names t
  named_stock = filter_mapped (λ (r : CompRow). r.name) (is_in_stock t) stock_row L.comps stock_at ∙ ap (filter (is_in_stock t)) names

  pub skipped_is : count_by (is_skipped_row t.desk L.nets) L.comps ≡ count_by (is_skipped t) (comp_names t)
  skipped_is =
      count_mapped (λ (r : CompRow). r.name) (is_skipped t) (is_skipped_row t.desk L.nets) L.comps (λ r h. ap (λ b. is_spare_named t.desk.prefixes r.name && not b) (stock_at r h))
      ∙ ap (count_by (is_skipped t)) names

  -- ---- the spares that were found

  abbrev SpareIs : CompRow → Spare → Type 0
  SpareIs r s = (r.name ≡ s.name) × (r.place ≡ Some s.centre)

  abbrev AtNumber : Spare → Type 0
  AtNumber s = slice_get (listed_names L) s.comp ≡ Some s.name

  pair_is : (r : CompRow) (s : Spare) → place_of_spare s ≡ place_in_row r → SpareIs r s
  pair_is r s e = (ap (λ (p : Name × Option Point). p.0) (sym e), ap (λ (p : Name × Option Point). p.1) (sym e))

  gate_of : (r : CompRow) → stock_row r ≡ true → is_gate (given_kind r.kind) ≡ true
  gate_of r e =
      let named = and_true (is_spare_named t.desk.prefixes r.name) _ e in
      let placed = and_true _ (is_idle t.desk (component L.nets r)) named.1 in
      (and_true (is_gate (given_kind r.kind)) _ placed.1).0

  abbrev HasEntry : Spare → Type 0
  HasEntry s = IsSome (entry_at t s.comp)

  -- what the component of a spare's number computes
  entry_row : (r : CompRow) (s : Spare) → Has (filter stock_row L.comps) r → SpareIs r s → AtNumber s → (f : MasterTables) × (entry_at t s.comp ≡ Some f) × (given_kind r.kind ≡ given_kind (Gate f))
  entry_row r s h of at =
      let g = of_filter stock_row L.comps r h in
      entry_of_gate t (subst AreDistinctNames names is.comps) s.comp s.name (component L.nets r) (ap (λ ns. slice_get ns s.comp) (sym names) ∙ at)
      (ap (get (listed_netlist t).comps) (sym of.0) ∙ found r g.0) (gate_of r g.1)

  pub entry_rows : (rows : List CompRow) (spares : List Spare) → ((r : CompRow) → Has rows r → Has (filter stock_row L.comps) r) → map place_of_spare spares ≡ map place_in_row rows → All AtNumber spares → All HasEntry spares
  entry_rows rows [] in' e at = All-nil HasEntry
  entry_rows [] (s ∷ spares) in' e at = absurd (not_nil e)
  entry_rows (r ∷ rows) (s ∷ spares) in' e at =
      let f = entry_row r s (in' r (inl refl)) (pair_is r s (same_head e)) (All-head AtNumber s spares at) in
      All-cons HasEntry s spares (ap is_some f.1) (entry_rows rows spares (λ q h. in' q (inr h)) (same_tail e) (All-tail AtNumber s spares at))

  spare_of : (r : CompRow) (s : Spare) (f : MasterTables) → Has (filter stock_row L.comps) r → SpareIs r s → AtNumber s → Some f ≡ entry_at t s.comp → IsSpareOf t s f
  spare_of r s f h of at k =
      let g = entry_row r s h of at in
      record {
        comp = component L.nets r;
        found = ap (get (listed_netlist t).comps) (sym of.0) ∙ found r (of_filter stock_row L.comps r h).0;
        place = of.1;
        number = ap (position (bytes_eq s.name)) (sym names) ∙ place_of (listed_names L) s.comp s.name is.comps at;
        entry = sym k;
        function = g.2 ∙ ap (λ (f : MasterTables). given_kind (Gate f)) (sym (same_Some (k ∙ g.1)));
      }

  pub spares_of : (rows : List CompRow) (spares : List Spare) (fs : List MasterTables) → ((r : CompRow) → Has rows r → Has (filter stock_row L.comps) r) → map place_of_spare spares ≡ map place_in_row rows
      → All AtNumber spares → map (λ f. Some f) fs ≡ map (λ (s : Spare). entry_at t s.comp) spares → AllZip (IsSpareOf t) spares fs
  spares_of rows [] [] in' e at k = tt
  spares_of rows [] (f ∷ fs) in' e at k = absurd (not_nil k)
  spares_of rows (s ∷ spares) [] in' e at k = absurd (nil_not k)
  spares_of [] (s ∷ spares) (f ∷ fs) in' e at k = absurd (not_nil e)
  spares_of (r ∷ rows) (s ∷ spares) (f ∷ fs) in' e at k = (
    spare_of r s f (in' r (inl refl)) (pair_is r s (same_head e)) (All-head AtNumber s spares at) (same_head k),
    spares_of rows spares fs (λ q h. in' q (inr h)) (same_tail e) (All-tail AtNumber s spares at) (same_tail k),
  )

  -- their names
  pub stock_named : (spares : List Spare) → map place_of_spare spares ≡ map place_in_row (filter stock_row L.comps) → map (λ (s : Spare). s.name) spares ≡ stock_names t
  stock_named spares e =
      sym (map_twice (λ (p : Name × Option Point). p.0) place_of_spare spares)
      ∙ ap (map (λ (p : Name × Option Point). p.0)) e
      ∙ map_twice (λ (p : Name × Option Point). p.0) place_in_row (filter stock_row L.comps)
      ∙ named_stock
