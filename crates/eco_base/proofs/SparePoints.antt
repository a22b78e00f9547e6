-- Spares are placed in the design.
use Rattle.std.proofs.Common.{◌≡◌, ℕ, Bool, true, false, cond, List, [], ◌∷◌, map, Option, Some, None, is_some, IsSome, option_and_then, slice_get, refl, sym, ap, ◌∙◌, subst, inl, inr}
use Rattle.std.specs.Option.{option_map}
use Rattle.std.proofs.lemmas.Option.{slice_get-map}
use Rattle.eco_common.specs.declared.geometry.Point.{Point}
use Rattle.eco_def.specs.declared.design.Comp.{Comp}
use Rattle.eco_def.specs.declared.place.Place.{Place}
use Rattle.eco_def.specs.Named.{NamedComp, comp_names}
use Rattle.eco_def.specs.View.{comp_in}
use Rattle.eco_net.specs.Among.{Has}
use Rattle.eco_net.specs.Netlist.{Name, Component}
use Rattle.eco_net.specs.declared.rows.CompRow.{CompRow}
use Rattle.eco_net.specs.Listing.{Listing, component}
use Rattle.eco_net.specs.Kept.{IsListing}
use Rattle.eco_net.proofs.Basics.{contains_from_has, has_map, same_head, not_None}
use Rattle.eco_elaborate.specs.Stated.{named_comp}
use Rattle.eco_elaborate.proofs.Found.{comp_said}
use Rattle.eco_desk_file.specs.Desk.{Desk}
use Rattle.eco_base.specs.Found.{is_stock_row}
use Rattle.eco_base.specs.SparePoints.{point_at, ArePlacedAlike}
use Rattle.eco_base.specs.Texts.{TextParts}
use Rattle.eco_base.specs.Joined.{design_names, kinds, IsJoined}
use Rattle.eco_base.proofs.Lists.{row_at, map_twice}
use Rattle.eco_base.proofs.StockRows.{found}

some_mapped : {A B : Type 0} (f : A → B) (o : Option A) → is_some (option_map f o) ≡ is_some o
some_mapped f None = refl
some_mapped f (Some x) = refl

-- ---- a component that is stock is placed

placed_point : (c : Comp) → is_some c.place ≡ true → IsSome (option_map (λ (p : Place). p.point) c.place)
placed_point c e = some_mapped (λ (p : Place). p.point) c.place ∙ e

pub placed_at : (desk : Desk) (L : Listing) (comps : List Comp) (i : ℕ) (centre : Point) → ArePlacedAlike L.comps comps → option_map (λ r. cond (is_stock_row desk L.nets r) r.place None) (slice_get L.comps i) ≡ Some (Some centre) → IsSome (point_at comps i)
placed_at desk L comps i centre alike e =
    let w = row_at (λ (r : CompRow). cond (is_stock_row desk L.nets r) r.place None) (slice_get L.comps i) (Some centre) e in
    let placed : is_some w.0.place ≡ true = go (is_stock_row desk L.nets w.0) w.0.place w.2 in
    let at : option_map (λ (c : Comp). is_some c.place) (slice_get comps i) ≡ Some true =
    sym (slice_get-map (λ (c : Comp). is_some c.place) comps i) ∙ ap (λ (bs : List Bool). slice_get bs i) (sym alike) ∙ slice_get-map (λ (r : CompRow). is_some r.place) L.comps i
    ∙ ap (option_map (λ (r : CompRow). is_some r.place)) w.1 ∙ ap Some placed in
    let v = row_at (λ (c : Comp). is_some c.place) (slice_get comps i) true at in
    subst (λ o. IsSome (option_and_then (λ c. option_map (λ p. p.point) c.place) o)) (sym v.1) (placed_point v.0 v.2)
  where
    go : (b : Bool) (place : Option Point) → cond b place None ≡ Some centre → is_some place ≡ true
    go true place e = ap is_some e
    go false place e = absurd (not_None (sym e))

-- ---- the netlist of a base's texts

same_tail : {A : Type 0} {x y : A} {xs ys : List A} → x ∷ xs ≡ y ∷ ys → xs ≡ ys
same_tail {A = A} {xs = xs} e = ap rest e
  where
    rest : List A → List A
    rest [] = xs
    rest (z ∷ zs) = zs

-- lists with the same names, where the same name is placed alike
alike : (name : Comp → Name) (rows : List CompRow) (comps : List Comp) → map (λ (r : CompRow). r.name) rows ≡ map name comps
    → ((r : CompRow) (c : Comp) → Has rows r → Has comps c → r.name ≡ name c → is_some r.place ≡ is_some c.place) → ArePlacedAlike rows comps
alike name [] [] e each = refl
alike name [] (c ∷ comps) e each = absurd (cc)
alike name (r ∷ rows) [] e each = absurd (cc)
alike name (r ∷ rows) (c ∷ comps) e each =
    let here : is_some r.place ≡ is_some c.place = each r c (inl refl) (inl refl) (same_head e) in
    let rest : ArePlacedAlike rows comps = alike name rows comps (same_tail e) (λ r' c' h k. each r' c' (inr h) (inr k)) in
    λ i. here i ∷ rest i

module _ (t : TextParts) (L : Listing) (is : IsListing L) (joined : IsJoined t L) where
  one_placed : (r : CompRow) (c : Comp) → Has L.comps r → Has t.design.comps c → r.name ≡ (named_comp t.text c).name → is_some r.place ≡ is_some c.place
  one_placed r c h k e =
      let there = found t L is joined.listed.netlist joined.numbers r h in
      let y = comp_said (kinds t) [] (design_names t) r.name (component L.nets r) there in
      let comp_in_design : Has (design_names t).comps (named_comp t.text c) = subst (λ cs. Has cs (named_comp t.text c)) (sym (map_twice comp_names (comp_in t.text) t.design.comps)) (has_map (named_comp t.text) t.design.comps c k) in
      let same : y.0.0 ≡ named_comp t.text c =
      joined.listed.consistent.once.comps y.0.0 (named_comp t.text c) (contains_from_has (design_names t).comps y.0.0 y.1) (contains_from_has (design_names t).comps (named_comp t.text c) comp_in_design) (y.2 ∙ e) in
      ap (λ (x : Component). is_some x.place) (sym y.4) ∙ some_mapped _ y.0.0.place ∙ ap (λ (z : NamedComp). is_some z.place) same

  pub placed_alike : ArePlacedAlike L.comps t.design.comps
  placed_alike = alike (λ c. (named_comp t.text c).name) L.comps t.design.comps (joined.numbers ∙ map_twice (λ c. c.name) (named_comp t.text) t.design.comps) one_placed
