-- All live orders, from the base
use Rattle.std.proofs.Common.{◌≡◌, List, [], ◌∷◌, ◌++◌, refl, inl, inr, ⊎_elim, ◌⊎◌}
use Rattle.std.specs.List.{Contains}
use Rattle.std.specs.FinMap.{get}
use Rattle.eco_net.specs.Netlist.{Name, Netlist}
use Rattle.eco_net.proofs.Basics.{Has, contains_from_has, has_from_contains}
use Rattle.eco_patch_laws.specs.Realisation.{realised}
use Rattle.eco_net.specs.Bases.{Base, IsBase, bare}
use Rattle.eco_patch_laws.specs.Rules.{KeepsRules}
use Rattle.eco_patch_laws.specs.Mappings.{IsMapping, spares_of}
use Rattle.eco_patch_laws.specs.Meaning.{SameMeaning}
use Rattle.eco_patch_laws.specs.Live.{Commit, spare_place, with_commit, inserted_all, realised_all, abstract, concrete, under_test, KeepInTurn, IsGoodName, EachApart, AreLive}
use Rattle.eco_patch_laws.proofs.Names.{has_of_append}
use Rattle.eco_patch_laws.proofs.Sim.{Use, same_meaning}
use Rattle.eco_patch_laws.proofs.Spares.{spare_names}
use Rattle.eco_patch_laws.proofs.Keeping.{Keeps, keeps_from, mapped_from}
use Rattle.eco_patch_laws.proofs.Step.{Related, fresh, off_tie, step}
use Rattle.eco_patch_laws.proofs.Relabel.{keeps_named}
use Rattle.eco_patch_laws.proofs.Start.{start}

module _ (base : Base) (is : IsBase base) where
  -- what a commit has in common with those before it: no name and no spare
  record New (names used : List Name) (c : Commit) : Type 0 where
    good : IsGoodName c.order.name
    mapped : IsMapping base c.order c.placements
    own : Has names c.order.name → ⊥
    free : (s : Name) → Has (spare_names c.placements) s → Has used s → ⊥

  -- names that live orders have are not empty
  abbrev AreFilled : List Name → Type 0
  AreFilled names = Has names [] → ⊥

  next : (N M : Netlist) (names used : List Name) (uses : List Use) → Related base N M names used uses → AreFilled names → (c : Commit) → KeepsRules (bare base) N (under_test N c.order) c.order → New names used c
      → (more : List Use) × Related base (with_commit base N c) (realised base.low base.high M c.order c.placements) (c.order.name ∷ names) (spare_names c.placements ++ used) more
  next N M names used uses rel filled c keep new =
      let keeps : Keeps (bare base) N (under_test N c.order) c.order = keeps_from (bare base) N (under_test N c.order) c.order keep in
      let blank : Has c.order.name 32 → ⊥ = λ h. new.good.1 (contains_from_has c.order.name 32 h) in
      let named = keeps_named base.low base.high c.order.name (spare_place base c.placements) (bare base) N c.order keeps new.good.0 blank
      (fresh base is N M names used uses rel [] (λ h. h) filled)
      (fresh base is N M names used uses rel c.order.name blank new.own)
      rel.sim.low_is rel.sim.high_is
      (off_tie base is N M names used uses rel c.order (under_test N c.order) keeps base.low is.low_tie)
      (off_tie base is N M names used uses rel c.order (under_test N c.order) keeps base.high is.high_tie) in
      (_, step base is N M names used uses rel c.order.name (spare_place base c.placements) c.order c.placements named blank new.own (mapped_from base used c.order c.placements new.mapped new.free))

  abbrev IsUsed : List Commit → Name → Type 0
  IsUsed live s = (c : Commit) × Has live c × Has (spare_names c.placements) s

  onward : (live : List Commit) (N M : Netlist) (names used : List Name) (uses : List Use) → Related base N M names used uses → AreFilled names → KeepInTurn base N live → ((c : Commit) → Has live c → New names used c) → EachApart live
      → (names' : List Name) × (used' : List Name) × (uses' : List Use) × Related base (inserted_all base N live) (realised_all base M live) names' used' uses' × ((s : Name) → Has used' s → Has used s ⊎ IsUsed live s)
  onward [] N M names used uses rel filled keep new apart = (names, used, uses, rel, λ s h. inl h)
  onward (c ∷ cs) N M names used uses rel filled keep new apart =
      let this : New names used c = new c (inl refl) in
      let r = next N M names used uses rel filled c keep.0 this in
      let o = onward cs (with_commit base N c) (realised base.low base.high M c.order c.placements) (c.order.name ∷ names) (spare_names c.placements ++ used) r.0 r.1
      (λ h. ⊎_elim (λ e. this.good.0 e) (λ i. filled i) h)
      keep.1
      (λ d h.
      let later : New names used d = new d (inr h) in
      let a = apart.0 d (contains_from_has cs d h) in
      record {
        good = later.good;
        mapped = later.mapped;
        own = λ k. ⊎_elim (λ e. a.names e) (λ j. later.own j) k;
        free = λ s i k. ⊎_elim (λ j. a.spares s (contains_from_has (spare_names c.placements) s j) (contains_from_has (spare_names d.placements) s i)) (λ j. later.free s i j) (has_of_append (spare_names c.placements) used s k);
      })
      apart.1 in (
        o.0,
        o.1,
        o.2,
        o.3,
        λ s h. ⊎_elim
            (λ i. ⊎_elim (λ j. inr (c, inl refl, j)) (λ j. inl j) (has_of_append (spare_names c.placements) used s i))
            (λ i. inr (i.0, inr i.1, i.2))
            (o.4 s h),
      )

  pub related : (live : List Commit) → AreLive base live → (names : List Name) × (used : List Name) × (uses : List Use) × Related base (abstract base live) (concrete base live) names used uses × ((s : Name) → Has used s → Has [] s ⊎ IsUsed live s)
  related live a = onward live (bare base) base.full [] [] [] (start base is) (λ h. h) a.keep
      (λ c h. record { good = a.names c (contains_from_has live c h); mapped = a.mapped c (contains_from_has live c h); own = λ k. k; free = λ s i k. k })
      a.apart

pub live_means_same : (base : Base) (live : List Commit) → IsBase base → AreLive base live → SameMeaning (abstract base live) (concrete base live)
live_means_same base live is a =
    let r = related base is live a in
    same_meaning base.low base.high _ _ r.2 r.3.sim r.3.loop_free

pub free_stock_rests : (base : Base) (live : List Commit) → IsBase base → AreLive base live → (s : Name) → Contains base.stock s → ((c : Commit) → Contains live c → Contains (spares_of c.placements) s → ⊥) → get (concrete base live).comps s ≡ get base.full.comps s
free_stock_rests base live is a s h free =
    let r = related base is live a in
    r.3.stock s (has_from_contains base.stock s h) (λ u. ⊎_elim (λ k. k) (λ k. free k.0 (contains_from_has live k.0 k.1) (contains_from_has (spares_of k.0.placements) s k.2)) (r.4 s u))
