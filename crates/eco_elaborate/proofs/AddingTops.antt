-- What one top pin adds to a netlist, and what many add.
use Rattle.std.proofs.Common.{◌≡◌, ℕ, arith, true, false, List, [], ◌∷◌, ◌++◌, length, map, take, slice_get, Option, Some, None, refl, sym, ap, ◌∙◌, subst, inl, ⊎_elim, append_assoc, true≢false}
use Rattle.std.specs.List.{Contains}
use Rattle.std.specs.Option.{option_map}
use Rattle.std.specs.FinMap.{get, insert}
use Rattle.std.proofs.lemmas.Option.{slice_get-map}
use Rattle.std.proofs.lemmas.List.{length_push, length-append, append-nil}
use Rattle.eco_def.specs.Named.{NamedPin}
use Rattle.eco_net.specs.Netlist.{Name, Top, Netlist}
use Rattle.eco_net.specs.Listing.{Listing, netlist, net_name, AreDistinctNames}
use Rattle.eco_net.specs.Changes.{with_top}
use Rattle.eco_net.proofs.Basics.{contains_from_has, has_from_contains, has_of_map, has_append_left, has_append_right, get_same, get_other, same_Some, not_None}
use Rattle.eco_elaborate.specs.Netlists.{top_of}
use Rattle.eco_elaborate.specs.Stages.{TopsAre, AddsTops}
use Rattle.eco_elaborate.proofs.Names.{same_or_other}
use Rattle.eco_elaborate.proofs.Members.{has_of_append}
use Rattle.eco_elaborate.proofs.Adding.{in_front}

pub no_tops_added : (L : Listing) → AddsTops [] L L
no_tops_added L = record {
  tops = λ before are. subst (λ ps. TopsAre ps (netlist L)) (sym (append-nil before)) are;
  others = refl;
  rows = refl;
  few = omega arith;
}

pub tops_added : (xs ys : List NamedPin) (L M N : Listing) → AddsTops xs L M → AddsTops ys M N → AddsTops (xs ++ ys) L N
tops_added xs ys L M N a b = record {
  tops = λ before are. subst (λ ps. TopsAre ps (netlist N)) (append_assoc before xs ys) (b.tops (before ++ xs) (a.tops before are));
  others = b.others ∙ ap (λ (m : Netlist). record m { tops = (netlist N).tops }) a.others;
  rows = b.rows ∙ ap (λ (m : Listing). record m { tops = N.tops }) a.rows;
  few = let f = a.few in let g = b.few in omega (arith, length-append xs ys, f, g);
}

-- a top pin of this name, among these
abbrev HasTop : List NamedPin → Name → Top → Type 0
HasTop ps t x = (p : NamedPin) × Contains ps p × (p.supply ≡ false) × (p.name ≡ t) × (top_of p ≡ x)

module _ (L : Listing) (p : NamedPin) where
  wider : (before : List NamedPin) (t : Name) (x : Top) → HasTop before t x → HasTop (before ++ p ∷ []) t x
  wider before t x r = (r.0, contains_from_has (before ++ p ∷ []) r.0 (has_append_left before (p ∷ []) r.0 (has_from_contains before r.0 r.1)), r.2, r.3, r.4)

  -- a supply pin adds nothing
  pub top_passed : p.supply ≡ true → AddsTops (p ∷ []) L L
  top_passed supply = record {
    tops = λ before are t x. (
      λ e. wider before t x ((are t x).0 e),
      λ r. ⊎_elim
          (λ h. (are t x).1 (r.0, contains_from_has before r.0 h, r.2, r.3, r.4))
          (λ h. ⊎_elim (λ s. absurd (true≢false (sym supply ∙ ap (λ (z : NamedPin). z.supply) s ∙ r.2))) (λ z. absurd z) h)
          (has_of_append before (p ∷ []) r.0 (has_from_contains (before ++ p ∷ []) r.0 r.1)),
    );
    others = refl;
    rows = refl;
    few = omega arith;
  }

  module _ (signal : p.supply ≡ false) (new : get (netlist L).tops p.name ≡ None) where
    abbrev put : Netlist
    put = record (netlist L) { tops = insert (netlist L).tops p.name (top_of p) }

    with_one : (before : List NamedPin) → TopsAre before (netlist L) → TopsAre (before ++ p ∷ []) put
    with_one before are t x = (to, from)
      where
        to : get put.tops t ≡ Some x → HasTop (before ++ p ∷ []) t x
        to e = ⊎_elim
            (λ s. (p, contains_from_has (before ++ p ∷ []) p (has_append_right before (p ∷ []) p (inl refl)), signal, sym s, same_Some (sym (get_same (netlist L).tops p.name (top_of p)) ∙ ap (get put.tops) (sym s) ∙ e)))
            (λ n. wider before t x ((are t x).0 (sym (get_other (netlist L).tops p.name (top_of p) t n) ∙ e)))
            (same_or_other t p.name)

        from : HasTop (before ++ p ∷ []) t x → get put.tops t ≡ Some x
        from r = ⊎_elim
            (λ h.
            let e = (are t x).1 (r.0, contains_from_has before r.0 h, r.2, r.3, r.4) in
            get_other (netlist L).tops p.name (top_of p) t (λ s. not_None (sym e ∙ ap (get (netlist L).tops) s ∙ new)) ∙ e)
            (λ h. ⊎_elim
            (λ s. ap (get put.tops) (sym r.3 ∙ ap (λ (z : NamedPin). z.name) (sym s)) ∙ get_same (netlist L).tops p.name (top_of p) ∙ ap Some (ap top_of s ∙ r.4))
            (λ z. absurd z) h)
            (has_of_append before (p ∷ []) r.0 (has_from_contains (before ++ p ∷ []) r.0 r.1))

    pub new_top : (net : ℕ) → net_name L.nets net ≡ p.net → (M : Listing) → M ≡ record L { tops = L.tops ++ record { name = p.name; dir = p.dir; net = net } ∷ [] } →
        netlist M ≡ with_top (netlist L) p.name p.dir (net_name L.nets net) → AddsTops (p ∷ []) L M
    new_top net named M e f =
        let change : netlist M ≡ put = f ∙ ap (λ n. with_top (netlist L) p.name p.dir n) named in
        record {
          tops = λ before are. subst (TopsAre (before ++ p ∷ [])) (sym change) (with_one before are);
          others = change ∙ ap (λ ts. record (netlist L) { tops = ts }) (sym (ap (λ (m : Netlist). m.tops) change));
          rows = e ∙ ap (λ ts. record L { tops = ts }) (sym (ap (λ (m : Listing). m.tops) e));
          few = let l = ap (λ (m : Listing). length m.tops) e ∙ length_push L.tops _ in omega (arith, l);
        }

-- a name that stands once isn't that of a top pin before
pub top_is_new : {A : Type 0} (N : Netlist) (f : A → NamedPin) (ps : List A) (i : ℕ) (p : A) → AreDistinctNames (map (λ p. (f p).name) ps) → TopsAre (map f (take i ps)) N → slice_get ps i ≡ Some p → get N.tops (f p).name ≡ None
top_is_new {A = A} N f ps i p apart are e = none (get N.tops (f p).name) refl
  where
    named : (k : ℕ) (a : A) → slice_get ps k ≡ Some a → slice_get (map (λ p. (f p).name) ps) k ≡ Some (f a).name
    named k a g = slice_get-map (λ p. (f p).name) ps k ∙ ap (option_map (λ p. (f p).name)) g

    none : (o : Option Top) → get N.tops (f p).name ≡ o → get N.tops (f p).name ≡ None
    none None g = g
    none (Some x) g =
        let a = (are (f p).name x).0 g in
        let b = has_of_map f (take i ps) a.0 (has_from_contains (map f (take i ps)) a.0 a.1) in
        let k = in_front ps i b.0 b.1 in
        let same : k.0 ≡ i = apart k.0 i (f p).name (named k.0 b.0 k.2 ∙ ap Some (ap (λ (z : NamedPin). z.name) b.2 ∙ a.3)) (named i p e) in
        absurd (omega (arith, same, k.1))
