-- An open base is one that the laws of patches speak of.
use Rattle.std.proofs.Common.{◌≡◌, ◌||◌, ℕ, Bool, true, false, List, [], ◌∷◌, Option, Some, None, refl, sym, ap, ◌∙◌, subst, inl, inr, ⊎_elim, true≢false}
use Rattle.std.specs.List.{AllByRecursion, Contains}
use Rattle.std.specs.Ordering.{eq_by_cmp}
use Rattle.std.specs.FinMap.{get}
use Rattle.std.specs.FinSet.{contains-from_list}
use Rattle.std.specs.Cmp.Lexicographic.{nat_list_cmp_total}
use Rattle.eco_text.specs.Words.{is_blank}
use Rattle.eco_def.specs.Named.{comp_names as named_comp}
use Rattle.eco_def.specs.View.{design_in}
use Rattle.eco_text.specs.Tokens.{can_name}
use Rattle.eco_issued_laws.proofs.Allowed.{NoBlank}
use Rattle.eco_issued_laws.proofs.Names.{name_when}
use Rattle.eco_issued_laws.proofs.Issuing.{comps_can_name}
use Rattle.eco_net.specs.Netlist.{Name, name_cmp, Netlist, Component, IsNet}
use Rattle.eco_net.specs.Drivers.{driven_at}
use Rattle.eco_net.proofs.Basics.{Has, contains_from_has, has_from_contains, has_of_map, same_Some, cmp_itself}
use Rattle.eco_elaborate.proofs.Found.{comp_said}
use Rattle.eco_elaborate.proofs.Members.{of_filter}
use Rattle.eco_net.specs.Bases.{bare, IsConstant, IsSpare, IsWithout, HasBlank, is_stock}
use Rattle.eco_patch_laws.proofs.Feeding.{spare_idle}
use Rattle.eco_patch_laws.proofs.Start.{bool_cases, any_has, bare_other, in_full}
use Rattle.eco_patch_laws.proofs.Taking.{constant_net}
use Rattle.eco_base.proofs.TieLaws.{ties_stay}
use Rattle.eco_base.proofs.Rest.{stock_spare as stock_is_spare}
use Rattle.eco_base.specs.Texts.{TextParts, AreRead}
use Rattle.eco_base.specs.Joined.{design_names, comp_names, kinds}
use Rattle.eco_base.specs.Bases.{listed_netlist, full_netlist, is_stock_at, is_in_stock, stock_names, frozen}
use Rattle.eco_base.specs.Laws.{OpenIsBase}

-- ---- names without a blank

no_blank_in : (bs : List ℕ) → NoBlank bs → Has bs 32 → ⊥
no_blank_in [] none h = h
no_blank_in (b ∷ bs) none (inl s) = true≢false (ap is_blank (sym s) ∙ none.0)
no_blank_in (b ∷ bs) none (inr h) = no_blank_in bs none.1 h

named_no_blank : (n : Name) → can_name n ≡ true → HasBlank n → ⊥
named_no_blank [] e c = true≢false (sym e)
named_no_blank (b ∷ bs) e c =
    let word = (name_when (b ∷ bs) e).0 in
    no_blank_in (b ∷ bs) (word.0, word.3) (has_from_contains (b ∷ bs) 32 c)

of_each : {A : Type 0} (P : A → Type 0) (xs : List A) (x : A) → AllByRecursion P xs → Has xs x → P x
of_each P (y ∷ xs) x all (inl s) = subst P s all.0
of_each P (y ∷ xs) x all (inr h) = of_each P xs x all.1 h
of_each P [] x all h = absurd h

module _ (t : TextParts) (read : AreRead t) where
  -- the name of a component has none
  pub no_blank : (c : Name) (x : Component) → get (full_netlist t).comps c ≡ Some x → HasBlank c → ⊥
  no_blank c x e =
      let design = design_in t.text t.design in
      let y = comp_said (kinds t) (t.desk.low ∷ t.desk.high ∷ []) (design_names t) c x e in
      let w = has_of_map named_comp design.comps y.0.0 y.1 in
      let can : can_name w.0.name.bytes ≡ true = of_each (λ c. can_name c.name.bytes ≡ true) design.comps w.0 (comps_can_name t.text design read.reading.read) w.1 in
      named_no_blank c (ap can_name (sym y.2 ∙ sym (ap (λ z. z.name) w.2)) ∙ can)

-- ---- the stock

module _ (t : TextParts) where
  at_stock : (c : Name) (o : Option Component) → get (listed_netlist t).comps c ≡ o → is_stock_at t.desk c o ≡ true → (x : Component) × (get (listed_netlist t).comps c ≡ Some x) × IsSpare x
  at_stock c None e s = absurd (true≢false (sym s))
  at_stock c (Some x) e s = (x, e, stock_is_spare t.desk c x s)

  pub stock_spare : (s : Name) → Contains (stock_names t) s → (x : Component) × (get (listed_netlist t).comps s ≡ Some x) × IsSpare x
  stock_spare s h = at_stock s (get (listed_netlist t).comps s) refl (of_filter (is_in_stock t) (comp_names t) s (has_from_contains (stock_names t) s h)).1

  -- the stock taken out drives nothing
  pub without_stock : IsWithout (listed_netlist t) (bare (frozen t))
  without_stock = record {
    nets = refl;
    tops = refl;
    kept = λ c x e. in_full (frozen t) c x e;
    others = λ c x e. ⊎_elim
        (λ s.
        let y = stock_spare c (contains_from_has (stock_names t) c (any_has c (stock_names t) s)) in
        inr (subst (λ z. (p n : Name) → driven_at (Some z) p ≡ Some n → ⊥) (same_Some (sym y.1 ∙ e)) ((spare_idle y.0 y.2).drives_none)))
        (λ f. inl (bare_other (frozen t) c f ∙ e))
        (bool_cases (is_stock (frozen t) c));
  }

-- ---- the law

ties_low : (low high : Name) → (eq_by_cmp name_cmp low low || (eq_by_cmp name_cmp low high || false)) ≡ true
ties_low low high = ap (λ b. b || (eq_by_cmp name_cmp low high || false)) (cmp_itself low)

ties_high : (low high : Name) → (eq_by_cmp name_cmp high low || (eq_by_cmp name_cmp high high || false)) ≡ true
ties_high low high = last (eq_by_cmp name_cmp high low) (eq_by_cmp name_cmp high high) (cmp_itself high)
  where
    last : (a b : Bool) → b ≡ true → (a || (b || false)) ≡ true
    last true b e = refl
    last false true e = refl
    last false false e = e

-- a tie net is one of the two
tie_net : (N : Netlist) (low high : Name) → IsNet N low → IsNet N high → (n : Name) → Has (low ∷ high ∷ []) n → IsNet N n
tie_net N low high l h n (inl e) = subst (IsNet N) e l
tie_net N low high l h n (inr (inl e)) = subst (IsNet N) e h
tie_net N low high l h n (inr (inr k)) = absurd k

pub open_is_base : OpenIsBase
open_is_base b open' =
    let t = b.texts in
    let low = t.desk.low in
    let high = t.desk.high in
    let low_is : IsConstant (bare (frozen t)) low false = ties_stay t.desk.prefixes (listed_netlist t) (bare (frozen t)) low false (without_stock t) open'.low_is in
    let high_is : IsConstant (bare (frozen t)) high true = ties_stay t.desk.prefixes (listed_netlist t) (bare (frozen t)) high true (without_stock t) open'.high_is in
    record {
      whole = record { names = open'.whole.names; rows = open'.whole.rows; pins = open'.whole.pins; tops = open'.whole.tops };
      loop_free = open'.loop_free;
      low_is = low_is;
      high_is = high_is;
      low_tie = contains-from_list nat_list_cmp_total (low ∷ high ∷ []) low ∙ ties_low low high;
      high_tie = contains-from_list nat_list_cmp_total (low ∷ high ∷ []) high ∙ ties_high low high;
      ties = λ n e. tie_net (full_netlist t) low high (constant_net (bare (frozen t)) low false low_is) (constant_net (bare (frozen t)) high true high_is) n (any_has n (low ∷ high ∷ []) (sym (contains-from_list nat_list_cmp_total (low ∷ high ∷ []) n) ∙ e));
      stock = stock_spare t;
      no_blank = no_blank t open'.read;
    }
